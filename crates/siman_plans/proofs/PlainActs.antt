-- What the plain line of a move says: what a line says reads back from its plain line.
use Rattle.std.proofs.Common.{◌≡◌, ℕ, Bool, true, false, cond, List, [], ◌∷◌, ◌++◌, map, Some, None, refl, ap, subst, ◌∙◌, arith, append_assoc, append-nil}
use Rattle.std.specs.Prelude.{decimal, codes}
use Rattle.std.specs.List.{flat_map}
use Rattle.std.specs.Str.{bytes_eq}
use Rattle.dis_records.specs.declared.address.SiteApplication.{SiteApplication}
use Rattle.dis_records.specs.declared.datum.FixedDatum.{FixedDatum}
use Rattle.dis_records.specs.declared.entity.EntityId.{EntityId}
use Rattle.dis_records.specs.Texts.{entity_text}
use Rattle.siman_pdus.specs.declared.pdu.Body.{Body}
use Rattle.siman_pdus.specs.declared.pdu.Body.TheVariants as bodies
use Rattle.siman_print.specs.Spelled.{address_text}
use Rattle.byte_files.specs.Text.{is_ascii, words_of, number_to, ◌>>=◌}
use Rattle.siman_scripts.specs.declared.act.Act.{Act}
use Rattle.siman_scripts.specs.declared.act.Act.TheVariants.{Command, Deliver, Tick, Tell}
use Rattle.siman_scripts.specs.declared.statement.Statement.{Statement}
use Rattle.siman_scripts.specs.declared.statement.Statement.TheVariants as says
use Rattle.siman_scripts.specs.Statement.{address_of, target_of, numbers_of, datum_of, exercise_form, station_form, opening_form, fixed_form, action_form, at_form, never, alone, action_body, query_body, set_body, plain_body, body_of, command_act, tell_act, act_of, acting_form, deliver_form, form_of, is_passed_over, statement_of}
use Rattle.siman_plans.specs.Plain.{behind, order_name, order_words}
use Rattle.siman_plans.proofs.PlainWords.{Clean, AllClean, Spelt, spelt_again, GoodTarget}
use Rattle.siman_plans.proofs.PlainForms.{some_is, number_clean, target_again, GoodDatum, datum_again, datum_list, datum_back, datum_clean, exercise_again, station_again, at_again, opening_again, fixed_again, action_again, one_text, step, ended, IsSaid, IsSpelled}

-- Acts.

deliver_text : (k a : List ℕ) → codes "deliver " ++ k ++ codes " " ++ a ++ codes "\n" ≡ codes "deliver" ++ ended (k ∷ a ∷ [])
deliver_text k a = simp append_assoc refl

deliver_by : (a : SiteApplication) (n : ℕ) (v w : List ℕ) → address_of v ≡ Some a → number_to 4294967295 w ≡ Some n
    → form_of (codes "deliver" ∷ w ∷ v ∷ []) ≡ Some (says.Does a (Deliver n))
deliver_by a n v w address number = rw number (rw address refl)

pub deliver_spelt : (n : ℕ) → Spelt 4294967295 n → IsSaid (Deliver n)
deliver_spelt n s a good = record {
  name = codes "deliver";
  words = decimal n ∷ address_text a ∷ [];
  is = deliver_text (decimal n) (address_text a);
  name_clean = refl;
  begins = refl;
  clean = (number_clean 4294967295 n s, (good.clean, tt));
  form = deliver_by a n (address_text a) (decimal n) good.reads s.reads;
}

deliver_again : (ws : List (List ℕ)) (s : Statement) → deliver_form ws ≡ Some s → IsSpelled s
deliver_again [] s h = absurd cc
deliver_again (w ∷ []) s h = absurd cc
deliver_again (w ∷ v ∷ []) s h =
    let n = step (number_to 4294967295 w) _ s h in
    let a = step (address_of v) _ s n.2 in
    subst IsSpelled (some_is (says.Does a.0 (Deliver n.0)) s a.2) (deliver_spelt n.0 (spelt_again 4294967295 n.0 w (omega arith) n.1))
deliver_again (w ∷ v ∷ x ∷ ws) s h = absurd cc

tick_by : (a : SiteApplication) (v : List ℕ) → address_of v ≡ Some a → form_of (codes "tick" ∷ v ∷ []) ≡ Some (says.Does a Tick)
tick_by a v address = rw address refl

tick_spelt : IsSaid Tick
tick_spelt a good = record {
  name = codes "tick";
  words = address_text a ∷ [];
  is = refl;
  name_clean = refl;
  begins = refl;
  clean = (good.clean, tt);
  form = tick_by a (address_text a) good.reads;
}

tell_by : (a : SiteApplication) (n : ℕ) (v w : List ℕ) → address_of v ≡ Some a → number_to 65535 w ≡ Some n → form_of (codes "tell" ∷ v ∷ w ∷ []) ≡ Some (says.Does a (Tell n))
tell_by a n v w address number = rw address (rw number refl)

tell_spelt : (n : ℕ) → Spelt 65535 n → IsSaid (Tell n)
tell_spelt n s a good = record {
  name = codes "tell";
  words = address_text a ∷ decimal n ∷ [];
  is = one_text (codes "tell ") (address_text a) (decimal n);
  name_clean = refl;
  begins = refl;
  clean = (good.clean, (number_clean 65535 n s, tt));
  form = tell_by a n (address_text a) (decimal n) good.reads s.reads;
}

tick_again : (ws : List (List ℕ)) (act : Act) → alone ws Tick ≡ Some act → IsSaid act
tick_again [] act h = subst IsSaid (some_is Tick act h) tick_spelt
tick_again (w ∷ ws) act h = absurd cc

tell_again : (ws : List (List ℕ)) (act : Act) → tell_act ws ≡ Some act → IsSaid act
tell_again [] act h = absurd cc
tell_again (w ∷ []) act h =
    let n = step (number_to 65535 w) _ act h in
    subst IsSaid (some_is (Tell n.0) act n.2) (tell_spelt n.0 (spelt_again 65535 n.0 w (omega arith) n.1))
tell_again (w ∷ x ∷ ws) act h = absurd cc

-- Orders.

-- the body of an order, whose words read back
pub record GoodBody (body : Body) : Type 0 where
  pub words : List (List ℕ)
  pub is : order_words body ++ (10 ∷ []) ≡ ended words
  pub clean : AllClean words
  pub name_clean : Clean (order_name body)
  pub begins : is_passed_over (order_name body) ≡ false
  pub reads : body_of (order_name body) words ≡ Some body
  pub acts : (ws : List (List ℕ)) → form_of (order_name body ∷ ws) ≡ acting_form (order_name body) ws
  pub orders : (ws : List (List ℕ)) → act_of (order_name body) ws ≡ command_act (order_name body) ws

order_text : (n a t w end : List ℕ) → w ++ (10 ∷ []) ≡ end → n ++ codes " " ++ a ++ codes " " ++ t ++ w ++ codes "\n" ≡ n ++ (32 ∷ (a ++ (32 ∷ (t ++ end))))
order_text n a t w end h = simp append_assoc (rw h refl)

order_by : (a : SiteApplication) (id : EntityId) (body : Body) (name v w : List ℕ) (ws : List (List ℕ)) → address_of v ≡ Some a → target_of w ≡ Some id → body_of name ws ≡ Some body
    → ((xs : List (List ℕ)) → form_of (name ∷ xs) ≡ acting_form name xs) → ((xs : List (List ℕ)) → act_of name xs ≡ command_act name xs)
    → form_of (name ∷ v ∷ w ∷ ws) ≡ Some (says.Does a (Command (record { target = id; body = body })))
order_by a id body name v w ws address target reads acts orders =
    acts (v ∷ w ∷ ws) ∙ rw address (rw (orders (w ∷ ws)) (rw target (rw reads refl)))

order_spelt : (id : EntityId) (body : Body) → GoodTarget id → GoodBody body → IsSaid (Command (record { target = id; body = body }))
order_spelt id body target g a good = record {
  name = order_name body;
  words = address_text a ∷ entity_text id ∷ g.words;
  is = order_text (order_name body) (address_text a) (entity_text id) (order_words body) (ended g.words) g.is;
  name_clean = g.name_clean;
  begins = g.begins;
  clean = (good.clean, (target.clean, g.clean));
  form = order_by a id body (order_name body) (address_text a) (entity_text id) g.words good.reads target.reads g.reads g.acts g.orders;
}

bare_body : (body : Body) → order_words body ≡ [] → Clean (order_name body) → is_passed_over (order_name body) ≡ false → body_of (order_name body) [] ≡ Some body
    → ((ws : List (List ℕ)) → form_of (order_name body ∷ ws) ≡ acting_form (order_name body) ws)
    → ((ws : List (List ℕ)) → act_of (order_name body) ws ≡ command_act (order_name body) ws) → GoodBody body
bare_body body none clean begins reads acts orders = record {
  words = [];
  is = ap (λ (z : List ℕ). z ++ (10 ∷ [])) none;
  clean = tt;
  name_clean = clean;
  begins = begins;
  reads = reads;
  acts = acts;
  orders = orders;
}

action_body_again : (ws : List (List ℕ)) (body : Body) → action_body ws ≡ Some body → GoodBody body
action_body_again [] body h = absurd cc
action_body_again (x ∷ []) body h =
    let n = step (number_to 4294967295 x) _ body h in
    let s = spelt_again 4294967295 n.0 x (omega arith) n.1 in
    subst GoodBody (some_is (bodies.ActionRequest 0 n.0 (record { fixed = []; variable = [] })) body n.2)
    (record { words = decimal n.0 ∷ []; is = refl; clean = (number_clean 4294967295 n.0 s, tt); name_clean = refl; begins = refl; reads = rw s.reads refl; acts = λ xs. refl; orders = λ xs. refl })
action_body_again (x ∷ y ∷ ws) body h = absurd cc

abbrev AllSpelt : List ℕ → Type 0
AllSpelt [] = Unit {0}
AllSpelt (n ∷ ns) = Spelt 4294967295 n × AllSpelt ns

numbers_again : (ws : List (List ℕ)) (ns : List ℕ) → numbers_of ws ≡ Some ns → AllSpelt ns
numbers_again [] ns h = subst AllSpelt (some_is [] ns h) tt
numbers_again (w ∷ ws) ns h =
    let n = step (number_to 4294967295 w) _ ns h in
    let rest = step (numbers_of ws) _ ns n.2 in
    subst AllSpelt (some_is (n.0 ∷ rest.0) ns rest.2) (spelt_again 4294967295 n.0 w (omega arith) n.1, numbers_again ws rest.0 rest.1)

numbers_by : (n : ℕ) (ns : List ℕ) (w : List ℕ) (ws : List (List ℕ)) → number_to 4294967295 w ≡ Some n → numbers_of ws ≡ Some ns → numbers_of (w ∷ ws) ≡ Some (n ∷ ns)
numbers_by n ns w ws number rest = rw number (rw rest refl)

numbers_back : (ns : List ℕ) → AllSpelt ns → numbers_of (map decimal ns) ≡ Some ns
numbers_back [] s = refl
numbers_back (n ∷ ns) s = numbers_by n ns (decimal n) (map decimal ns) s.0.reads (numbers_back ns s.1)

numbers_clean : (ns : List ℕ) → AllSpelt ns → AllClean (map decimal ns)
numbers_clean [] s = tt
numbers_clean (n ∷ ns) s = (number_clean 4294967295 n s.0, numbers_clean ns s.1)

numbers_text : (ns : List ℕ) → flat_map behind ns ++ (10 ∷ []) ≡ ended (map decimal ns)
numbers_text [] = refl
numbers_text (n ∷ ns) =
    ap (λ (z : List ℕ). 32 ∷ z) (append_assoc (decimal n) (flat_map behind ns) (10 ∷ []) ∙ ap (λ (z : List ℕ). decimal n ++ z) (numbers_text ns))

query_by : (n : ℕ) (ns : List ℕ) (w : List ℕ) (ws : List (List ℕ)) → numbers_of (w ∷ ws) ≡ Some (n ∷ ns)
    → body_of (codes "query") (w ∷ ws) ≡ Some (bodies.DataQuery 0 0 (record { fixed = n ∷ ns; variable = [] }))
query_by n ns w ws h = rw h refl

query_spelt : (n : ℕ) (ns : List ℕ) → AllSpelt (n ∷ ns) → GoodBody (bodies.DataQuery 0 0 (record { fixed = n ∷ ns; variable = [] }))
query_spelt n ns s = record {
  words = map decimal (n ∷ ns);
  is = numbers_text (n ∷ ns);
  clean = numbers_clean (n ∷ ns) s;
  name_clean = refl;
  begins = refl;
  reads = query_by n ns (decimal n) (map decimal ns) (numbers_back (n ∷ ns) s);
  acts = λ xs. refl;
  orders = λ xs. refl;
}

query_again : (ws : List (List ℕ)) (body : Body) → query_body ws ≡ Some body → GoodBody body
query_again [] body h = absurd cc
query_again (w ∷ ws) body h =
    let ids = step (numbers_of (w ∷ ws)) _ body h in
    let n = step (number_to 4294967295 w) _ ids.0 ids.1 in
    let rest = step (numbers_of ws) _ ids.0 n.2 in
    let same : (n.0 ∷ rest.0) ≡ ids.0 = some_is (n.0 ∷ rest.0) ids.0 rest.2 in
    let s : AllSpelt (n.0 ∷ rest.0) = (spelt_again 4294967295 n.0 w (omega arith) n.1, numbers_again ws rest.0 rest.1) in
    subst GoodBody (ap (λ (ns : List ℕ). bodies.DataQuery 0 0 (record { fixed = ns; variable = [] })) same ∙ some_is _ body ids.2) (query_spelt n.0 rest.0 s)

set_text : (i v : List ℕ) → ((32 ∷ i) ++ (32 ∷ v)) ++ [] ++ (10 ∷ []) ≡ ended (i ∷ v ∷ [])
set_text i v =
    ap (λ (z : List ℕ). z ++ (10 ∷ [])) (append-nil ((32 ∷ i) ++ (32 ∷ v))) ∙ ap (λ (z : List ℕ). 32 ∷ z) (append_assoc i (32 ∷ v) (10 ∷ []))

set_by : (d : FixedDatum) (ws : List (List ℕ)) → datum_of ws ≡ Some d → body_of (codes "set") ws ≡ Some (bodies.SetData 0 (record { fixed = d ∷ []; variable = [] }))
set_by d ws h = rw h refl

set_spelt : (d : FixedDatum) → GoodDatum d → GoodBody (bodies.SetData 0 (record { fixed = d ∷ []; variable = [] }))
set_spelt d g = record {
  words = datum_list d;
  is = set_text (decimal d.id) (decimal d.value);
  clean = datum_clean d g;
  name_clean = refl;
  begins = refl;
  reads = set_by d (datum_list d) (datum_back d g);
  acts = λ xs. refl;
  orders = λ xs. refl;
}

set_again : (ws : List (List ℕ)) (body : Body) → set_body ws ≡ Some body → GoodBody body
set_again ws body h =
    let d = step (datum_of ws) _ body h in
    subst GoodBody (some_is _ body d.2) (set_spelt d.0 (datum_again ws d.0 d.1))

alone_again : (b : Body) (ws : List (List ℕ)) (body : Body) → GoodBody b → alone ws b ≡ Some body → GoodBody body
alone_again b [] body g h = subst GoodBody (some_is b body h) g
alone_again b (w ∷ ws) body g h = absurd cc

plain_by : (t u v x : Bool) (ws : List (List ℕ)) (body : Body)
    → (cond t (Some (bodies.CreateEntity 0)) (cond u (Some (bodies.RemoveEntity 0)) (cond v (Some (bodies.StartResume never never 0)) (cond x (Some (bodies.StopFreeze never 0 0 0)) None))) >>= alone ws) ≡ Some body
    → GoodBody body
plain_by true u v x ws body h = alone_again (bodies.CreateEntity 0) ws body (bare_body (bodies.CreateEntity 0) refl refl refl refl (λ xs. refl) (λ xs. refl)) h
plain_by false true v x ws body h = alone_again (bodies.RemoveEntity 0) ws body (bare_body (bodies.RemoveEntity 0) refl refl refl refl (λ xs. refl) (λ xs. refl)) h
plain_by false false true x ws body h = alone_again (bodies.StartResume never never 0) ws body (bare_body (bodies.StartResume never never 0) refl refl refl refl (λ xs. refl) (λ xs. refl)) h
plain_by false false false true ws body h = alone_again (bodies.StopFreeze never 0 0 0) ws body (bare_body (bodies.StopFreeze never 0 0 0) refl refl refl refl (λ xs. refl) (λ xs. refl)) h
plain_by false false false false ws body h = absurd cc

body_by : (t u v : Bool) (name : List ℕ) (ws : List (List ℕ)) (body : Body)
    → cond t (action_body ws) (cond u (query_body ws) (cond v (set_body ws) (plain_body name >>= alone ws))) ≡ Some body → GoodBody body
body_by true u v name ws body h = action_body_again ws body h
body_by false true v name ws body h = query_again ws body h
body_by false false true name ws body h = set_again ws body h
body_by false false false name ws body h =
    plain_by (bytes_eq name (codes "create")) (bytes_eq name (codes "remove")) (bytes_eq name (codes "start")) (bytes_eq name (codes "stop")) ws body h

command_again : (name : List ℕ) (ws : List (List ℕ)) (act : Act) → command_act name ws ≡ Some act → IsSaid act
command_again name [] act h = absurd cc
command_again name (w ∷ ws) act h =
    let id = step (target_of w) _ act h in
    let body = step (body_of name ws) _ act id.2 in
    subst IsSaid (some_is (Command (record { target = id.0; body = body.0 })) act body.2)
    (order_spelt id.0 body.0 (target_again w id.0 id.1) (body_by (bytes_eq name (codes "do")) (bytes_eq name (codes "query")) (bytes_eq name (codes "set")) name ws body.0 body.1))

act_by : (t u : Bool) (name : List ℕ) (ws : List (List ℕ)) (act : Act) → cond t (alone ws Tick) (cond u (tell_act ws) (command_act name ws)) ≡ Some act → IsSaid act
act_by true u name ws act h = tick_again ws act h
act_by false true name ws act h = tell_again ws act h
act_by false false name ws act h = command_again name ws act h

acting_again : (name : List ℕ) (ws : List (List ℕ)) (s : Statement) → acting_form name ws ≡ Some s → IsSpelled s
acting_again name [] s h = absurd cc
acting_again name (w ∷ ws) s h =
    let a = step (address_of w) _ s h in
    let act = step (act_of name ws) _ s a.2 in
    subst IsSpelled (some_is (says.Does a.0 act.0) s act.2) (act_by (bytes_eq name (codes "tick")) (bytes_eq name (codes "tell")) name ws act.0 act.1)

-- Forms.

form_by : (t u v x y z q : Bool) (name : List ℕ) (ws : List (List ℕ)) (s : Statement)
    → cond t (exercise_form ws) (cond u (station_form ws) (cond v (at_form ws) (cond x (opening_form ws) (cond y (fixed_form ws) (cond z (action_form ws) (cond q (deliver_form ws) (acting_form name ws))))))) ≡ Some s
    → IsSpelled s
form_by true u v x y z q name ws s h = exercise_again ws s h
form_by false true v x y z q name ws s h = station_again ws s h
form_by false false true x y z q name ws s h = at_again ws s h
form_by false false false true y z q name ws s h = opening_again ws s h
form_by false false false false true z q name ws s h = fixed_again ws s h
form_by false false false false false true q name ws s h = action_again ws s h
form_by false false false false false false true name ws s h = deliver_again ws s h
form_by false false false false false false false name ws s h = acting_again name ws s h

-- what words say reads back
pub form_again : (ws : List (List ℕ)) (s : Statement) → form_of ws ≡ Some s → IsSpelled s
form_again [] s h = absurd cc
form_again (name ∷ ws) s h =
    form_by (bytes_eq name (codes "exercise")) (bytes_eq name (codes "station")) (bytes_eq name (codes "at")) (bytes_eq name (codes "opening")) (bytes_eq name (codes "fixed")) (bytes_eq name (codes "action")) (bytes_eq name (codes "deliver")) name ws s h

line_by : (ascii over : Bool) (ws : List (List ℕ)) (s : Statement) → cond ascii (cond over (Some says.Nothing) (form_of ws)) None ≡ Some s → IsSpelled s
line_by true true ws s h = subst IsSpelled (some_is says.Nothing s h) tt
line_by true false ws s h = form_again ws s h
line_by false over ws s h = absurd cc

-- what a line says reads back
pub statement_again : (line : List ℕ) (s : Statement) → statement_of line ≡ Some s → IsSpelled s
statement_again line s h = line_by (is_ascii line) (is_passed_over line) (words_of line) s h
