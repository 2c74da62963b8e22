-- A line of a form has a reason exactly where it says nothing.
use Rattle.std.proofs.Common.{◌≡◌, ℕ, ◌+◌, ◌≤◌, Bool, true, false, cond, nat_le, List, [], ◌∷◌, map, codes, Option, Some, None, refl, sym, ◌∙◌, arith, suc, zero, lit≤}
use Rattle.std.specs.List.{find}
use Rattle.std.specs.Option.{option_or, option_and_then, is_some, is_none}
use Rattle.std.specs.Str.{bytes_eq}
use Rattle.std.proofs.lemmas.Slice.Eq.{bytes_eq-Decides}
use Rattle.std.proofs.lemmas.Bool.Decides.{nat_tests}
use Rattle.dis_records.specs.declared.address.SiteApplication.{SiteApplication}
use Rattle.dis_records.specs.declared.datum.FixedDatum.{FixedDatum}
use Rattle.dis_records.specs.declared.entity_state.EntityState.{EntityState}
use Rattle.siman_pdus.specs.declared.pdu.Body.{Body}
use Rattle.siman_pdus.specs.declared.pdu.Body.TheVariants as bodies
use Rattle.exercise_model.specs.Station.{is_entity}
use Rattle.siman_scripts.specs.declared.act.Act.TheVariants.{Command, Deliver, Tell}
use Rattle.siman_scripts.specs.declared.form.LineForm.{LineForm}
use Rattle.siman_scripts.specs.declared.form.LineForm.TheVariants as forms
use Rattle.siman_scripts.specs.declared.form.Next.TheVariants.{Optional}
use Rattle.siman_scripts.specs.declared.statement.ManagerRules.{ManagerRules}
use Rattle.siman_scripts.specs.declared.statement.Statement.{Statement}
use Rattle.siman_scripts.specs.declared.statement.Statement.TheVariants as says
use Rattle.siman_scripts.specs.declared.why.LineWhy.{LineWhy}
use Rattle.siman_scripts.specs.declared.why.LineWhy.TheVariants as whys
use Rattle.siman_scripts.specs.declared.word_kind.WordKind.TheVariants as kinds
use Rattle.byte_files.specs.Text.{number_to}
use Rattle.siman_scripts.specs.Statement.{address_of, target_of, state_of, value_of, number_named, numbers_of, datum_of, rules_of, acting_form, act_of, command_act, body_of, form_of}
use Rattle.siman_scripts.specs.Forms.{entity_of, tries_of, wait_of, form_name, form_named, all_forms, next_word}
use Rattle.siman_scripts.specs.LineReason.{Told, optional_why, words_reason, named_reason, form_reason}

abbrev Placed : Type 0
Placed = ℕ × List ℕ

abbrev texts : List Placed → List (List ℕ)
texts ps = map (λ p. p.1) ps

-- the reason of a word, where it is not of its kind
abbrev unless : Bool → ℕ × LineWhy → Told
unless fits reason = cond fits None (Some reason)

-- a word that is of its kind is passed, and what it spells goes on
passed : {A B : Type 0} (o : Option A) (f : A → Option B) (reason : ℕ × LineWhy) (rest : Told) → ((a : A) → is_none rest ≡ is_some (f a))
    → is_none (option_or (unless (is_some o) reason) rest) ≡ is_some (option_and_then f o)
passed None f reason rest h = refl
passed (Some a) f reason rest h = h a

-- where what comes later has a reason, there is one
later : (fits : Bool) (reason : ℕ × LineWhy) (rest : Told) → is_none rest ≡ false → is_none (option_or (unless fits reason) rest) ≡ false
later true reason rest h = h
later false reason rest h = refl

bound : {A B : Type 0} (o : Option A) (f : A → B) → is_some (option_and_then (λ a. Some (f a)) o) ≡ is_some o
bound None f = refl
bound (Some a) f = refl

-- a move of the station that is named first
acting : (name s : List ℕ) (ws : List (List ℕ)) (reason : ℕ × LineWhy) (rest : Told) → is_none rest ≡ is_some (act_of name ws)
    → is_none (option_or (unless (is_some (address_of s)) reason) rest) ≡ is_some (acting_form name (s ∷ ws))
acting name s ws reason rest h =
    passed (address_of s) (λ a. option_and_then (λ act. Some (says.Does a act)) (act_of name ws)) reason rest
    (λ a. h ∙ sym (bound (act_of name ws) (λ act. says.Does a act)))

-- an order to a receiver
ordering : (name to : List ℕ) (ws : List (List ℕ)) (reason : ℕ × LineWhy) (rest : Told) → is_none rest ≡ is_some (body_of name ws)
    → is_none (option_or (unless (is_some (target_of to)) reason) rest) ≡ is_some (command_act name (to ∷ ws))
ordering name to ws reason rest h =
    passed (target_of to) (λ t. option_and_then (λ body. Some (Command (record { target = t; body = body }))) (body_of name ws)) reason rest
    (λ t. h ∙ sym (bound (body_of name ws) (λ body. Command (record { target = t; body = body }))))

abbrev datum_with : ℕ → ℕ → FixedDatum
datum_with id value = record { id = id; value = value }

abbrev set_with : FixedDatum → Body
set_with datum = bodies.SetData 0 (record { fixed = datum ∷ []; variable = [] })

abbrev query_with : List ℕ → Body
query_with ids = bodies.DataQuery 0 0 (record { fixed = ids; variable = [] })

-- an opening, by its number and its state
abbrev opened : SiteApplication → Option ℕ → Option EntityState → Option Statement
opened a n y = option_and_then (λ e. option_and_then (λ st. cond (is_entity e) (Some (says.Opening a e st)) None) y) n

entity_and_state_at : (a : SiteApplication) (e : ℕ) (fits : Bool) (y : Option EntityState) (r q : ℕ × LineWhy)
    → is_none (option_or (unless (is_some (cond fits (Some e) None)) r) (option_or (unless (is_some y) q) None))
    ≡ is_some (option_and_then (λ st. cond fits (Some (says.Opening a e st)) None) y)
entity_and_state_at a e true None r q = refl
entity_and_state_at a e true (Some st) r q = refl
entity_and_state_at a e false None r q = refl
entity_and_state_at a e false (Some st) r q = refl

entity_and_state : (a : SiteApplication) (n : Option ℕ) (y : Option EntityState) (r q : ℕ × LineWhy)
    → is_none (option_or (unless (is_some (option_and_then (λ e. cond (is_entity e) (Some e) None) n)) r) (option_or (unless (is_some y) q) None)) ≡ is_some (opened a n y)
entity_and_state a None y r q = refl
entity_and_state a (Some e) y r q = entity_and_state_at a e (is_entity e) y r q

abbrev largest_wait : List ℕ → Option ℕ
largest_wait long = number_to 18446744073709551615 long

-- rules, by their three words
abbrev ruled : SiteApplication → Option ℕ → Option ℕ → Option (List ℕ) → Option Statement
ruled a first tries long =
    option_and_then (λ r. Some (says.Station a r))
    (option_and_then (λ f. option_and_then (λ t. option_and_then (λ l. option_and_then (λ w. cond (nat_le 1 t) (Some (record { first_id = f; tries = t; wait = w })) None) (largest_wait l)) long) tries) first)

rules_at : (a : SiteApplication) (f t : ℕ) (fits : Bool) (wait : Option ℕ) (q p : ℕ × LineWhy)
    → is_none (option_or (unless (is_some (cond fits (Some t) None)) q) (option_or (unless (is_some wait) p) None))
    ≡ is_some (option_and_then {T = ManagerRules} {U = Statement} (λ r. Some (says.Station a r)) (option_and_then (λ w. cond fits (Some (record { first_id = f; tries = t; wait = w })) None) wait))
rules_at a f t true None q p = refl
rules_at a f t true (Some w) q p = refl
rules_at a f t false None q p = refl
rules_at a f t false (Some w) q p = refl

rules_long : (a : SiteApplication) (f t : ℕ) (fits : Bool) (long : Option (List ℕ)) (q p : ℕ × LineWhy)
    → is_none (option_or (unless (is_some (cond fits (Some t) None)) q) (option_or (unless (is_some (option_and_then largest_wait long)) p) None))
    ≡ is_some (option_and_then {T = ManagerRules} {U = Statement} (λ r. Some (says.Station a r)) (option_and_then (λ l. option_and_then (λ w. cond fits (Some (record { first_id = f; tries = t; wait = w })) None) (largest_wait l)) long))
rules_long a f t true None q p = refl
rules_long a f t false None q p = refl
rules_long a f t fits (Some l) q p = rules_at a f t fits (largest_wait l) q p

rules : (a : SiteApplication) (first tries : Option ℕ) (long : Option (List ℕ)) (r q p : ℕ × LineWhy)
    → is_none (option_or (unless (is_some first) r) (option_or (unless (is_some (option_and_then (λ t. cond (nat_le 1 t) (Some t) None) tries)) q) (option_or (unless (is_some (option_and_then largest_wait long)) p) None)))
    ≡ is_some (ruled a first tries long)
rules a None tries long r q p = refl
rules a (Some f) None long r q p = refl
rules a (Some f) (Some t) long r q p = rules_long a f t (nat_le 1 t) long q p

-- a query goes on with one number after the other
more_ids : (i : ℕ) → 3 ≤ i → next_word forms.Query i ≡ Optional (kinds.Number 4294967295)
more_ids zero h = absurd (omega arith)
more_ids (suc zero) h = absurd (omega arith)
more_ids (suc (suc zero)) h = absurd (omega arith)
more_ids (suc (suc (suc zero))) h = refl
more_ids (suc (suc (suc (suc i)))) h = grind (arith, nat_tests)

goes_on : (i c : ℕ) (ps : List Placed) → 3 ≤ i → is_none (words_reason forms.Query i c ps) ≡ is_some (numbers_of (texts ps))
goes_on i c [] h = rw (more_ids i h)
goes_on i c (p ∷ ps) h =
    rw (more_ids i h)
    (passed (number_to 4294967295 p.1) (λ n. option_and_then (λ ns. Some (n ∷ ns)) (numbers_of (texts ps))) (p.0, optional_why forms.Query (kinds.Number 4294967295) p.1) (words_reason forms.Query (i + 1) c ps)
    (λ n. goes_on (i + 1) c ps (omega arith) ∙ sym (bound (numbers_of (texts ps)) (λ ns. n ∷ ns))))

is_exercise : (c : ℕ) (ps : List Placed) → is_none (words_reason forms.Exercise 0 c ps) ≡ is_some (form_of (codes "exercise" ∷ texts ps))
is_exercise c [] = refl
is_exercise c (x ∷ []) =
    (passed (number_to 255 x.1) (λ n. Some (says.Exercise n)) (x.0, whys.Wrong forms.Exercise (kinds.Number 255)) (words_reason forms.Exercise 1 c ([])) (λ n. refl))
is_exercise c (x ∷ y ∷ ps) =
    (later (is_some (number_to 255 x.1)) (x.0, whys.Wrong forms.Exercise (kinds.Number 255)) (words_reason forms.Exercise 1 c (y ∷ ps)) refl)

is_at : (c : ℕ) (ps : List Placed) → is_none (words_reason forms.At 0 c ps) ≡ is_some (form_of (codes "at" ∷ texts ps))
is_at c [] = refl
is_at c (x ∷ []) =
    (passed (number_to 18446744073709551615 x.1) (λ n. Some (says.At n)) (x.0, whys.Wrong forms.At (kinds.Number 18446744073709551615)) (words_reason forms.At 1 c ([])) (λ n. refl))
is_at c (x ∷ y ∷ ps) =
    (later (is_some (number_to 18446744073709551615 x.1)) (x.0, whys.Wrong forms.At (kinds.Number 18446744073709551615)) (words_reason forms.At 1 c (y ∷ ps)) refl)

is_tick : (c : ℕ) (ps : List Placed) → is_none (words_reason forms.Tick 0 c ps) ≡ is_some (form_of (codes "tick" ∷ texts ps))
is_tick c [] = refl
is_tick c (s ∷ []) =
    acting (codes "tick") s.1 (texts ([])) (s.0, whys.Wrong forms.Tick (kinds.Address)) (words_reason forms.Tick 1 c ([])) refl
is_tick c (s ∷ w ∷ ps) =
    acting (codes "tick") s.1 (texts (w ∷ ps)) (s.0, whys.Wrong forms.Tick (kinds.Address)) (words_reason forms.Tick 1 c (w ∷ ps)) refl

is_tell : (c : ℕ) (ps : List Placed) → is_none (words_reason forms.Tell 0 c ps) ≡ is_some (form_of (codes "tell" ∷ texts ps))
is_tell c [] = refl
is_tell c (s ∷ []) =
    acting (codes "tell") s.1 (texts ([])) (s.0, whys.Wrong forms.Tell (kinds.Address)) (words_reason forms.Tell 1 c ([])) refl
is_tell c (s ∷ e ∷ []) =
    acting (codes "tell") s.1 (texts (e ∷ [])) (s.0, whys.Wrong forms.Tell (kinds.Address)) (words_reason forms.Tell 1 c (e ∷ [])) (passed (number_to 65535 e.1) (λ n. Some (Tell n)) (e.0, whys.Wrong forms.Tell (kinds.Number 65535)) (words_reason forms.Tell 2 c ([])) (λ n. refl))
is_tell c (s ∷ e ∷ w ∷ ps) =
    acting (codes "tell") s.1 (texts (e ∷ w ∷ ps)) (s.0, whys.Wrong forms.Tell (kinds.Address)) (words_reason forms.Tell 1 c (e ∷ w ∷ ps)) (later (is_some (number_to 65535 e.1)) (e.0, whys.Wrong forms.Tell (kinds.Number 65535)) (words_reason forms.Tell 2 c (w ∷ ps)) refl)

is_create : (c : ℕ) (ps : List Placed) → is_none (words_reason forms.Create 0 c ps) ≡ is_some (form_of (codes "create" ∷ texts ps))
is_create c [] = refl
is_create c (s ∷ []) =
    acting (codes "create") s.1 (texts ([])) (s.0, whys.Wrong forms.Create (kinds.Address)) (words_reason forms.Create 1 c ([])) refl
is_create c (s ∷ t ∷ []) =
    acting (codes "create") s.1 (texts (t ∷ [])) (s.0, whys.Wrong forms.Create (kinds.Address)) (words_reason forms.Create 1 c (t ∷ [])) (ordering (codes "create") t.1 (texts ([])) (t.0, whys.Wrong forms.Create (kinds.Receiver)) (words_reason forms.Create 2 c ([])) refl)
is_create c (s ∷ t ∷ w ∷ ps) =
    acting (codes "create") s.1 (texts (t ∷ w ∷ ps)) (s.0, whys.Wrong forms.Create (kinds.Address)) (words_reason forms.Create 1 c (t ∷ w ∷ ps)) (ordering (codes "create") t.1 (texts (w ∷ ps)) (t.0, whys.Wrong forms.Create (kinds.Receiver)) (words_reason forms.Create 2 c (w ∷ ps)) refl)

is_remove : (c : ℕ) (ps : List Placed) → is_none (words_reason forms.Remove 0 c ps) ≡ is_some (form_of (codes "remove" ∷ texts ps))
is_remove c [] = refl
is_remove c (s ∷ []) =
    acting (codes "remove") s.1 (texts ([])) (s.0, whys.Wrong forms.Remove (kinds.Address)) (words_reason forms.Remove 1 c ([])) refl
is_remove c (s ∷ t ∷ []) =
    acting (codes "remove") s.1 (texts (t ∷ [])) (s.0, whys.Wrong forms.Remove (kinds.Address)) (words_reason forms.Remove 1 c (t ∷ [])) (ordering (codes "remove") t.1 (texts ([])) (t.0, whys.Wrong forms.Remove (kinds.Receiver)) (words_reason forms.Remove 2 c ([])) refl)
is_remove c (s ∷ t ∷ w ∷ ps) =
    acting (codes "remove") s.1 (texts (t ∷ w ∷ ps)) (s.0, whys.Wrong forms.Remove (kinds.Address)) (words_reason forms.Remove 1 c (t ∷ w ∷ ps)) (ordering (codes "remove") t.1 (texts (w ∷ ps)) (t.0, whys.Wrong forms.Remove (kinds.Receiver)) (words_reason forms.Remove 2 c (w ∷ ps)) refl)

is_start : (c : ℕ) (ps : List Placed) → is_none (words_reason forms.Start 0 c ps) ≡ is_some (form_of (codes "start" ∷ texts ps))
is_start c [] = refl
is_start c (s ∷ []) =
    acting (codes "start") s.1 (texts ([])) (s.0, whys.Wrong forms.Start (kinds.Address)) (words_reason forms.Start 1 c ([])) refl
is_start c (s ∷ t ∷ []) =
    acting (codes "start") s.1 (texts (t ∷ [])) (s.0, whys.Wrong forms.Start (kinds.Address)) (words_reason forms.Start 1 c (t ∷ [])) (ordering (codes "start") t.1 (texts ([])) (t.0, whys.Wrong forms.Start (kinds.Receiver)) (words_reason forms.Start 2 c ([])) refl)
is_start c (s ∷ t ∷ w ∷ ps) =
    acting (codes "start") s.1 (texts (t ∷ w ∷ ps)) (s.0, whys.Wrong forms.Start (kinds.Address)) (words_reason forms.Start 1 c (t ∷ w ∷ ps)) (ordering (codes "start") t.1 (texts (w ∷ ps)) (t.0, whys.Wrong forms.Start (kinds.Receiver)) (words_reason forms.Start 2 c (w ∷ ps)) refl)

is_stop : (c : ℕ) (ps : List Placed) → is_none (words_reason forms.Stop 0 c ps) ≡ is_some (form_of (codes "stop" ∷ texts ps))
is_stop c [] = refl
is_stop c (s ∷ []) =
    acting (codes "stop") s.1 (texts ([])) (s.0, whys.Wrong forms.Stop (kinds.Address)) (words_reason forms.Stop 1 c ([])) refl
is_stop c (s ∷ t ∷ []) =
    acting (codes "stop") s.1 (texts (t ∷ [])) (s.0, whys.Wrong forms.Stop (kinds.Address)) (words_reason forms.Stop 1 c (t ∷ [])) (ordering (codes "stop") t.1 (texts ([])) (t.0, whys.Wrong forms.Stop (kinds.Receiver)) (words_reason forms.Stop 2 c ([])) refl)
is_stop c (s ∷ t ∷ w ∷ ps) =
    acting (codes "stop") s.1 (texts (t ∷ w ∷ ps)) (s.0, whys.Wrong forms.Stop (kinds.Address)) (words_reason forms.Stop 1 c (t ∷ w ∷ ps)) (ordering (codes "stop") t.1 (texts (w ∷ ps)) (t.0, whys.Wrong forms.Stop (kinds.Receiver)) (words_reason forms.Stop 2 c (w ∷ ps)) refl)

is_do : (c : ℕ) (ps : List Placed) → is_none (words_reason forms.Do 0 c ps) ≡ is_some (form_of (codes "do" ∷ texts ps))
is_do c [] = refl
is_do c (s ∷ []) =
    acting (codes "do") s.1 (texts ([])) (s.0, whys.Wrong forms.Do (kinds.Address)) (words_reason forms.Do 1 c ([])) refl
is_do c (s ∷ t ∷ []) =
    acting (codes "do") s.1 (texts (t ∷ [])) (s.0, whys.Wrong forms.Do (kinds.Address)) (words_reason forms.Do 1 c (t ∷ [])) (ordering (codes "do") t.1 (texts ([])) (t.0, whys.Wrong forms.Do (kinds.Receiver)) (words_reason forms.Do 2 c ([])) refl)
is_do c (s ∷ t ∷ x ∷ []) =
    acting (codes "do") s.1 (texts (t ∷ x ∷ [])) (s.0, whys.Wrong forms.Do (kinds.Address)) (words_reason forms.Do 1 c (t ∷ x ∷ [])) (ordering (codes "do") t.1 (texts (x ∷ [])) (t.0, whys.Wrong forms.Do (kinds.Receiver)) (words_reason forms.Do 2 c (x ∷ [])) (passed (number_to 4294967295 x.1) (λ action. Some (bodies.ActionRequest 0 action (record { fixed = []; variable = [] }))) (x.0, whys.Wrong forms.Do (kinds.Number 4294967295)) (words_reason forms.Do 3 c ([])) (λ a. refl)))
is_do c (s ∷ t ∷ x ∷ w ∷ ps) =
    acting (codes "do") s.1 (texts (t ∷ x ∷ w ∷ ps)) (s.0, whys.Wrong forms.Do (kinds.Address)) (words_reason forms.Do 1 c (t ∷ x ∷ w ∷ ps)) (ordering (codes "do") t.1 (texts (x ∷ w ∷ ps)) (t.0, whys.Wrong forms.Do (kinds.Receiver)) (words_reason forms.Do 2 c (x ∷ w ∷ ps)) (later (is_some (number_to 4294967295 x.1)) (x.0, whys.Wrong forms.Do (kinds.Number 4294967295)) (words_reason forms.Do 3 c (w ∷ ps)) refl))

is_set : (c : ℕ) (ps : List Placed) → is_none (words_reason forms.Set 0 c ps) ≡ is_some (form_of (codes "set" ∷ texts ps))
is_set c [] = refl
is_set c (s ∷ []) =
    acting (codes "set") s.1 (texts ([])) (s.0, whys.Wrong forms.Set (kinds.Address)) (words_reason forms.Set 1 c ([])) refl
is_set c (s ∷ t ∷ []) =
    acting (codes "set") s.1 (texts (t ∷ [])) (s.0, whys.Wrong forms.Set (kinds.Address)) (words_reason forms.Set 1 c (t ∷ [])) (ordering (codes "set") t.1 (texts ([])) (t.0, whys.Wrong forms.Set (kinds.Receiver)) (words_reason forms.Set 2 c ([])) (refl ∙ sym (bound (datum_of (texts ([]))) set_with)))
is_set c (s ∷ t ∷ i ∷ []) =
    acting (codes "set") s.1 (texts (t ∷ i ∷ [])) (s.0, whys.Wrong forms.Set (kinds.Address)) (words_reason forms.Set 1 c (t ∷ i ∷ [])) (ordering (codes "set") t.1 (texts (i ∷ [])) (t.0, whys.Wrong forms.Set (kinds.Receiver)) (words_reason forms.Set 2 c (i ∷ [])) ((later (is_some (number_to 4294967295 i.1)) (i.0, whys.Wrong forms.Set (kinds.Number 4294967295)) (words_reason forms.Set 3 c ([])) refl) ∙ sym (bound (datum_of (texts (i ∷ []))) set_with)))
is_set c (s ∷ t ∷ i ∷ v ∷ []) =
    acting (codes "set") s.1 (texts (t ∷ i ∷ v ∷ [])) (s.0, whys.Wrong forms.Set (kinds.Address)) (words_reason forms.Set 1 c (t ∷ i ∷ v ∷ [])) (ordering (codes "set") t.1 (texts (i ∷ v ∷ [])) (t.0, whys.Wrong forms.Set (kinds.Receiver)) (words_reason forms.Set 2 c (i ∷ v ∷ [])) ((passed (number_to 4294967295 i.1) (λ id. option_and_then (λ value. Some (datum_with id value)) (number_to 4294967295 v.1)) (i.0, whys.Wrong forms.Set (kinds.Number 4294967295)) (words_reason forms.Set 3 c (v ∷ [])) (λ id. (passed (number_to 4294967295 v.1) (λ value. Some (datum_with id value)) (v.0, whys.Wrong forms.Set (kinds.Number 4294967295)) (words_reason forms.Set 4 c ([])) (λ value. refl)))) ∙ sym (bound (datum_of (texts (i ∷ v ∷ []))) set_with)))
is_set c (s ∷ t ∷ i ∷ v ∷ w ∷ ps) =
    acting (codes "set") s.1 (texts (t ∷ i ∷ v ∷ w ∷ ps)) (s.0, whys.Wrong forms.Set (kinds.Address)) (words_reason forms.Set 1 c (t ∷ i ∷ v ∷ w ∷ ps)) (ordering (codes "set") t.1 (texts (i ∷ v ∷ w ∷ ps)) (t.0, whys.Wrong forms.Set (kinds.Receiver)) (words_reason forms.Set 2 c (i ∷ v ∷ w ∷ ps)) ((later (is_some (number_to 4294967295 i.1)) (i.0, whys.Wrong forms.Set (kinds.Number 4294967295)) (words_reason forms.Set 3 c (v ∷ w ∷ ps)) (later (is_some (number_to 4294967295 v.1)) (v.0, whys.Wrong forms.Set (kinds.Number 4294967295)) (words_reason forms.Set 4 c (w ∷ ps)) refl)) ∙ sym (bound (datum_of (texts (i ∷ v ∷ w ∷ ps))) set_with)))

is_fixed : (c : ℕ) (ps : List Placed) → is_none (words_reason forms.Fixed 0 c ps) ≡ is_some (form_of (codes "fixed" ∷ texts ps))
is_fixed c [] = refl
is_fixed c (s ∷ []) =
    (passed (address_of s.1) (λ a. option_and_then (λ d. Some (says.Fixed a d)) (datum_of (texts ([])))) (s.0, whys.Wrong forms.Fixed (kinds.Address)) (words_reason forms.Fixed 1 c ([])) (λ a. refl ∙ sym (bound (datum_of (texts ([]))) (λ d. says.Fixed a d))))
is_fixed c (s ∷ i ∷ []) =
    (passed (address_of s.1) (λ a. option_and_then (λ d. Some (says.Fixed a d)) (datum_of (texts (i ∷ [])))) (s.0, whys.Wrong forms.Fixed (kinds.Address)) (words_reason forms.Fixed 1 c (i ∷ [])) (λ a. (later (is_some (number_to 4294967295 i.1)) (i.0, whys.Wrong forms.Fixed (kinds.Number 4294967295)) (words_reason forms.Fixed 2 c ([])) refl) ∙ sym (bound (datum_of (texts (i ∷ []))) (λ d. says.Fixed a d))))
is_fixed c (s ∷ i ∷ v ∷ []) =
    (passed (address_of s.1) (λ a. option_and_then (λ d. Some (says.Fixed a d)) (datum_of (texts (i ∷ v ∷ [])))) (s.0, whys.Wrong forms.Fixed (kinds.Address)) (words_reason forms.Fixed 1 c (i ∷ v ∷ [])) (λ a. (passed (number_to 4294967295 i.1) (λ id. option_and_then (λ value. Some (datum_with id value)) (number_to 4294967295 v.1)) (i.0, whys.Wrong forms.Fixed (kinds.Number 4294967295)) (words_reason forms.Fixed 2 c (v ∷ [])) (λ id. (passed (number_to 4294967295 v.1) (λ value. Some (datum_with id value)) (v.0, whys.Wrong forms.Fixed (kinds.Number 4294967295)) (words_reason forms.Fixed 3 c ([])) (λ value. refl)))) ∙ sym (bound (datum_of (texts (i ∷ v ∷ []))) (λ d. says.Fixed a d))))
is_fixed c (s ∷ i ∷ v ∷ w ∷ ps) =
    (passed (address_of s.1) (λ a. option_and_then (λ d. Some (says.Fixed a d)) (datum_of (texts (i ∷ v ∷ w ∷ ps)))) (s.0, whys.Wrong forms.Fixed (kinds.Address)) (words_reason forms.Fixed 1 c (i ∷ v ∷ w ∷ ps)) (λ a. (later (is_some (number_to 4294967295 i.1)) (i.0, whys.Wrong forms.Fixed (kinds.Number 4294967295)) (words_reason forms.Fixed 2 c (v ∷ w ∷ ps)) (later (is_some (number_to 4294967295 v.1)) (v.0, whys.Wrong forms.Fixed (kinds.Number 4294967295)) (words_reason forms.Fixed 3 c (w ∷ ps)) refl)) ∙ sym (bound (datum_of (texts (i ∷ v ∷ w ∷ ps))) (λ d. says.Fixed a d))))

is_action : (c : ℕ) (ps : List Placed) → is_none (words_reason forms.Action 0 c ps) ≡ is_some (form_of (codes "action" ∷ texts ps))
is_action c [] = refl
is_action c (s ∷ []) =
    (later (is_some (address_of s.1)) (s.0, whys.Wrong forms.Action (kinds.Address)) (words_reason forms.Action 1 c ([])) refl)
is_action c (s ∷ i ∷ []) =
    (passed (address_of s.1) (λ a. option_and_then (λ id. Some (says.Action a id)) (number_to 4294967295 i.1)) (s.0, whys.Wrong forms.Action (kinds.Address)) (words_reason forms.Action 1 c (i ∷ [])) (λ a. (passed (number_to 4294967295 i.1) (λ id. Some (says.Action a id)) (i.0, whys.Wrong forms.Action (kinds.Number 4294967295)) (words_reason forms.Action 2 c ([])) (λ id. refl))))
is_action c (s ∷ i ∷ w ∷ ps) =
    (later (is_some (address_of s.1)) (s.0, whys.Wrong forms.Action (kinds.Address)) (words_reason forms.Action 1 c (i ∷ w ∷ ps)) (later (is_some (number_to 4294967295 i.1)) (i.0, whys.Wrong forms.Action (kinds.Number 4294967295)) (words_reason forms.Action 2 c (w ∷ ps)) refl))

is_deliver : (c : ℕ) (ps : List Placed) → is_none (words_reason forms.Deliver 0 c ps) ≡ is_some (form_of (codes "deliver" ∷ texts ps))
is_deliver c [] = refl
is_deliver c (k ∷ []) =
    (later (is_some (number_to 4294967295 k.1)) (k.0, whys.Wrong forms.Deliver (kinds.Number 4294967295)) (words_reason forms.Deliver 1 c ([])) refl)
is_deliver c (k ∷ s ∷ []) =
    (passed (number_to 4294967295 k.1) (λ place. option_and_then (λ a. Some (says.Does a (Deliver place))) (address_of s.1)) (k.0, whys.Wrong forms.Deliver (kinds.Number 4294967295)) (words_reason forms.Deliver 1 c (s ∷ [])) (λ place. (passed (address_of s.1) (λ a. Some (says.Does a (Deliver place))) (s.0, whys.Wrong forms.Deliver (kinds.Address)) (words_reason forms.Deliver 2 c ([])) (λ a. refl))))
is_deliver c (k ∷ s ∷ w ∷ ps) =
    (later (is_some (number_to 4294967295 k.1)) (k.0, whys.Wrong forms.Deliver (kinds.Number 4294967295)) (words_reason forms.Deliver 1 c (s ∷ w ∷ ps)) (later (is_some (address_of s.1)) (s.0, whys.Wrong forms.Deliver (kinds.Address)) (words_reason forms.Deliver 2 c (w ∷ ps)) refl))

is_opening : (c : ℕ) (ps : List Placed) → is_none (words_reason forms.Opening 0 c ps) ≡ is_some (form_of (codes "opening" ∷ texts ps))
is_opening c [] = refl
is_opening c (s ∷ []) =
    (later (is_some (address_of s.1)) (s.0, whys.Wrong forms.Opening (kinds.Address)) (words_reason forms.Opening 1 c ([])) refl)
is_opening c (s ∷ e ∷ []) =
    (later (is_some (address_of s.1)) (s.0, whys.Wrong forms.Opening (kinds.Address)) (words_reason forms.Opening 1 c (e ∷ [])) (later (is_some (entity_of e.1)) (e.0, whys.Wrong forms.Opening (kinds.Entity)) (words_reason forms.Opening 2 c ([])) refl))
is_opening c (s ∷ e ∷ y ∷ []) =
    (passed (address_of s.1) (λ a. opened a (number_to 65535 e.1) (state_of y.1)) (s.0, whys.Wrong forms.Opening (kinds.Address)) (words_reason forms.Opening 1 c (e ∷ y ∷ [])) (λ a. entity_and_state a (number_to 65535 e.1) (state_of y.1) (e.0, whys.Wrong forms.Opening (kinds.Entity)) (y.0, whys.Wrong forms.Opening (kinds.State))))
is_opening c (s ∷ e ∷ y ∷ w ∷ ps) =
    (later (is_some (address_of s.1)) (s.0, whys.Wrong forms.Opening (kinds.Address)) (words_reason forms.Opening 1 c (e ∷ y ∷ w ∷ ps)) (later (is_some (entity_of e.1)) (e.0, whys.Wrong forms.Opening (kinds.Entity)) (words_reason forms.Opening 2 c (y ∷ w ∷ ps)) (later (is_some (state_of y.1)) (y.0, whys.Wrong forms.Opening (kinds.State)) (words_reason forms.Opening 3 c (w ∷ ps)) refl)))

is_station : (c : ℕ) (ps : List Placed) → is_none (words_reason forms.Station 0 c ps) ≡ is_some (form_of (codes "station" ∷ texts ps))
is_station c [] = refl
is_station c (s ∷ []) =
    (passed (address_of s.1) (λ a. option_and_then (λ r. Some (says.Station a r)) (rules_of (texts ([])))) (s.0, whys.Wrong forms.Station (kinds.Address)) (words_reason forms.Station 1 c ([])) (λ a. refl))
is_station c (s ∷ f ∷ []) =
    (passed (address_of s.1) (λ a. option_and_then (λ r. Some (says.Station a r)) (rules_of (texts (f ∷ [])))) (s.0, whys.Wrong forms.Station (kinds.Address)) (words_reason forms.Station 1 c (f ∷ [])) (λ a. (later (is_some (number_named (codes "first") f.1)) (f.0, optional_why forms.Station kinds.FirstId f.1) (words_reason forms.Station 2 c ([])) refl)))
is_station c (s ∷ f ∷ t ∷ []) =
    (passed (address_of s.1) (λ a. option_and_then (λ r. Some (says.Station a r)) (rules_of (texts (f ∷ t ∷ [])))) (s.0, whys.Wrong forms.Station (kinds.Address)) (words_reason forms.Station 1 c (f ∷ t ∷ [])) (λ a. (later (is_some (number_named (codes "first") f.1)) (f.0, optional_why forms.Station kinds.FirstId f.1) (words_reason forms.Station 2 c (t ∷ [])) (later (is_some (tries_of t.1)) (t.0, whys.Wrong forms.Station (kinds.Tries)) (words_reason forms.Station 3 c ([])) refl))))
is_station c (s ∷ f ∷ t ∷ w ∷ []) =
    (passed (address_of s.1) (λ a. option_and_then (λ r. Some (says.Station a r)) (rules_of (texts (f ∷ t ∷ w ∷ [])))) (s.0, whys.Wrong forms.Station (kinds.Address)) (words_reason forms.Station 1 c (f ∷ t ∷ w ∷ [])) (λ a. rules a (number_named (codes "first") f.1) (number_named (codes "tries") t.1) (value_of (codes "wait") w.1) (f.0, optional_why forms.Station kinds.FirstId f.1) (t.0, whys.Wrong forms.Station (kinds.Tries)) (w.0, whys.Wrong forms.Station (kinds.Wait))))
is_station c (s ∷ f ∷ t ∷ w ∷ x ∷ ps) =
    (passed (address_of s.1) (λ a. option_and_then (λ r. Some (says.Station a r)) (rules_of (texts (f ∷ t ∷ w ∷ x ∷ ps)))) (s.0, whys.Wrong forms.Station (kinds.Address)) (words_reason forms.Station 1 c (f ∷ t ∷ w ∷ x ∷ ps)) (λ a. (later (is_some (number_named (codes "first") f.1)) (f.0, optional_why forms.Station kinds.FirstId f.1) (words_reason forms.Station 2 c (t ∷ w ∷ x ∷ ps)) (later (is_some (tries_of t.1)) (t.0, whys.Wrong forms.Station (kinds.Tries)) (words_reason forms.Station 3 c (w ∷ x ∷ ps)) (later (is_some (wait_of w.1)) (w.0, whys.Wrong forms.Station (kinds.Wait)) (words_reason forms.Station 4 c (x ∷ ps)) refl)))))

is_query : (c : ℕ) (ps : List Placed) → is_none (words_reason forms.Query 0 c ps) ≡ is_some (form_of (codes "query" ∷ texts ps))
is_query c [] = refl
is_query c (s ∷ []) =
    acting (codes "query") s.1 (texts ([])) (s.0, whys.Wrong forms.Query (kinds.Address)) (words_reason forms.Query 1 c ([])) refl
is_query c (s ∷ t ∷ []) =
    acting (codes "query") s.1 (texts (t ∷ [])) (s.0, whys.Wrong forms.Query (kinds.Address)) (words_reason forms.Query 1 c (t ∷ [])) (ordering (codes "query") t.1 (texts ([])) (t.0, whys.Wrong forms.Query (kinds.Receiver)) (words_reason forms.Query 2 c ([])) refl)
is_query c (s ∷ t ∷ i ∷ ps) =
    acting (codes "query") s.1 (texts (t ∷ i ∷ ps)) (s.0, whys.Wrong forms.Query (kinds.Address)) (words_reason forms.Query 1 c (t ∷ i ∷ ps)) (ordering (codes "query") t.1 (texts (i ∷ ps)) (t.0, whys.Wrong forms.Query (kinds.Receiver)) (words_reason forms.Query 2 c (i ∷ ps)) ((passed (number_to 4294967295 i.1) (λ n. option_and_then (λ ns. Some (n ∷ ns)) (numbers_of (texts ps))) (i.0, whys.Wrong forms.Query (kinds.Number 4294967295)) (words_reason forms.Query 3 c (ps)) (λ n. goes_on 3 c ps (lit≤ tt) ∙ sym (bound (numbers_of (texts ps)) (λ ns. n ∷ ns)))) ∙ sym (bound (numbers_of (texts (i ∷ ps))) query_with)))

-- A LINE OF A FORM HAS A REASON EXACTLY WHERE IT SAYS NOTHING
pub form_has_reason : (f : LineForm) (c : ℕ) (ps : List Placed) → is_none (words_reason f 0 c ps) ≡ is_some (form_of (form_name f ∷ texts ps))
form_has_reason forms.Exercise c ps = is_exercise c ps
form_has_reason forms.Station c ps = is_station c ps
form_has_reason forms.At c ps = is_at c ps
form_has_reason forms.Opening c ps = is_opening c ps
form_has_reason forms.Fixed c ps = is_fixed c ps
form_has_reason forms.Action c ps = is_action c ps
form_has_reason forms.Deliver c ps = is_deliver c ps
form_has_reason forms.Tick c ps = is_tick c ps
form_has_reason forms.Tell c ps = is_tell c ps
form_has_reason forms.Do c ps = is_do c ps
form_has_reason forms.Query c ps = is_query c ps
form_has_reason forms.Set c ps = is_set c ps
form_has_reason forms.Create c ps = is_create c ps
form_has_reason forms.Remove c ps = is_remove c ps
form_has_reason forms.Start c ps = is_start c ps
form_has_reason forms.Stop c ps = is_stop c ps

found_at : {X : Type 0} (p : X → Bool) (x y : X) (rest : Option X) (here : Bool) → p x ≡ here → (rest ≡ Some y → p y ≡ true) → cond here (Some x) rest ≡ Some y → p y ≡ true
found_at p x y rest true h next e = let same : x ≡ y = cc in rw (← same) h
found_at p x y rest false h next e = next e

-- what is found passes the test
found : {X : Type 0} (p : X → Bool) (xs : List X) (y : X) → find p xs ≡ Some y → p y ≡ true
found p [] y e = cc
found p (x ∷ xs) y e = found_at p x y (find p xs) (p x) refl (found p xs y) e

-- the form that is named has this name
named : (name : List ℕ) (f : LineForm) → form_named name ≡ Some f → name ≡ form_name f
named name f e =
    let decides = bytes_eq-Decides name (form_name f) in
    decides.0 (found (λ form. bytes_eq name (form_name form)) all_forms f e)

-- the test of none of them is passed
abbrev NonePass : {X : Type 0} → (X → Bool) → List X → Type 0
NonePass p [] = Unit {0}
NonePass p (x ∷ xs) = (p x ≡ false) × (NonePass p xs)

missed_at : {X : Type 0} (p : X → Bool) (x : X) (xs : List X) (here : Bool) → p x ≡ here → (find p xs ≡ None → NonePass p xs) → cond here (Some x) (find p xs) ≡ None → (p x ≡ false) × (NonePass p xs)
missed_at p x xs true h next e = cc
missed_at p x xs false h next e = (h, next e)

missed : {X : Type 0} (p : X → Bool) (xs : List X) → find p xs ≡ None → NonePass p xs
missed p [] e = tt
missed p (x ∷ xs) e = missed_at p x xs (p x) refl (missed p xs) e

none_comes : {A B : Type 0} (f : A → Option B) (o : Option A) → ((a : A) → f a ≡ None) → option_and_then f o ≡ None
none_comes f None h = refl
none_comes f (Some a) h = h a

-- the name of a line is that of none of the forms
abbrev IsUnnamed : List ℕ → Type 0
IsUnnamed name = NonePass (λ form. bytes_eq name (form_name form)) all_forms

no_body : (name : List ℕ) (ws : List (List ℕ)) → IsUnnamed name → body_of name ws ≡ None
no_body name ws m =
    rw (m.1.1.1.1.1.1.1.1.1.0, m.1.1.1.1.1.1.1.1.1.1.0, m.1.1.1.1.1.1.1.1.1.1.1.0, m.1.1.1.1.1.1.1.1.1.1.1.1.0, m.1.1.1.1.1.1.1.1.1.1.1.1.1.0, m.1.1.1.1.1.1.1.1.1.1.1.1.1.1.0, m.1.1.1.1.1.1.1.1.1.1.1.1.1.1.1.0)

no_command : (name : List ℕ) (ws : List (List ℕ)) → IsUnnamed name → command_act name ws ≡ None
no_command name [] m = refl
no_command name (to ∷ ws) m =
    none_comes (λ t. option_and_then (λ body. Some (Command (record { target = t; body = body }))) (body_of name ws)) (target_of to) (λ t. rw (no_body name ws m))

no_act : (name : List ℕ) (ws : List (List ℕ)) → IsUnnamed name → act_of name ws ≡ None
no_act name ws m = rw (m.1.1.1.1.1.1.1.0, m.1.1.1.1.1.1.1.1.0) (no_command name ws m)

no_move : (name : List ℕ) (ws : List (List ℕ)) → IsUnnamed name → acting_form name ws ≡ None
no_move name [] m = refl
no_move name (s ∷ ws) m =
    none_comes (λ a. option_and_then (λ act. Some (says.Does a act)) (act_of name ws)) (address_of s) (λ a. rw (no_act name ws m))

-- a name that is that of no form begins no line
unnamed : (name : List ℕ) (ws : List (List ℕ)) → form_named name ≡ None → form_of (name ∷ ws) ≡ None
unnamed name ws e =
    let m : IsUnnamed name = missed (λ form. bytes_eq name (form_name form)) all_forms e in
    rw (m.0, m.1.0, m.1.1.0, m.1.1.1.0, m.1.1.1.1.0, m.1.1.1.1.1.0, m.1.1.1.1.1.1.0) (no_move name ws m)

-- the reason of words that begin with this name
name_has_reason : (c : ℕ) (p : Placed) (ps : List Placed) (o : Option LineForm) → form_named p.1 ≡ o → is_none (named_reason c p ps o) ≡ is_some (form_of (p.1 ∷ texts ps))
name_has_reason c p ps None e = rw (unnamed p.1 (texts ps) e)
name_has_reason c p ps (Some f) e = rw (named p.1 f e) (form_has_reason f c ps)

-- A LINE OF WORDS HAS A REASON EXACTLY WHERE IT SAYS NOTHING
pub words_have_reason : (c : ℕ) (ps : List Placed) → is_none (form_reason c ps) ≡ is_some (form_of (texts ps))
words_have_reason c [] = refl
words_have_reason c (p ∷ ps) = name_has_reason c p ps (form_named p.1) refl
