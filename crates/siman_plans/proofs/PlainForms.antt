-- What a plain line says: a statement that was read reads back from its plain line.
use Rattle.std.proofs.Common.{◌≡◌, ℕ, Bool, true, false, nat_le, cond, List, [], ◌∷◌, ◌++◌, Option, Some, None, refl, sym, ap, subst, ◌∙◌, arith, append_assoc}
use Rattle.std.specs.Prelude.{decimal, codes}
use Rattle.std.specs.Str.{bytes_eq}
use Rattle.dis_records.specs.declared.address.SiteApplication.{SiteApplication}
use Rattle.dis_records.specs.declared.datum.FixedDatum.{FixedDatum}
use Rattle.dis_records.specs.declared.entity.EntityId.{EntityId}
use Rattle.dis_records.specs.declared.entity_state.EntityState.{EntityState}
use Rattle.dis_records.specs.declared.entity_state.EntityState.TheVariants as states
use Rattle.dis_records.specs.Address.{is_address}
use Rattle.dis_records.specs.Texts.{state_text}
use Rattle.siman_print.specs.Spelled.{address_text}
use Rattle.exercise_model.specs.Station.{is_entity}
use Rattle.byte_files.specs.Text.{is_ascii, cut_at, number_to, ◌>>=◌}
use Rattle.siman_scripts.specs.declared.act.Act.{Act}
use Rattle.siman_scripts.specs.declared.statement.ManagerRules.{ManagerRules}
use Rattle.siman_scripts.specs.declared.statement.Statement.{Statement}
use Rattle.siman_scripts.specs.declared.statement.Statement.TheVariants as says
use Rattle.siman_scripts.specs.Statement.{address_of, target_of, value_of, state_of, datum_of, exercise_form, number_named, rules_of, station_form, opening_form, fixed_form, action_form, at_form, form_of, is_passed_over, statement_of}
use Rattle.siman_plans.specs.Plain.{act_text, at_text, setup_text}
use Rattle.siman_plans.proofs.PlainWords.{Clean, AllClean, all_both, blanks, words_back, IsPlainLine, joined_plain, plain_ascii, Without, cut_here, Spelt, spelt_again, spelt, digits_clean, GoodAddress, good_address, GoodTarget, good_target}
use Rattle.siman_plans.specs.SourceWords.{is_printable}

-- Steps of reading.

pub step : {A B : Type 0} (o : Option A) (f : A → Option B) (y : B) → (o >>= f) ≡ Some y → (x : A) × (o ≡ Some x) × (f x ≡ Some y)
step None f y h = absurd cc
step (Some x) f y h = (x, refl, h)

pub some_is : {A : Type 0} (x y : A) → Some x ≡ Some y → x ≡ y
some_is x y h = cc

if_some : {A : Type 0} (t : Bool) (x y : A) → cond t (Some x) None ≡ Some y → (t ≡ true) × (x ≡ y)
if_some true x y h = (refl, cc)
if_some false x y h = absurd cc

-- Lines.

-- words behind the first, and the line feed
abbrev pub ended : List (List ℕ) → List ℕ
ended [] = 10 ∷ []
ended (w ∷ ws) = 32 ∷ (w ++ ended ws)

ended_blanks : (ws : List (List ℕ)) → ended ws ≡ blanks ws ++ (10 ∷ [])
ended_blanks [] = refl
ended_blanks (w ∷ ws) = ap (λ (z : List ℕ). 32 ∷ (w ++ z)) (ended_blanks ws) ∙ ap (λ (z : List ℕ). 32 ∷ z) (sym (append_assoc w (blanks ws) (10 ∷ [])))

-- a text is the line of a statement, with its line feed
pub record Spells (text : List ℕ) (s : Statement) : Type 0 where
  pub name : List ℕ
  pub words : List (List ℕ)
  pub is : text ≡ name ++ ended words
  pub name_clean : Clean name
  pub begins : is_passed_over name ≡ false
  pub clean : AllClean words
  pub form : form_of (name ∷ words) ≡ Some s

-- the line is ASCII, begins a form, and says the statement
pub record Line (text : List ℕ) (s : Statement) : Type 0 where
  pub line : List ℕ
  pub is : text ≡ line ++ (10 ∷ [])
  pub plain : IsPlainLine line
  pub said : statement_of line ≡ Some s

begins_too : (w rest : List ℕ) → is_passed_over w ≡ false → is_passed_over (w ++ rest) ≡ false
begins_too [] rest h = absurd cc
begins_too (b ∷ bs) rest h = h

said_by : (line : List ℕ) (o : Option Statement) (ascii over : Bool) → ascii ≡ true → over ≡ false → cond ascii (cond over (Some says.Nothing) o) None ≡ o
said_by line o ascii over p q = rw (p, q) refl

pub line_of : (text : List ℕ) (s : Statement) → Spells text s → Line text s
line_of text s p =
    let line : List ℕ = p.name ++ blanks p.words in
    let plain : IsPlainLine line = joined_plain p.name p.words p.name_clean p.clean in
    record {
      line = line;
      is = p.is ∙ (ap (λ (z : List ℕ). p.name ++ z) (ended_blanks p.words) ∙ sym (append_assoc p.name (blanks p.words) (10 ∷ [])));
      plain = plain;
      said = said_by line _ (is_ascii line) (is_passed_over line) (plain_ascii line plain) (begins_too p.name (blanks p.words) p.begins)
          ∙ (ap form_of (words_back p.name p.words p.name_clean p.clean) ∙ p.form);
    }

-- Words that were read.

address_again : (w : List ℕ) (a : SiteApplication) → address_of w ≡ Some a → GoodAddress a
address_again w a h =
    let p = step (cut_at 58 w) _ a h in
    let site = step (number_to 65535 p.0.0) _ a p.2 in
    let application = step (number_to 65535 p.0.1) _ a site.2 in
    let b : SiteApplication = record { site = site.0; application = application.0 } in
    let is = if_some (is_address b) b a application.2 in
    subst GoodAddress is.1 (good_address b is.0)

pub target_again : (w : List ℕ) (id : EntityId) → target_of w ≡ Some id → GoodTarget id
target_again w id h =
    let p = step (cut_at 58 w) _ id h in
    let q = step (cut_at 58 p.0.1) _ id p.2 in
    let site = step (number_to 65535 p.0.0) _ id q.2 in
    let application = step (number_to 65535 q.0.0) _ id site.2 in
    let entity = step (number_to 65535 q.0.1) _ id application.2 in
    let b : EntityId = record { site = site.0; application = application.0; entity = entity.0 } in
    subst GoodTarget (some_is b id entity.2)
    (good_target b (spelt_again 65535 site.0 p.0.0 (omega arith) site.1) (spelt_again 65535 application.0 q.0.0 (omega arith) application.1) (spelt_again 65535 entity.0 q.0.1 (omega arith) entity.1))

pub number_clean : (m n : ℕ) → Spelt m n → Clean (decimal n)
number_clean m n s = digits_clean (decimal n) s.digits

-- a state that is written in a script
pub record GoodState (y : EntityState) : Type 0 where
  pub reads : state_of (state_text y) ≡ Some y
  pub clean : Clean (state_text y)

state_by : (t u : Bool) (y : EntityState) → cond t (Some states.Stopped) (cond u (Some states.Running) None) ≡ Some y → GoodState y
state_by true u y h = subst GoodState (some_is states.Stopped y h) (record { reads = refl; clean = refl })
state_by false true y h = subst GoodState (some_is states.Running y h) (record { reads = refl; clean = refl })
state_by false false y h = absurd cc

state_again : (w : List ℕ) (y : EntityState) → state_of w ≡ Some y → GoodState y
state_again w y h = state_by (bytes_eq w (codes "stopped")) (bytes_eq w (codes "running")) y h

-- the value behind a name
value_back : (name v : List ℕ) → Without 61 name → bytes_eq name name ≡ true → value_of name (name ++ (61 ∷ v)) ≡ Some v
value_back name v without same = rw (cut_here 61 name v without) (rw same refl)

pub record GoodRules (rules : ManagerRules) : Type 0 where
  pub first : Spelt 4294967295 rules.first_id
  pub tries : Spelt 4294967295 rules.tries
  pub some : nat_le 1 rules.tries ≡ true
  pub wait : Spelt 18446744073709551615 rules.wait

rules_again : (ws : List (List ℕ)) (rules : ManagerRules) → rules_of ws ≡ Some rules → GoodRules rules
rules_again [] rules h =
    let b : ManagerRules = record { first_id = 1; tries = 3; wait = 10 } in
    subst GoodRules (some_is b rules h)
    (record { first = spelt 4294967295 1 (omega arith) (omega arith); tries = spelt 4294967295 3 (omega arith) (omega arith); some = refl; wait = spelt 18446744073709551615 10 (omega arith) (omega arith) })
rules_again (f ∷ []) rules h = absurd cc
rules_again (f ∷ t ∷ []) rules h = absurd cc
rules_again (f ∷ t ∷ w ∷ []) rules h =
    let first = step (number_named (codes "first") f) _ rules h in
    let tries = step (number_named (codes "tries") t) _ rules first.2 in
    let long = step (value_of (codes "wait") w) _ rules tries.2 in
    let wait = step (number_to 18446744073709551615 long.0) _ rules long.2 in
    let f2 = step (value_of (codes "first") f) _ first.0 first.1 in
    let t2 = step (value_of (codes "tries") t) _ tries.0 tries.1 in
    let b : ManagerRules = record { first_id = first.0; tries = tries.0; wait = wait.0 } in
    let is = if_some (nat_le 1 tries.0) b rules wait.2 in
    subst GoodRules is.1
    (record {
      first = spelt_again 4294967295 first.0 f2.0 (omega arith) f2.2;
      tries = spelt_again 4294967295 tries.0 t2.0 (omega arith) t2.2;
      some = is.0;
      wait = spelt_again 18446744073709551615 wait.0 long.0 (omega arith) wait.1;
    })
rules_again (f ∷ t ∷ w ∷ x ∷ ws) rules h = absurd cc

abbrev rules_words : List ℕ → List ℕ → List ℕ → List (List ℕ)
rules_words f t w = (codes "first" ++ (61 ∷ f)) ∷ (codes "tries" ++ (61 ∷ t)) ∷ (codes "wait" ++ (61 ∷ w)) ∷ []

rules_back : (rules : ManagerRules) (f t w : List ℕ) → nat_le 1 rules.tries ≡ true → number_to 4294967295 f ≡ Some rules.first_id
    → number_to 4294967295 t ≡ Some rules.tries → number_to 18446744073709551615 w ≡ Some rules.wait → rules_of (rules_words f t w) ≡ Some rules
rules_back rules f t w some first tries wait =
    rw (value_back (codes "first") f refl refl) (rw first (rw (value_back (codes "tries") t refl refl) (rw tries (rw (value_back (codes "wait") w refl refl) (rw wait (rw some refl))))))

named_clean : (name v : List ℕ) → Clean name → Clean v → Clean (name ++ (61 ∷ v))
named_clean name v c d = all_both is_printable name (61 ∷ v) c d

rules_end : (f t w : List ℕ) → codes " first=" ++ f ++ codes " tries=" ++ t ++ codes " wait=" ++ w ++ codes "\n" ≡ ended (rules_words f t w)
rules_end f t w =
    let tail : List ℕ = w ++ (10 ∷ []) in
    let waits : List ℕ = codes " wait=" ++ tail in
    append_assoc (codes " first=" ++ f ++ codes " tries=" ++ t ++ codes " wait=") w (10 ∷ [])
    ∙ (append_assoc (codes " first=" ++ f ++ codes " tries=" ++ t) (codes " wait=") tail
    ∙ (append_assoc (codes " first=" ++ f ++ codes " tries=") t waits ∙ append_assoc (codes " first=" ++ f) (codes " tries=") (t ++ waits)))

station_text : (a f t w : List ℕ)
    → codes "station " ++ a ++ (codes " first=" ++ f ++ codes " tries=" ++ t ++ codes " wait=" ++ w) ++ codes "\n" ≡ codes "station" ++ ended (a ∷ rules_words f t w)
station_text a f t w =
    append_assoc (codes "station " ++ a) (codes " first=" ++ f ++ codes " tries=" ++ t ++ codes " wait=" ++ w) (10 ∷ [])
    ∙ ap (λ (z : List ℕ). codes "station " ++ (a ++ z)) (rules_end f t w)

-- datums that were read
pub record GoodDatum (d : FixedDatum) : Type 0 where
  pub id : Spelt 4294967295 d.id
  pub value : Spelt 4294967295 d.value

pub datum_again : (ws : List (List ℕ)) (d : FixedDatum) → datum_of ws ≡ Some d → GoodDatum d
datum_again [] d h = absurd cc
datum_again (i ∷ []) d h = absurd cc
datum_again (i ∷ v ∷ []) d h =
    let id = step (number_to 4294967295 i) _ d h in
    let value = step (number_to 4294967295 v) _ d id.2 in
    let b : FixedDatum = record { id = id.0; value = value.0 } in
    subst GoodDatum (some_is b d value.2)
    (record { id = spelt_again 4294967295 id.0 i (omega arith) id.1; value = spelt_again 4294967295 value.0 v (omega arith) value.1 })
datum_again (i ∷ v ∷ x ∷ ws) d h = absurd cc

abbrev pub datum_list : FixedDatum → List (List ℕ)
datum_list d = decimal d.id ∷ decimal d.value ∷ []

datum_by : (d : FixedDatum) (i v : List ℕ) → number_to 4294967295 i ≡ Some d.id → number_to 4294967295 v ≡ Some d.value → datum_of (i ∷ v ∷ []) ≡ Some d
datum_by d i v id value = rw id (rw value refl)

pub datum_back : (d : FixedDatum) → GoodDatum d → datum_of (datum_list d) ≡ Some d
datum_back d g = datum_by d (decimal d.id) (decimal d.value) g.id.reads g.value.reads

pub datum_clean : (d : FixedDatum) → GoodDatum d → AllClean (datum_list d)
datum_clean d g = (number_clean 4294967295 d.id g.id, (number_clean 4294967295 d.value g.value, tt))

-- Statements that were read.

-- an act reads back from its plain line, whatever the address of its station
abbrev pub IsSaid : Act → Type 0
IsSaid act = (a : SiteApplication) → GoodAddress a → Spells (act_text a act) (says.Does a act)

-- a statement reads back from its plain line
abbrev pub IsSpelled : Statement → Type 0
IsSpelled says.Nothing = Unit {0}
IsSpelled (says.At now) = Spells (at_text now) (says.At now)
IsSpelled (says.Does a act) = IsSaid act
IsSpelled (says.Exercise x) = Spells (setup_text (says.Exercise x)) (says.Exercise x)
IsSpelled (says.Station a rules) = Spells (setup_text (says.Station a rules)) (says.Station a rules) × GoodAddress a
IsSpelled (says.Opening a e y) = Spells (setup_text (says.Opening a e y)) (says.Opening a e y)
IsSpelled (says.Fixed a d) = Spells (setup_text (says.Fixed a d)) (says.Fixed a d)
IsSpelled (says.Action a id) = Spells (setup_text (says.Action a id)) (says.Action a id)

exercise_spelt : (x : ℕ) → Spelt 255 x → IsSpelled (says.Exercise x)
exercise_spelt x s = record {
  name = codes "exercise";
  words = decimal x ∷ [];
  is = refl;
  name_clean = refl;
  begins = refl;
  clean = (number_clean 255 x s, tt);
  form = rw s.reads refl;
}

pub exercise_again : (ws : List (List ℕ)) (s : Statement) → exercise_form ws ≡ Some s → IsSpelled s
exercise_again [] s h = absurd cc
exercise_again (x ∷ []) s h =
    let n = step (number_to 255 x) _ s h in
    subst IsSpelled (some_is (says.Exercise n.0) s n.2) (exercise_spelt n.0 (spelt_again 255 n.0 x (omega arith) n.1))
exercise_again (x ∷ y ∷ ws) s h = absurd cc

station_by : (a : SiteApplication) (rules : ManagerRules) (ws : List (List ℕ)) (w : List ℕ) → address_of w ≡ Some a → rules_of ws ≡ Some rules
    → form_of (codes "station" ∷ w ∷ ws) ≡ Some (says.Station a rules)
station_by a rules ws w address reads = rw address (rw reads refl)

station_spelt : (a : SiteApplication) (rules : ManagerRules) → GoodAddress a → GoodRules rules → IsSpelled (says.Station a rules)
station_spelt a rules good g =
    let f : List ℕ = decimal rules.first_id in
    let t : List ℕ = decimal rules.tries in
    let w : List ℕ = decimal rules.wait in
    let line : Spells (setup_text (says.Station a rules)) (says.Station a rules) = record {
      name = codes "station";
      words = address_text a ∷ rules_words f t w;
      is = station_text (address_text a) f t w;
      name_clean = refl;
      begins = refl;
      clean = (good.clean, (named_clean (codes "first") f refl (number_clean 4294967295 rules.first_id g.first), (named_clean (codes "tries") t refl (number_clean 4294967295 rules.tries g.tries), (named_clean (codes "wait") w refl (number_clean 18446744073709551615 rules.wait g.wait), tt))));
      form = station_by a rules (rules_words f t w) (address_text a) good.reads (rules_back rules f t w g.some g.first.reads g.tries.reads g.wait.reads);
    } in
    (line, good)

pub station_again : (ws : List (List ℕ)) (s : Statement) → station_form ws ≡ Some s → IsSpelled s
station_again [] s h = absurd cc
station_again (w ∷ ws) s h =
    let a = step (address_of w) _ s h in
    let rules = step (rules_of ws) _ s a.2 in
    subst IsSpelled (some_is (says.Station a.0 rules.0) s rules.2) (station_spelt a.0 rules.0 (address_again w a.0 a.1) (rules_again ws rules.0 rules.1))

at_spelt : (n : ℕ) → Spelt 18446744073709551615 n → IsSpelled (says.At n)
at_spelt n s = record {
  name = codes "at";
  words = decimal n ∷ [];
  is = refl;
  name_clean = refl;
  begins = refl;
  clean = (number_clean 18446744073709551615 n s, tt);
  form = rw s.reads refl;
}

pub at_again : (ws : List (List ℕ)) (s : Statement) → at_form ws ≡ Some s → IsSpelled s
at_again [] s h = absurd cc
at_again (x ∷ []) s h =
    let n = step (number_to 18446744073709551615 x) _ s h in
    subst IsSpelled (some_is (says.At n.0) s n.2) (at_spelt n.0 (spelt_again 18446744073709551615 n.0 x (omega arith) n.1))
at_again (x ∷ y ∷ ws) s h = absurd cc

opening_text : (a e y : List ℕ) → codes "opening " ++ a ++ (codes " " ++ e) ++ codes " " ++ y ++ codes "\n" ≡ codes "opening" ++ ended (a ∷ e ∷ y ∷ [])
opening_text a e y = simp append_assoc refl

opening_by : (a : SiteApplication) (n : ℕ) (y : EntityState) (v w x : List ℕ) → address_of v ≡ Some a → number_to 65535 w ≡ Some n → state_of x ≡ Some y → is_entity n ≡ true
    → form_of (codes "opening" ∷ v ∷ w ∷ x ∷ []) ≡ Some (says.Opening a n y)
opening_by a n y v w x address number state is = rw address (rw number (rw state (rw is refl)))

opening_spelt : (a : SiteApplication) (n : ℕ) (y : EntityState) → GoodAddress a → Spelt 65535 n → GoodState y → is_entity n ≡ true → IsSpelled (says.Opening a n y)
opening_spelt a n y good s g is = record {
  name = codes "opening";
  words = address_text a ∷ decimal n ∷ state_text y ∷ [];
  is = opening_text (address_text a) (decimal n) (state_text y);
  name_clean = refl;
  begins = refl;
  clean = (good.clean, (number_clean 65535 n s, (g.clean, tt)));
  form = opening_by a n y (address_text a) (decimal n) (state_text y) good.reads s.reads g.reads is;
}

pub opening_again : (ws : List (List ℕ)) (s : Statement) → opening_form ws ≡ Some s → IsSpelled s
opening_again [] s h = absurd cc
opening_again (v ∷ []) s h = absurd cc
opening_again (v ∷ w ∷ []) s h = absurd cc
opening_again (v ∷ w ∷ x ∷ []) s h =
    let a = step (address_of v) _ s h in
    let n = step (number_to 65535 w) _ s a.2 in
    let y = step (state_of x) _ s n.2 in
    let is = if_some (is_entity n.0) (says.Opening a.0 n.0 y.0) s y.2 in
    subst IsSpelled is.1 (opening_spelt a.0 n.0 y.0 (address_again v a.0 a.1) (spelt_again 65535 n.0 w (omega arith) n.1) (state_again x y.0 y.1) is.0)
opening_again (v ∷ w ∷ x ∷ z ∷ ws) s h = absurd cc

fixed_text : (a i v : List ℕ) → codes "fixed " ++ a ++ ((codes " " ++ i) ++ (codes " " ++ v)) ++ codes "\n" ≡ codes "fixed" ++ ended (a ∷ i ∷ v ∷ [])
fixed_text a i v =
    append_assoc (codes "fixed " ++ a) ((32 ∷ i) ++ (32 ∷ v)) (10 ∷ []) ∙ ap (λ (z : List ℕ). codes "fixed " ++ (a ++ (32 ∷ z))) (append_assoc i (32 ∷ v) (10 ∷ []))

fixed_by : (a : SiteApplication) (d : FixedDatum) (v : List ℕ) (ws : List (List ℕ)) → address_of v ≡ Some a → datum_of ws ≡ Some d
    → form_of (codes "fixed" ∷ v ∷ ws) ≡ Some (says.Fixed a d)
fixed_by a d v ws address datum = rw address (rw datum refl)

fixed_spelt : (a : SiteApplication) (d : FixedDatum) → GoodAddress a → GoodDatum d → IsSpelled (says.Fixed a d)
fixed_spelt a d good g = record {
  name = codes "fixed";
  words = address_text a ∷ datum_list d;
  is = fixed_text (address_text a) (decimal d.id) (decimal d.value);
  name_clean = refl;
  begins = refl;
  clean = (good.clean, datum_clean d g);
  form = fixed_by a d (address_text a) (datum_list d) good.reads (datum_back d g);
}

pub fixed_again : (ws : List (List ℕ)) (s : Statement) → fixed_form ws ≡ Some s → IsSpelled s
fixed_again [] s h = absurd cc
fixed_again (v ∷ ws) s h =
    let a = step (address_of v) _ s h in
    let d = step (datum_of ws) _ s a.2 in
    subst IsSpelled (some_is (says.Fixed a.0 d.0) s d.2) (fixed_spelt a.0 d.0 (address_again v a.0 a.1) (datum_again ws d.0 d.1))

pub one_text : (name a i : List ℕ) → name ++ a ++ (codes " " ++ i) ++ codes "\n" ≡ name ++ (a ++ ended (i ∷ []))
one_text name a i = simp append_assoc refl

action_by : (a : SiteApplication) (n : ℕ) (v w : List ℕ) → address_of v ≡ Some a → number_to 4294967295 w ≡ Some n
    → form_of (codes "action" ∷ v ∷ w ∷ []) ≡ Some (says.Action a n)
action_by a n v w address number = rw address (rw number refl)

action_spelt : (a : SiteApplication) (n : ℕ) → GoodAddress a → Spelt 4294967295 n → IsSpelled (says.Action a n)
action_spelt a n good s = record {
  name = codes "action";
  words = address_text a ∷ decimal n ∷ [];
  is = one_text (codes "action ") (address_text a) (decimal n);
  name_clean = refl;
  begins = refl;
  clean = (good.clean, (number_clean 4294967295 n s, tt));
  form = action_by a n (address_text a) (decimal n) good.reads s.reads;
}

pub action_again : (ws : List (List ℕ)) (s : Statement) → action_form ws ≡ Some s → IsSpelled s
action_again [] s h = absurd cc
action_again (v ∷ []) s h = absurd cc
action_again (v ∷ w ∷ []) s h =
    let a = step (address_of v) _ s h in
    let n = step (number_to 4294967295 w) _ s a.2 in
    subst IsSpelled (some_is (says.Action a.0 n.0) s n.2) (action_spelt a.0 n.0 (address_again v a.0 a.1) (spelt_again 4294967295 n.0 w (omega arith) n.1))
action_again (v ∷ w ∷ x ∷ ws) s h = absurd cc
