-- What a change makes of a list of entities by rising numbers, and how many there are.
use Rattle.std.proofs.Common.{◌≡◌, ℕ, zero, suc, ◌+◌, ◌<◌, ◌≤◌, [], ◌∷◌, length, refl, ap, sym, subst, ◌∙◌, arith}
use Rattle.std.specs.Prelude.{Bool, true, false, ◌==◌, ◌&&◌, not, nat_lt, nat_le, Some, None, if◌then◌else◌}
use Rattle.std.proofs.lemmas.Bool.Decides.{nat_tests}
use Rattle.std.proofs.lemmas.Bool.{and_parts, eq-eqb, le-leb, lt-ltb}
use Rattle.dis_records.specs.declared.entity_number.TheConstants.{ANY_NUMBER}
use Rattle.exercise_model.specs.declared.station.TheConstants.{LARGEST_ENTITY}
use Rattle.siman_application.specs.declared.entity_list.TheConstants.{MOST_ENTITIES}
use Rattle.dis_records.specs.declared.entity_state.EntityState.{EntityState}
use Rattle.dis_records.specs.declared.entity_state.EntityState.TheVariants.{Absent, Stopped, Running}
use Rattle.dis_records.specs.declared.kind.Kind.{Kind}
use Rattle.dis_records.specs.declared.kind.Kind.TheVariants as kinds
use Rattle.dis_records.specs.declared.entity.Scope.{Scope}
use Rattle.dis_records.specs.declared.entity.Scope.TheVariants.{One, All}
use Rattle.exercise_model.specs.declared.state.Change.{Change}
use Rattle.exercise_model.specs.Station.{is_entity, is_absent, is_opening, is_opening_above, listed_state}
use Rattle.exercise_model.specs.Place.{first_below}
use Rattle.exercise_model.specs.State.{changed, state_made, scope_has}
use Rattle.siman_application.specs.Answer.{is_free, count_present, has_place, chosen}
use Rattle.siman_application.specs.Listed.{Entities, states_in, inserted, removed, all_changed, IsPossible}
use Rattle.siman_application.proofs.Numbers.{Rises, rises_from, rises_to, other_number, state_head, state_past, absent_up_to}

-- One more entity.

pub inserted_under : (b b' : Bool) (y x rest : EntityState) → (b ≡ true → b' ≡ true → ⊥)
    → (if b then x else (if b' then y else rest)) ≡ (if b' then y else (if b then x else rest))
inserted_under true true y x rest h = absurd (h refl refl)
inserted_under true false y x rest h = refl
inserted_under false b' y x rest h = refl

pub both_equal : (m n e : ℕ) → m < n → (m == e) ≡ true → (n == e) ≡ true → ⊥
both_equal m n e h s t = let a : m ≡ e = grind (arith, nat_tests) in let b : n ≡ e = grind (arith, nat_tests) in omega arith

pub state_inserted_by : (n e : ℕ) (y : EntityState) (x : ℕ × EntityState) (xs : Entities)
    → listed_state (inserted n y xs) e ≡ (if n == e then y else listed_state xs e)
    → (b : Bool) → nat_lt x.0 n ≡ b
    → listed_state (if b then x ∷ inserted n y xs else (n, y) ∷ x ∷ xs) e ≡ (if n == e then y else (if x.0 == e then x.1 else listed_state xs e))
state_inserted_by n e y x xs rest true t =
    let below : x.0 < n = grind (arith, nat_tests) in
    ap (λ (z : EntityState). if x.0 == e then x.1 else z) rest ∙ inserted_under (x.0 == e) (n == e) y x.1 (listed_state xs e) (both_equal x.0 n e below)
state_inserted_by n e y x xs rest false t = refl

pub state_inserted : (n e : ℕ) (y : EntityState) (xs : Entities) → listed_state (inserted n y xs) e ≡ (if n == e then y else listed_state xs e)
state_inserted n e y [] = refl
state_inserted n e y (x ∷ xs) = state_inserted_by n e y x xs (state_inserted n e y xs) (nat_lt x.0 n) refl

pub length-inserted : (n : ℕ) (y : EntityState) (xs : Entities) → length (inserted n y xs) ≡ suc (length xs)
length-inserted n y [] = refl
length-inserted n y (x ∷ xs) =
    elim (nat_lt x.0 n) as (λ b. length (if b then x ∷ inserted n y xs else (n, y) ∷ x ∷ xs) ≡ suc (suc (length xs))) [
      | true ↦ ap suc
          (length-inserted n y xs)
      | false ↦ refl
    ]

pub opening_inserted_by : (a n : ℕ) (y : EntityState) (x : ℕ × EntityState) (xs : Entities) → a < n → n ≤ LARGEST_ENTITY → is_absent y ≡ false
    → is_opening_above a (x ∷ xs) ≡ true → listed_state (x ∷ xs) n ≡ Absent
    → (x.0 < n → listed_state xs n ≡ Absent → is_opening_above x.0 (inserted n y xs) ≡ true)
    → (b : Bool) → nat_lt x.0 n ≡ b → is_opening_above a (if b then x ∷ inserted n y xs else (n, y) ∷ x ∷ xs) ≡ true
opening_inserted_by a n y x xs above within there o absent rest true t =
    let below : x.0 < n = grind (arith, nat_tests) in
    let r : Rises a x.0 x.1 xs = rises_from a x xs o in
    rises_to a x (inserted n y xs)
    (record { above = r.above; within = r.within; there = r.there; rest = rest below (sym (state_past x.0 n x.1 xs (λ same. omega arith)) ∙ absent) })
opening_inserted_by a n y x xs above within there o absent rest false t =
    let low : n ≤ x.0 = grind (arith, nat_tests) in
    let r : Rises a x.0 x.1 xs = rises_from a x xs o in
    let other : (x.0 ≡ n) → ⊥ = λ same. let clash : is_absent x.1 ≡ true = ap is_absent
    (sym (state_head x.0 n x.1 xs same) ∙ absent) in let there : is_absent x.1 ≡ false = r.there in absurd cc in
    let apart : n < x.0 = apart_of (nat_lt n x.0) refl other low in
    rises_to a (n, y) (x ∷ xs)
    (record { above = above; within = within; there = there; rest = rises_to n x xs (record { above = apart; within = r.within; there = r.there; rest = r.rest }) }) where
      apart_of : (c : Bool) → nat_lt n x.0 ≡ c → ((x.0 ≡ n) → ⊥) → n ≤ x.0 → n < x.0
      apart_of true u other low = grind (arith, nat_tests)
      apart_of false u other low = let same : x.0 ≡ n = grind (arith, nat_tests) in absurd (other same)

pub opening_inserted : (a n : ℕ) (y : EntityState) (xs : Entities) → a < n → n ≤ LARGEST_ENTITY → is_absent y ≡ false → is_opening_above a xs ≡ true
    → listed_state xs n ≡ Absent → is_opening_above a (inserted n y xs) ≡ true
opening_inserted a n y [] above within there o absent = rises_to a (n, y) [] (record { above = above; within = within; there = there; rest = refl })
opening_inserted a n y (x ∷ xs) above within there o absent =
    opening_inserted_by a n y x xs above within there o absent
    (λ below rest. opening_inserted x.0 n y xs below within there (rises_from a x xs o).rest rest) (nat_lt x.0 n) refl

-- One entity less.

pub lower_opening : (a b : ℕ) (xs : Entities) → b ≤ a → is_opening_above a xs ≡ true → is_opening_above b xs ≡ true
lower_opening a b [] h o = refl
lower_opening a b (x ∷ xs) h o =
    let r : Rises a x.0 x.1 xs = rises_from a x xs o in
    let above : a < x.0 = r.above in
    rises_to b x xs (record { above = omega arith; within = r.within; there = r.there; rest = r.rest })

pub opening_removed_by : (a n : ℕ) (x : ℕ × EntityState) (xs : Entities) → Rises a x.0 x.1 xs → is_opening_above x.0 (removed n xs) ≡ true
    → (b : Bool) → is_opening_above a (if b then xs else x ∷ removed n xs) ≡ true
opening_removed_by a n x xs r rest true = let above : a < x.0 = r.above in lower_opening x.0 a xs (omega arith) r.rest
opening_removed_by a n x xs r rest false = rises_to a x (removed n xs) (record { above = r.above; within = r.within; there = r.there; rest = rest })

pub opening_removed : (a n : ℕ) (xs : Entities) → is_opening_above a xs ≡ true → is_opening_above a (removed n xs) ≡ true
opening_removed a n [] o = refl
opening_removed a n (x ∷ xs) o =
    opening_removed_by a n x xs (rises_from a x xs o) (opening_removed x.0 n xs (rises_from a x xs o).rest) (x.0 == n)

pub length_removed_by : (n : ℕ) (x : ℕ × EntityState) (xs : Entities) → length (removed n xs) ≤ length xs → (b : Bool)
    → length (if b then xs else x ∷ removed n xs) ≤ suc (length xs)
length_removed_by n x xs h true = omega arith
length_removed_by n x xs h false = omega arith

pub length-removed : (n : ℕ) (xs : Entities) → length (removed n xs) ≤ length xs
length-removed n [] = omega arith
length-removed n (x ∷ xs) = length_removed_by n x xs (length-removed n xs) (x.0 == n)

pub state_removed_by : (a n e : ℕ) (x : ℕ × EntityState) (xs : Entities) → Rises a x.0 x.1 xs
    → listed_state (removed n xs) e ≡ (if n == e then Absent else listed_state xs e)
    → (b : Bool) → (x.0 == n) ≡ b → (d : Bool) → (n == e) ≡ d
    → listed_state (if b then xs else x ∷ removed n xs) e ≡ (if d then Absent else (if x.0 == e then x.1 else listed_state xs e))
state_removed_by a n e x xs r rest true t true u =
    let same : x.0 ≡ n = grind (arith, nat_tests) in let here : n ≡ e = grind (arith, nat_tests) in absent_up_to x.0 e xs r.rest (omega arith)
state_removed_by a n e x xs r rest true t false u =
    let same : x.0 ≡ n = grind (arith, nat_tests) in
    sym (state_past x.0 e x.1 xs (λ clash. let no : (n == e) ≡ true = eq-eqb n e (sym same ∙ clash) in absurd cc))
state_removed_by a n e x xs r rest false t true u =
    let here : n ≡ e = grind (arith, nat_tests) in
    state_past x.0 e x.1 (removed n xs) (λ clash. let no : (x.0 == n) ≡ true = eq-eqb x.0 n (clash ∙ sym here) in absurd cc) ∙ rest ∙ ap
    (λ (c : Bool). if c then Absent else listed_state xs e) u
state_removed_by a n e x xs r rest false t false u =
    ap (λ (z : EntityState). if x.0 == e then x.1 else z) (rest ∙ ap (λ (c : Bool). if c then Absent else listed_state xs e) u)

pub state_removed : (a n e : ℕ) (xs : Entities) → is_opening_above a xs ≡ true
    → listed_state (removed n xs) e ≡ (if n == e then Absent else listed_state xs e)
state_removed a n e [] o = elim (n == e) as (λ b. Absent ≡ (if b then Absent else Absent)) [ true ↦ refl | false ↦ refl ]
state_removed a n e (x ∷ xs) o =
    state_removed_by a n e x xs (rises_from a x xs o) (state_removed x.0 n e xs (rises_from a x xs o).rest) (x.0 == n) refl (n == e) refl

-- Each entity changed.

-- what a change of a kind other than Create and Remove leaves alone
pub made_keeps : (k : Kind) → ((k ≡ kinds.CreateEntity) → ⊥) → ((k ≡ kinds.RemoveEntity) → ⊥) → (y : EntityState)
    → is_absent (state_made k y) ≡ is_absent y
made_keeps kinds.CreateEntity p q y = absurd (p refl)
made_keeps kinds.RemoveEntity p q y = absurd (q refl)
made_keeps kinds.StartResume p q Absent = refl
made_keeps kinds.StartResume p q Stopped = refl
made_keeps kinds.StartResume p q Running = refl
made_keeps kinds.StopFreeze p q Absent = refl
made_keeps kinds.StopFreeze p q Stopped = refl
made_keeps kinds.StopFreeze p q Running = refl
made_keeps kinds.Acknowledge p q y = refl
made_keeps kinds.ActionRequest p q y = refl
made_keeps kinds.ActionResponse p q y = refl
made_keeps kinds.DataQuery p q y = refl
made_keeps kinds.SetData p q y = refl
made_keeps kinds.DataPdu p q y = refl
made_keeps kinds.EventReport p q y = refl
made_keeps kinds.Comment p q y = refl

pub absent_is : (y : EntityState) → is_absent y ≡ true → y ≡ Absent
absent_is Absent e = refl
absent_is Stopped e = absurd cc
absent_is Running e = absurd cc

pub changed_keeps : (c : Change) → ((y : EntityState) → is_absent (state_made c.kind y) ≡ is_absent y) → (e : ℕ) (y : EntityState)
    → is_absent (changed e y c) ≡ is_absent y
changed_keeps c keeps e y =
    elim (scope_has c.scope e) as (λ b. is_absent (if b then state_made c.kind y else y) ≡ is_absent y) [ true ↦ keeps y | false ↦ refl ]

pub length-all_changed : (c : Change) (xs : Entities) → length (all_changed c xs) ≡ length xs
length-all_changed c [] = refl
length-all_changed c (x ∷ xs) = ap suc (length-all_changed c xs)

pub opening_changed : (c : Change) → ((y : EntityState) → is_absent (state_made c.kind y) ≡ is_absent y) → (a : ℕ) (xs : Entities)
    → is_opening_above a xs ≡ true → is_opening_above a (all_changed c xs) ≡ true
opening_changed c keeps a [] o = refl
opening_changed c keeps a (x ∷ xs) o =
    let r : Rises a x.0 x.1 xs = rises_from a x xs o in
    rises_to a (x.0, changed x.0 x.1 c) (all_changed c xs) (record {
      above = r.above;
      within = r.within;
      there = changed_keeps c keeps x.0 x.1 ∙ r.there;
      rest = opening_changed c keeps x.0 xs r.rest;
    })

pub state_changed_by : (c : Change) (e : ℕ) (x : ℕ × EntityState) (rest xs : EntityState) → rest ≡ changed e xs c → (b : Bool) → (x.0 == e) ≡ b
    → (if b then changed x.0 x.1 c else rest) ≡ changed e (if b then x.1 else xs) c
state_changed_by c e x rest xs h true t = let same : x.0 ≡ e = grind (arith, nat_tests) in ap (λ (n : ℕ). changed n x.1 c) same
state_changed_by c e x rest xs h false t = h

pub state_changed : (c : Change) → ((y : EntityState) → is_absent (state_made c.kind y) ≡ is_absent y) → (e : ℕ) (xs : Entities)
    → listed_state (all_changed c xs) e ≡ changed e (listed_state xs e) c
state_changed c keeps e [] = sym (absent_is (changed e Absent c) (changed_keeps c keeps e Absent))
state_changed c keeps e (x ∷ xs) =
    state_changed_by c e x (listed_state (all_changed c xs) e) (listed_state xs e) (state_changed c keeps e xs) (x.0 == e) refl

-- How many entities there are.

abbrev pub up_to : ℕ → Entities → ℕ
up_to n [] = 0
up_to n (x ∷ xs) = (if nat_le x.0 n then 1 else 0) + up_to n xs

pub one_more : (n : ℕ) (x : ℕ × EntityState) (xs : Entities) → is_absent x.1 ≡ false → (x.0 ≡ suc n → listed_state xs (suc n) ≡ Absent)
    → up_to (suc n) xs ≡ up_to n xs + (if is_absent (listed_state xs (suc n)) then 0 else 1)
    → (b : Bool) → (x.0 == suc n) ≡ b
    → up_to (suc n) (x ∷ xs) ≡ up_to n (x ∷ xs) + (if is_absent (if b then x.1 else listed_state xs (suc n)) then 0 else 1)
one_more n x xs there absent rest true t =
    let same : x.0 ≡ suc n = grind (arith, nat_tests) in
    let in_new : nat_le x.0 (suc n) ≡ true = le-leb x.0 (suc n) (omega arith) in
    let in_old : nat_le x.0 n ≡ false = grind (arith, nat_tests) in
    let one : ◌≡◌ {A = ℕ} (if nat_le x.0 (suc n) then 1 else 0) 1 = ap (λ (b : Bool). if b then 1 else 0) in_new in
    let none : ◌≡◌ {A = ℕ} (if nat_le x.0 n then 1 else 0) 0 = ap (λ (b : Bool). if b then 1 else 0) in_old in
    let held : ◌≡◌ {A = ℕ} (if is_absent x.1 then 0 else 1) 1 = ap (λ (b : Bool). if b then 0 else 1) there in
    let gone : ◌≡◌ {A = ℕ} (if is_absent (listed_state xs (suc n)) then 0 else 1) 0 = ap (λ (y : EntityState). if is_absent y then 0 else 1) (absent same) in
    omega (arith, rest, one, none, held, gone)
one_more n x xs there absent rest false t =
    let other : (x.0 ≡ suc n) → ⊥ = λ same. let yes : (x.0 == suc n) ≡ true = eq-eqb x.0 (suc n) same in absurd cc in
    let alike : nat_le x.0 (suc n) ≡ nat_le x.0 n = alike_of (nat_le x.0 n) refl other in
    let one : ◌≡◌ {A = ℕ} (if nat_le x.0 (suc n) then 1 else 0) (if nat_le x.0 n then 1 else 0) = ap (λ (b : Bool). if b then 1 else 0) alike in
    omega (arith, rest, one) where
      alike_of : (b : Bool) → nat_le x.0 n ≡ b → ((x.0 ≡ suc n) → ⊥) → nat_le x.0 (suc n) ≡ b
      alike_of true u other = let low : x.0 ≤ n = grind (arith, nat_tests) in le-leb x.0 (suc n) (omega arith)
      alike_of false u other = past (nat_le x.0 (suc n)) refl where
        past : (c : Bool) → nat_le x.0 (suc n) ≡ c → c ≡ false
        past false v = refl
        past true v = let same : x.0 ≡ suc n = grind (arith, nat_tests) in absurd (other same)

pub up_to_more : (a n : ℕ) (xs : Entities) → is_opening_above a xs ≡ true
    → up_to (suc n) xs ≡ up_to n xs + (if is_absent (listed_state xs (suc n)) then 0 else 1)
up_to_more a n [] o = refl
up_to_more a n (x ∷ xs) o =
    let r : Rises a x.0 x.1 xs = rises_from a x xs o in
    one_more n x xs r.there (λ same. absent_up_to x.0 (suc n) xs r.rest (omega arith)) (up_to_more x.0 n xs r.rest) (x.0 == suc n) refl

pub up_to_none : (a : ℕ) (xs : Entities) → is_opening_above a xs ≡ true → up_to 0 xs ≡ 0
up_to_none a [] o = refl
up_to_none a (x ∷ xs) o =
    let r : Rises a x.0 x.1 xs = rises_from a x xs o in
    let above : a < x.0 = r.above in
    let none : ◌≡◌ {A = ℕ} (if nat_le x.0 0 then 1 else 0) 0 = let past : nat_le x.0 0 ≡ false = grind (arith, nat_tests) in ap
    (λ (b : Bool). if b then 1 else 0) past in
    omega (arith, none, up_to_none x.0 xs r.rest)

pub up_to_all : (a : ℕ) (xs : Entities) → is_opening_above a xs ≡ true → up_to LARGEST_ENTITY xs ≡ length xs
up_to_all a [] o = refl
up_to_all a (x ∷ xs) o =
    let r : Rises a x.0 x.1 xs = rises_from a x xs o in
    let one : ◌≡◌ {A = ℕ} (if nat_le x.0 LARGEST_ENTITY then 1 else 0) 1 = ap (λ (b : Bool). if b then 1 else 0) (le-leb x.0 LARGEST_ENTITY r.within) in
    omega (arith, one, up_to_all x.0 xs r.rest)

pub count_up_to : (a n : ℕ) (xs : Entities) → is_opening_above a xs ≡ true → count_present (states_in xs) n ≡ up_to n xs
unfolding count_present
count_up_to a zero xs o = sym (up_to_none a xs o)
count_up_to a (suc n) xs o = ap (λ m. m + (if is_absent (listed_state xs (suc n)) then 0 else 1)) (count_up_to a n xs o) ∙ sym (up_to_more a n xs o)

pub count_is_length : (xs : Entities) → is_opening xs ≡ true → count_present (states_in xs) LARGEST_ENTITY ≡ length xs
count_is_length xs o = count_up_to 0 LARGEST_ENTITY xs o ∙ up_to_all 0 xs o

pub has_few : (xs : Entities) → is_opening xs ≡ true → has_place (states_in xs) ≡ true → length xs < MOST_ENTITIES
has_few xs o e =
    let t : nat_lt (count_present (states_in xs) LARGEST_ENTITY) MOST_ENTITIES ≡ true = e in let few : count_present
    (states_in xs) LARGEST_ENTITY < MOST_ENTITIES = grind (arith, nat_tests) in omega (arith, count_is_length xs o)

-- A change made.

-- what a change makes of a list
pub record Makes (c : Change) (old new : Entities) : Type 0 where
  pub opening : is_opening new ≡ true
  pub few : length new ≤ MOST_ENTITIES
  pub states : states_in new ≡ (λ e. changed e (listed_state old e) c)

pub same_change : (c : Change) (k : Kind) (s : Scope) → c.kind ≡ k → c.scope ≡ s → record { kind = k; scope = s } ≡ c
same_change c k s p q = λ i. record { kind = (sym p) i; scope = (sym q) i }

pub not_false : (b : Bool) → not b ≡ false → b ≡ true
not_false true e = refl
not_false false e = absurd cc

pub creates : (n : ℕ) (xs : Entities) → is_opening xs ≡ true → IsPossible (record { kind = kinds.CreateEntity; scope = One n }) (states_in xs)
    → Makes (record { kind = kinds.CreateEntity; scope = One n }) xs (inserted n Stopped xs)
creates n xs o possible =
    let free = and_parts (is_entity n) (is_absent (listed_state xs n)) (not_false (is_entity n && is_absent (listed_state xs n)) possible.possible) in
    let range = and_parts (nat_le 1 n) (nat_le n LARGEST_ENTITY) free.0 in
    let low : 1 ≤ n = let t : nat_le 1 n ≡ true = range.0 in grind (arith, nat_tests) in
    let high : n ≤ LARGEST_ENTITY = let t : nat_le n LARGEST_ENTITY ≡ true = range.1 in grind (arith, nat_tests) in
    let few : length xs < MOST_ENTITIES = has_few xs o (possible.place refl) in
    record {
      opening = opening_inserted 0 n Stopped xs (omega arith) high refl o (absent_is (listed_state xs n) free.1);
      few = omega (arith, length-inserted n Stopped xs);
      states = λ i e. (state_inserted n e Stopped xs) i;
    }

pub create_makes : (c : Change) (n : ℕ) (xs : Entities) → c.kind ≡ kinds.CreateEntity → c.scope ≡ One n → is_opening xs ≡ true
    → IsPossible c (states_in xs) → Makes c xs (inserted n Stopped xs)
create_makes c n xs p q o possible =
    let same = same_change c kinds.CreateEntity (One n) p q in
    subst (λ (d : Change). Makes d xs (inserted n Stopped xs)) same (creates n xs o (subst (λ (d : Change). IsPossible d (states_in xs)) (sym same) possible))

-- not all entities are created
pub creates_all : (c : Change) (xs : Entities) → c.kind ≡ kinds.CreateEntity → c.scope ≡ All → IsPossible c (states_in xs) → ⊥
creates_all c xs p q possible =
    let same = same_change c kinds.CreateEntity All p q in
    let clash : true ≡ false = (subst (λ (d : Change). IsPossible d (states_in xs)) (sym same) possible).possible in absurd cc

pub remove_makes : (c : Change) (n : ℕ) (xs : Entities) → c.kind ≡ kinds.RemoveEntity → c.scope ≡ One n → is_opening xs ≡ true
    → length xs ≤ MOST_ENTITIES → Makes c xs (removed n xs)
remove_makes c n xs p q o few =
    subst (λ (d : Change). Makes d xs (removed n xs)) (same_change c kinds.RemoveEntity (One n) p q)
    (record { opening = opening_removed 0 n xs o; few = omega (arith, length-removed n xs); states = λ i e. (state_removed 0 n e xs o) i })

pub clear_makes : (c : Change) (xs : Entities) → c.kind ≡ kinds.RemoveEntity → c.scope ≡ All → Makes c xs []
clear_makes c xs p q =
    subst (λ (d : Change). Makes d xs []) (same_change c kinds.RemoveEntity All p q) (record { opening = refl; few = omega arith; states = refl })

pub each_makes : (c : Change) (xs : Entities) → ((c.kind ≡ kinds.CreateEntity) → ⊥) → ((c.kind ≡ kinds.RemoveEntity) → ⊥) → is_opening xs ≡ true
    → length xs ≤ MOST_ENTITIES → Makes c xs (all_changed c xs)
each_makes c xs p q o few =
    let keeps = made_keeps c.kind p q in
    record { opening = opening_changed c keeps 0 xs o; few = omega (arith, length-all_changed c xs); states = λ i e. (state_changed c keeps e xs) i }

-- The number that is chosen.

pub chosen_of : (y : ℕ → EntityState) (n m : ℕ) (b : Bool) → has_place y ≡ b
    → chosen y n ≡ (if b then (if n == ANY_NUMBER then first_below (is_free y) (LARGEST_ENTITY + 1) else (if is_free y n then Some n else None)) else None)
chosen_of y n m b e =
    ap (λ (c : Bool). if c then (if n == ANY_NUMBER then first_below (is_free y) (LARGEST_ENTITY + 1) else (if is_free y n then Some n else None)) else None) e

pub place_there : (xs : Entities) (b : Bool) → is_opening xs ≡ true → nat_lt (length xs) MOST_ENTITIES ≡ b → has_place (states_in xs) ≡ b
place_there xs b o e = ap (λ m. nat_lt m MOST_ENTITIES) (count_is_length xs o) ∙ e

pub chosen_none : (xs : Entities) (n : ℕ) → is_opening xs ≡ true → MOST_ENTITIES ≤ length xs → chosen (states_in xs) n ≡ None
chosen_none xs n o full = chosen_of (states_in xs) n 0 false (place_there xs false o (grind (arith, nat_tests)))

pub chosen_least : (xs : Entities) (n m : ℕ) → is_opening xs ≡ true → length xs < MOST_ENTITIES → n ≡ ANY_NUMBER
    → first_below (is_free (states_in xs)) (LARGEST_ENTITY + 1) ≡ Some m → chosen (states_in xs) n ≡ Some m
chosen_least xs n m o few any least =
    chosen_of (states_in xs) n 0 true (place_there xs true o (lt-ltb (length xs) MOST_ENTITIES few))
    ∙ ap (λ (b : Bool). if b then first_below (is_free (states_in xs)) (LARGEST_ENTITY + 1) else (if is_free (states_in xs) n then Some n else None))
    (eq-eqb n ANY_NUMBER any) ∙ least

pub chosen_own : (xs : Entities) (n : ℕ) → is_opening xs ≡ true → length xs < MOST_ENTITIES → ((n ≡ ANY_NUMBER) → ⊥) → (b : Bool)
    → is_free (states_in xs) n ≡ b → chosen (states_in xs) n ≡ (if b then Some n else None)
chosen_own xs n o few own b free =
    chosen_of (states_in xs) n 0 true (place_there xs true o (lt-ltb (length xs) MOST_ENTITIES few))
    ∙ ap (λ (c : Bool). if c then first_below (is_free (states_in xs)) (LARGEST_ENTITY + 1) else (if is_free (states_in xs) n then Some n else None))
    (other_number n ANY_NUMBER own)
    ∙ ap (λ (c : Bool). if c then Some n else None) free
