-- Lists of entities by rising numbers, step by step.
use Rattle.std.proofs.Common.{◌≡◌, ℕ, zero, suc, ◌+◌, ◌<◌, ◌≤◌, List, [], ◌∷◌, length, get_or, drop, refl, ap, sym, subst, ◌∙◌, arith, add-one, drop-cons}
use Rattle.std.specs.Prelude.{Bool, true, false, ◌==◌, ◌&&◌, not, nat_lt, nat_le, Option, Some, None, if◌then◌else◌}
use Rattle.std.specs.Option.{option_or}
use Rattle.std.proofs.lemmas.Bool.Decides.{nat_tests}
use Rattle.std.proofs.lemmas.Bool.{and_from, and_parts, eq-eqb, le-leb, lt-ltb}
use Rattle.exercise_model.specs.declared.station.TheConstants.{LARGEST_ENTITY}
use Rattle.dis_records.specs.declared.entity_state.EntityState.{EntityState}
use Rattle.dis_records.specs.declared.entity_state.EntityState.TheVariants.{Absent}
use Rattle.exercise_model.specs.Station.{is_entity, is_absent, is_opening, is_opening_above, listed_state}
use Rattle.exercise_model.specs.Place.{first_below}
use Rattle.siman_application.specs.Answer.{is_free}
use Rattle.siman_application.specs.Listed.{Entities, states_in}

-- Opening lists.

-- an entity at the head of a list that rises
pub record Rises (a n : ℕ) (y : EntityState) (xs : Entities) : Type 0 where
  pub above : a < n
  pub within : n ≤ LARGEST_ENTITY
  pub there : is_absent y ≡ false
  pub rest : is_opening_above n xs ≡ true

pub not_true : (b : Bool) → not b ≡ true → b ≡ false
not_true true e = absurd cc
not_true false e = refl

pub rises_from : (a : ℕ) (x : ℕ × EntityState) (xs : Entities) → is_opening_above a (x ∷ xs) ≡ true → Rises a x.0 x.1 xs
rises_from a x xs e =
    let p = and_parts (nat_lt a x.0) (nat_le x.0 LARGEST_ENTITY && (not (is_absent x.1) && is_opening_above x.0 xs)) e in
    let q = and_parts (nat_le x.0 LARGEST_ENTITY) (not (is_absent x.1) && is_opening_above x.0 xs) p.1 in
    let r = and_parts (not (is_absent x.1)) (is_opening_above x.0 xs) q.1 in
    record {
      above = let t : nat_lt a x.0 ≡ true = p.0 in grind (arith, nat_tests);
      within = let t : nat_le x.0 LARGEST_ENTITY ≡ true = q.0 in grind (arith, nat_tests);
      there = not_true (is_absent x.1) r.0;
      rest = r.1;
    }

pub rises_to : (a : ℕ) (x : ℕ × EntityState) (xs : Entities) → Rises a x.0 x.1 xs → is_opening_above a (x ∷ xs) ≡ true
rises_to a x xs r =
    and_from (nat_lt a x.0) (nat_le x.0 LARGEST_ENTITY && (not (is_absent x.1) && is_opening_above x.0 xs)) (lt-ltb a x.0 r.above)
    (and_from (nat_le x.0 LARGEST_ENTITY) (not (is_absent x.1) && is_opening_above x.0 xs) (le-leb x.0 LARGEST_ENTITY r.within)
    (and_from (not (is_absent x.1)) (is_opening_above x.0 xs) (ap not r.there) r.rest))

pub other_number : (m n : ℕ) → ((m ≡ n) → ⊥) → (m == n) ≡ false
other_number m n h = by (m == n) refl where
  by : (b : Bool) → (m == n) ≡ b → b ≡ false
  by true t = let same : m ≡ n = grind (arith, nat_tests) in absurd (h same)
  by false t = refl

-- the state at a head, and past it
pub state_head : (n e : ℕ) (y : EntityState) (xs : Entities) → n ≡ e → listed_state ((n, y) ∷ xs) e ≡ y
state_head n e y xs h = ap (λ (b : Bool). if b then y else listed_state xs e) (eq-eqb n e h)

pub state_past : (n e : ℕ) (y : EntityState) (xs : Entities) → ((n ≡ e) → ⊥) → listed_state ((n, y) ∷ xs) e ≡ listed_state xs e
state_past n e y xs h = ap (λ (b : Bool). if b then y else listed_state xs e) (other_number n e h)

-- numbers up to the bound are not in the list
pub absent_up_to : (a e : ℕ) (xs : Entities) → is_opening_above a xs ≡ true → e ≤ a → listed_state xs e ≡ Absent
absent_up_to a e [] o h = refl
absent_up_to a e (x ∷ xs) o h =
    let r : Rises a x.0 x.1 xs = rises_from a x xs o in
    let above : a < x.0 = r.above in
    state_past x.0 e x.1 xs (λ same. omega arith) ∙ absent_up_to x.0 e xs r.rest (omega arith)

-- nor are those past the largest
pub absent_past : (a e : ℕ) (xs : Entities) → is_opening_above a xs ≡ true → LARGEST_ENTITY < e → listed_state xs e ≡ Absent
absent_past a e [] o h = refl
absent_past a e (x ∷ xs) o h =
    let r : Rises a x.0 x.1 xs = rises_from a x xs o in
    let within : x.0 ≤ LARGEST_ENTITY = r.within in
    state_past x.0 e x.1 xs (λ same. omega arith) ∙ absent_past x.0 e xs r.rest h

-- The least free number.

pub found_next : (test : ℕ → Bool) (k n : ℕ) → first_below test k ≡ None → test k ≡ true → k < suc n → (k < n → first_below test n ≡ Some k)
    → (b : Bool) → nat_lt k n ≡ b → option_or (first_below test n) (if test n then Some n else None) ≡ Some k
found_next test k n none t h rest true lt =
    let below : k < n = grind (arith, nat_tests) in ap (λ (o : Option ℕ). option_or o (if test n then Some n else None)) (rest below)
found_next test k n none t h rest false lt =
    let same : k ≡ n = grind (arith, nat_tests) in
    subst (λ (m : ℕ). option_or (first_below test m) (if test m then Some m else None) ≡ Some k) same
    (ap (λ (o : Option ℕ). option_or o (if test k then Some k else None)) none ∙ ap (λ (b : Bool). if b then Some k else None) t)

pub first_found : (test : ℕ → Bool) (k n : ℕ) → first_below test k ≡ None → test k ≡ true → k < n → first_below test n ≡ Some k
unfolding first_below
first_found test k zero none t h = absurd (omega arith)
first_found test k (suc n) none t h = found_next test k n none t h (first_found test k n none t) (nat_lt k n) refl

pub first_not : (test : ℕ → Bool) (k : ℕ) → first_below test k ≡ None → test k ≡ false → first_below test (k + 1) ≡ None
unfolding first_below
first_not test k none t =
    ap (first_below test) (add-one k) ∙ ap (λ (o : Option ℕ). option_or o (if test k then Some k else None)) none ∙ ap
    (λ (b : Bool). if b then Some k else None) t

pub none_below_one : (y : ℕ → EntityState) → first_below (is_free y) 1 ≡ None
unfolding first_below
none_below_one y = refl

-- the numbers below `least` are those of the first i entities
pub record LeastAt (xs : Entities) (i least : ℕ) : Type 0 where
  pub least_is : least ≡ i + 1
  pub rises : is_opening_above i (drop i xs) ≡ true
  pub above : (e : ℕ) → least ≤ e → listed_state (drop i xs) e ≡ listed_state xs e
  pub none : first_below (is_free (states_in xs)) least ≡ None

pub least_start : (xs : Entities) → is_opening xs ≡ true → LeastAt xs 0 1
least_start xs o = record { least_is = omega arith; rises = o; above = λ e h. refl; none = none_below_one (states_in xs) }

pub is_entity-true : (e : ℕ) → 1 ≤ e → e ≤ LARGEST_ENTITY → is_entity e ≡ true
is_entity-true e low high = and_from (nat_le 1 e) (nat_le e LARGEST_ENTITY) (le-leb 1 e low) (le-leb e LARGEST_ENTITY high)

pub least_more : (xs : Entities) (i least : ℕ) (x : ℕ × EntityState) → drop i xs ≡ x ∷ drop (i + 1) xs → LeastAt xs i least → x.0 ≡ least
    → LeastAt xs (i + 1) (least + 1)
least_more xs i least x at l same =
    let r : Rises i x.0 x.1 (drop (i + 1) xs) = rises_from i x (drop (i + 1) xs) (ap (is_opening_above i) (sym at) ∙ l.rises) in
    let is : least ≡ i + 1 = l.least_is in
    let here : listed_state xs least ≡ x.1 = sym (l.above least (omega arith)) ∙ ap (λ (ys : Entities). listed_state ys least) at ∙ state_head x.0 least x.1
    (drop (i + 1) xs) same in
    record {
      least_is = omega arith;
      rises = subst (λ (n : ℕ). is_opening_above n (drop (i + 1) xs) ≡ true) (same ∙ is) r.rest;
      above = λ e h. sym (state_past x.0 e x.1 (drop (i + 1) xs) (λ clash. omega arith)) ∙ ap (λ (ys : Entities). listed_state ys e) (sym at) ∙ l.above e
          (omega arith);
      none = first_not (is_free (states_in xs)) least l.none (ap (λ (b : Bool). is_entity least && b) (ap is_absent here ∙ r.there) ∙ and_false
          (is_entity least));
    } where
      and_false : (b : Bool) → (b && false) ≡ false
      and_false true = refl
      and_false false = refl

pub least_found : (xs : Entities) (i least : ℕ) → LeastAt xs i least → least ≤ LARGEST_ENTITY → listed_state (drop i xs) least ≡ Absent
    → first_below (is_free (states_in xs)) (LARGEST_ENTITY + 1) ≡ Some least
least_found xs i least l within absent =
    let is : least ≡ i + 1 = l.least_is in
    first_found (is_free (states_in xs)) least (LARGEST_ENTITY + 1) l.none
    (and_from (is_entity least) (is_absent (listed_state xs least)) (is_entity-true least (omega arith) within)
    (ap is_absent (sym (l.above least (omega arith)) ∙ absent)))
    (omega arith)

-- a gap before the entity at the head
pub least_gap : (xs : Entities) (i least : ℕ) (x : ℕ × EntityState) → drop i xs ≡ x ∷ drop (i + 1) xs → LeastAt xs i least → ((x.0 ≡ least) → ⊥)
    → first_below (is_free (states_in xs)) (LARGEST_ENTITY + 1) ≡ Some least
least_gap xs i least x at l other =
    let r : Rises i x.0 x.1 (drop (i + 1) xs) = rises_from i x (drop (i + 1) xs) (ap (is_opening_above i) (sym at) ∙ l.rises) in
    let is : least ≡ i + 1 = l.least_is in
    let above : i < x.0 = r.above in
    let within : x.0 ≤ LARGEST_ENTITY = r.within in
    least_found xs i least l (omega arith)
    (ap (λ (ys : Entities). listed_state ys least) at ∙ state_past x.0 least x.1 (drop (i + 1) xs) other ∙ absent_up_to x.0 least (drop (i + 1) xs) r.rest
    (omega arith))

pub head_at : {X : Type 0} (xs : List X) (i : ℕ) (d : X) → i < length xs → drop i xs ≡ get_or xs i d ∷ drop (i + 1) xs
head_at xs i d h = rw (add-one, drop-cons xs i d) refl
