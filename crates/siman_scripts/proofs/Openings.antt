-- Entities that a station opens with, one more at the end.
use Rattle.std.proofs.Common.{◌≡◌, ℕ, Bool, true, false, ◌&&◌, nat_lt, nat_le, not, List, [], ◌∷◌, ◌++◌, length, get_or, zero, suc, refl, ◌∙◌, arith}
use Rattle.exercise_model.specs.declared.station.TheConstants.{LARGEST_ENTITY}
use Rattle.dis_records.specs.declared.entity_state.EntityState.{EntityState}
use Rattle.exercise_model.specs.Station.{is_absent, is_opening, is_opening_above}
use Rattle.siman_scripts.specs.Draft.{last_number}

and_true : (a b c r : Bool) → (a && (b && (c && r))) ≡ true → (r ≡ true) × ((s : Bool) → (a && (b && (c && s))) ≡ s)
and_true true true true r h = (h, λ s. refl)
and_true true true false r h = cc
and_true true false c r h = cc
and_true false b c r h = cc

-- entities that rise may go on with one above the last
opening_on : (above e : ℕ) (y : EntityState) (xs : List (ℕ × EntityState)) → is_opening_above above xs ≡ true
    → is_opening_above above (xs ++ (e, y) ∷ []) ≡ is_opening_above (last_number above xs) ((e, y) ∷ [])
opening_on above e y [] h = refl
opening_on above e y (x ∷ xs) h =
    let t = and_true (nat_lt above x.0) (nat_le x.0 LARGEST_ENTITY) (not (is_absent x.1)) (is_opening_above x.0 xs) h in
    t.1 (is_opening_above x.0 (xs ++ (e, y) ∷ [])) ∙ opening_on x.0 e y xs t.0

-- the last of some entities is the one at their last place
pub last_number-get : (n m : ℕ) (xs : List (ℕ × EntityState)) (d : ℕ × EntityState) → length xs ≡ suc m → last_number n xs ≡ (get_or xs m d).0
last_number-get n m [] d h = absurd (omega arith)
last_number-get n zero (x ∷ []) d h = refl
last_number-get n (suc m) (x ∷ []) d h = absurd (omega arith)
last_number-get n zero (x ∷ y ∷ ys) d h = absurd (omega arith)
last_number-get n (suc m) (x ∷ y ∷ ys) d h = last_number-get x.0 m (y ∷ ys) d (omega arith)

-- what stands behind the entities of a station
pub opens_next : (e : ℕ) (y : EntityState) (xs : List (ℕ × EntityState)) → is_opening xs ≡ true
    → is_opening (xs ++ (e, y) ∷ []) ≡ (nat_lt (last_number 0 xs) e && (nat_le e 65533 && (not (is_absent y) && true)))
opens_next e y xs h = opening_on 0 e y xs h
