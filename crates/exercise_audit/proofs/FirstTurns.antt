-- The first of the turns.
use Rattle.std.proofs.Common.{◌≡◌, ℕ, ◌<◌, ◌≤◌, List, length, Option, Some, None, true, false, refl, ap, arith}
use Rattle.std.specs.Prelude.{◌&&◌, ◌||◌, ◌==◌, nat_lt, is_some, slice_set, if◌then◌else◌}
use Rattle.std.proofs.lemmas.Bool.{ltb-true, eqb-true}
use Rattle.std.proofs.lemmas.List.Sums.{sum_by-set}
use Rattle.exercise_audit.specs.declared.turns.Moment.{Moment}
use Rattle.exercise_audit.specs.Turns.{turn_of, IsNotAfter, is_before, turn_count}

-- a test of two moments says which is not after the other
pub before_true : (m o : Moment) → is_before m o ≡ true → IsNotAfter m o
before_true m o e =
    elim (nat_lt m.stamp o.stamp) as (λ t. nat_lt m.stamp o.stamp ≡ t → (t || ((m.stamp == o.stamp) && nat_lt m.entry o.entry)) ≡ true → IsNotAfter m o) [
      | true ↦ λ less _. let l = ltb-true m.stamp o.stamp less in (omega (arith, l), λ same. absurd (omega (arith, l, same)))
      | false ↦ λ _. elim (m.stamp == o.stamp) as (λ q. (m.stamp == o.stamp) ≡ q → (q && nat_lt m.entry o.entry) ≡ true → IsNotAfter m o) [
        | true ↦ λ same less.
            let s = eqb-true m.stamp o.stamp same in
            let l = ltb-true m.entry o.entry less in
            (omega (arith, s), λ _. omega (arith, l))
        | false ↦ λ _ h. absurd (cc)
      ] refl
    ] refl e

pub before_false : (m o : Moment) → is_before m o ≡ false → IsNotAfter o m
before_false m o e = grind (arith, e)

pub not_after_itself : (m : Moment) → IsNotAfter m m
not_after_itself m = (omega arith, λ _. omega arith)

pub not_after_on : (a b d : Moment) → IsNotAfter a b → IsNotAfter b d → IsNotAfter a d
not_after_on a b d p q = (
  omega (arith, p.0, q.0),
  λ same.
      let first : a.stamp ≡ b.stamp = omega (arith, p.0, q.0, same) in
      let other : b.stamp ≡ d.stamp = omega (arith, first, same) in
      let x : a.entry ≤ b.entry = p.1 first in
      let y : b.entry ≤ d.entry = q.1 other in
      omega (arith, x, y),
)

-- a station that has a turn, and has none any more
pub fewer_turns : (turns : List (Option Moment)) (s : ℕ) (m : Moment) → s < length turns → turn_of turns s ≡ Some m
    → turn_count (slice_set turns s None) < turn_count turns
fewer_turns turns s m within at =
    let one : Option Moment → ℕ = λ o. if is_some o then 1 else 0 in
    let sums = sum_by-set one turns s None None within in
    let here : one (turn_of turns s) ≡ one (Some m) = ap one at in
    omega (arith, sums, here)
