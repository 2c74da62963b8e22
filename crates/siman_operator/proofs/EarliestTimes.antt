-- The earliest of the times that a function gives, with one more.
use Rattle.std.proofs.Common.{◌≡◌, ℕ, ◌+◌, sym, ap, ◌∙◌, add-one, refl}
use Rattle.std.specs.Prelude.{Option, None}
use Rattle.siman_operator.specs.Clocks.{earlier, earliest_below}

pub none_first : (f : ℕ → Option ℕ) → None ≡ earliest_below f 0
unfolding earliest_below
none_first f = refl

pub one_more_time : (f : ℕ → Option ℕ) (n : ℕ) (before next : Option ℕ) → before ≡ earliest_below f n → next ≡ earlier before (f n)
    → next ≡ earliest_below f (n + 1)
unfolding earliest_below
one_more_time f n before next is here =
    here ∙ ap (λ (o : Option ℕ). earlier o (f n)) is ∙ ap (earliest_below f) (sym (add-one n))
