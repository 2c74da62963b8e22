-- The first order that a tick sends again, and whether one is due.
use Rattle.std.proofs.Common.{◌≡◌, ℕ, ◌+◌, ◌<◌, inl, inr, refl, sym, ap, ◌∙◌, arith}
use Rattle.std.specs.Prelude.{Bool, true, false, ◌||◌, Option, Some, None, is_some, if◌then◌else◌}
use Rattle.std.specs.Option.{option_or}
use Rattle.std.proofs.lemmas.Bool.{cases_lt}
use Rattle.exercise_model.specs.Place.{first_below}
use Rattle.std.proofs.Math.Numerals.{add-one}
use Rattle.exercise_model.proofs.Offered.{first_is}

-- none of the numbers below n passes
pub record NonePass (test : ℕ → Bool) (n : ℕ) : Type 0 where
  pub none : first_below test n ≡ None
  pub each : (k : ℕ) → k < n → test k ≡ false

pub none_at_first : (test : ℕ → Bool) → NonePass test 0
unfolding first_below
none_at_first test = record { none = refl; each = λ k l. absurd (omega (arith, l)) }

first_below-more : (test : ℕ → Bool) (n : ℕ) → first_below test (n + 1) ≡ option_or (first_below test n) (if test n then Some n else None)
unfolding first_below
first_below-more test n = ap (first_below test) (add-one n)

pub one_more : (test : ℕ → Bool) (n : ℕ) → NonePass test n → test n ≡ false → NonePass test (n + 1)
one_more test n before here = record {
  none = first_below-more test n ∙ (ap (λ (o : Option ℕ). option_or o (if test n then Some n else None)) before.none ∙ ap (λ (b : Bool). if b then Some n else None) here);
  each = λ k l. elim (cases_lt k n) [
    | inl below ↦ before.each k below
    | inr past ↦ let same : k ≡ n = omega (arith, l, past) in ap test same ∙ here
  ];
}

pub found : (test : ℕ → Bool) (n m : ℕ) → NonePass test n → n < m → test n ≡ true → first_below test m ≡ Some n
found test n m before l here = first_is test m n l here before.each

-- whether some number below n passes
pub none_passes : (test : ℕ → Bool) → false ≡ is_some (first_below test 0)
unfolding first_below
none_passes test = refl

some_of : (o : Option ℕ) (b : Bool) (n : ℕ) → is_some (option_or o (if b then Some n else None)) ≡ is_some o || b
some_of None true n = refl
some_of None false n = refl
some_of (Some k) b n = refl

or_true : (b : Bool) → b || true ≡ true
or_true true = refl
or_true false = refl

or_false : (b : Bool) → b || false ≡ b
or_false true = refl
or_false false = refl

pub passes_here : (test : ℕ → Bool) (n : ℕ) → test n ≡ true → true ≡ is_some (first_below test (n + 1))
passes_here test n here =
    sym (ap is_some (first_below-more test n) ∙ some_of (first_below test n) (test n) n ∙ ap (λ (b : Bool). is_some (first_below test n) || b) here ∙ or_true (is_some (first_below test n)))

pub passes_before : (test : ℕ → Bool) (n : ℕ) (before : Bool) → before ≡ is_some (first_below test n) → test n ≡ false → before ≡ is_some (first_below test (n + 1))
passes_before test n before is here =
    is ∙ sym (ap is_some (first_below-more test n) ∙ some_of (first_below test n) (test n) n ∙ ap (λ (b : Bool). is_some (first_below test n) || b) here ∙ or_false (is_some (first_below test n)))
