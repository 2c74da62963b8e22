-- Numbers of several digits: those before, and the last one or two.
use Rattle.std.proofs.Common.{◌≡◌, ℕ, ◌/◌, ◌%◌, ◌^◌, ◌<◌, ◌≤◌, ◌++◌, ◌∙◌, List, ap, sym, append_assoc, refl, arith}
use Rattle.std.specs.Prelude.{decimal}
use Rattle.std.proofs.lemmas.Fmt.{decimal_digit, decimal_step}

pub in_tens : (n : ℕ) → 10 ≤ n → n < 2 ^ 64 → decimal n ≡ decimal (n / 10) ++ decimal (n % 10)
in_tens n several fits =
    let last : n % 10 < 10 = omega arith in
    decimal_step n several fits ∙ ap (λ (ds : List ℕ). decimal (n / 10) ++ ds) (sym (decimal_digit (n % 10) last))

in_hundreds : (n : ℕ) → 100 ≤ n → n < 2 ^ 64 → decimal n ≡ decimal (n / 100) ++ (decimal (n % 100 / 10) ++ decimal (n % 100 % 10))
in_hundreds n several fits =
    let before : n / 10 / 10 ≡ n / 100 = omega arith in
    let tens : n / 10 % 10 ≡ n % 100 / 10 = omega arith in
    let ones : n % 10 ≡ n % 100 % 10 = omega arith in
    rw (in_tens n (omega arith) fits, in_tens (n / 10) (omega arith) (omega arith), append_assoc, before, tens, ← ones) refl

-- all digits but the last two, and behind them these
pub pair_behind : (old t u : List ℕ) (n : ℕ) → 100 ≤ n → n < 2 ^ 64 → t ≡ old ++ decimal (n / 100) → u ≡ t ++ (decimal (n % 100 / 10) ++ decimal (n % 100 % 10))
    → u ≡ old ++ decimal n
pair_behind old t u n several fits before here =
    let pair : List ℕ = decimal (n % 100 / 10) ++ decimal (n % 100 % 10) in
    here ∙ ap (λ x. x ++ pair) before ∙ append_assoc old (decimal (n / 100)) pair ∙ ap (λ x. old ++ x) (sym (in_hundreds n several fits))
