-- Powers of ten, and ticks of a millionth and of a thousand-millionth of a second.
use Rattle.std.proofs.Common.{◌≡◌, ℕ, ◌*◌, ◌/◌, ◌^◌, ◌<◌, ◌≤◌, sym, ◌∙◌, ap, arith}
use Rattle.std.proofs.Math.Nat.{pow-le-pow_right, one-le-pow, mul-div_cancel, div-div-eq-div-mul, div-eq_of_lt}

pub tens_rise : (n : ℕ) → n < 26 → 10 ^ n < 2 ^ 84
tens_rise n h =
    let e : 10 ^ n ≤ 10 ^ 25 = pow-le-pow_right {n = 10} (omega arith) {i = n} {j = 25} (omega arith) in
    let top : 10 ^ 25 < 2 ^ 84 = omega arith in
    omega arith

pub tens_are_above_0 : (n : ℕ) → 0 < 10 ^ n
tens_are_above_0 n =
    let e : 1 ≤ 10 ^ n = one-le-pow n 10 (omega arith) in
    omega arith

-- ticks that are so short that 64 bits of them are no microsecond
pub tiny : (n ticks : ℕ) → 26 ≤ n → ticks < 2 ^ 64 → ticks * 1000000 / 10 ^ n ≡ 0
tiny n ticks h g =
    let e : 10 ^ 26 ≤ 10 ^ n = pow-le-pow_right {n = 10} (omega arith) {i = 26} {j = n} h in
    let top : ticks * 1000000 < 10 ^ 26 = omega arith in
    div-eq_of_lt {n = ticks * 1000000} {m = 10 ^ n} (omega arith)

pub plain : (n : ℕ) → n * 1000000 / 10 ^ 6 ≡ n
plain n = mul-div_cancel n {n = 1000000} (omega arith)

pub thousandths : (n : ℕ) → n * 1000000 / 10 ^ 9 ≡ n / 1000
thousandths n = sym (div-div-eq-div-mul (n * 1000000) 1000000 1000) ∙ ap (λ (m : ℕ). m / 1000) (plain n)
