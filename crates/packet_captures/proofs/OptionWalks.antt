-- One option after another.
use Rattle.std.proofs.Common.{◌≡◌, ℕ, zero, suc, ◌+◌, List, drop, Option, true, false, refl, cond, ◌∙◌, ap, arith}
use Rattle.std.specs.Int.{w16}
use Rattle.packet_captures.specs.declared.byte_order.ByteOrder.{ByteOrder}
use Rattle.packet_captures.specs.Numbers.{number_at}
use Rattle.packet_captures.specs.Options.{padded, ends_options, found_at, option_from}

-- the options end
pub option_from-ended : (left : ℕ) (order : ByteOrder) (code : ℕ) (size : Option ℕ) (found : Option (List ℕ)) (b : List ℕ)
    → ends_options order b ≡ true → option_from left order code size found b ≡ found
option_from-ended zero order code size found b e = refl
option_from-ended (suc left) order code size found b e =
    ap (λ t. cond t found (option_from left order code size (found_at order code size found b) (drop (4 + padded (number_at order w16 2 b)) b))) e

-- one option more
pub option_from-more : (n m : ℕ) (order : ByteOrder) (code : ℕ) (size : Option ℕ) (found : Option (List ℕ)) (b : List ℕ)
    → n ≡ m + 1 → ends_options order b ≡ false
    → option_from n order code size found b
    ≡ option_from m order code size (found_at order code size found b) (drop (4 + padded (number_at order w16 2 b)) b)
option_from-more n m order code size found b k e =
    let s : n ≡ suc m = omega arith in
    ap (λ (j : ℕ). option_from j order code size found b) s
    ∙ ap (λ t. cond t found (option_from m order code size (found_at order code size found b) (drop (4 + padded (number_at order w16 2 b)) b))) e
