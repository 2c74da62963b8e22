-- Clearing the bits that are left over changes the last byte alone.
use Rattle.std.proofs.Common.{◌≡◌, ℕ, suc, ◌-◌, ◌*◌, ◌/◌, ◌%◌, ◌^◌, ◌<◌, ◌≤◌, inl, inr, List, [], ◌∷◌, length, get_or, refl, sym, ap, ◌∙◌, arith, eq-eqb, ne_eqb, eqb, false}
use Rattle.std.proofs.Math.ListN.{set, length-set}
use Rattle.std.proofs.lemmas.Bool.{cases_lt, le-leb, lt-leb}
use Rattle.std.proofs.lemmas.List.{set-get_or, get_or-set_same}
use Rattle.std.proofs.lemmas.Nat.{shl-shr}
use Rattle.std.proofs.lemmas.Option.{slice_get-get_or, slice_get_within, get_or_from_slice_get, same_Some}
use Rattle.std.specs.Prelude.{Some, slice_get, ◌↔◌}
use Rattle.dis_records.specs.Layout.{bytes_for, first_bits, cleared, last_cleared}

first_bits_whole : (bits byte : ℕ) → 8 ≤ bits → first_bits bits byte ≡ byte
first_bits_whole bits byte le = rw (le-leb 8 bits le) refl

first_bits_part : (bits byte : ℕ) → bits < 8 → first_bits bits byte ≡ byte / 2 ^ (8 - bits) * 2 ^ (8 - bits)
first_bits_part bits byte lt = rw (lt-leb 8 bits lt) refl

pub length-cleared : (bits : ℕ) (bytes : List ℕ) → length (cleared bits bytes) ≡ length bytes
length-cleared bits [] = refl
length-cleared bits (byte ∷ bytes) = ap suc (length-cleared (bits - 8) bytes)

last_whole : (bits byte : ℕ) → bits % 8 ≡ 0 → last_cleared bits byte ≡ byte
last_whole bits byte whole = rw (eq-eqb (bits % 8) 0 whole) refl

last_part : (bits byte : ℕ) → bits < 8 → 0 < bits → last_cleared bits byte ≡ byte / 2 ^ (8 - bits) * 2 ^ (8 - bits)
last_part bits byte lt more =
    let same : bits % 8 ≡ bits = omega arith in
    let test : eqb (bits % 8) 0 ≡ false = ne_eqb (bits % 8) 0 (omega arith) in
    rw (test, same) refl

last_later : (bits byte : ℕ) → 8 ≤ bits → last_cleared (bits - 8) byte ≡ last_cleared bits byte
last_later bits byte le = let same : (bits - 8) % 8 ≡ bits % 8 = omega arith in rw same refl

-- bytes with another last byte
abbrev pub with_last : ℕ → List ℕ → List ℕ
with_last bits bytes = set bytes (length bytes - 1) (last_cleared bits (get_or bytes (length bytes - 1) 0))

pub cleared_is : (bits : ℕ) (bytes : List ℕ) → length bytes ≡ bytes_for bits → cleared bits bytes ≡ with_last bits bytes
cleared_is bits [] len = refl
cleared_is bits (byte ∷ []) len =
    elim (cases_lt bits 8) [
      | inl lt ↦ rw (first_bits_part bits byte lt, last_part bits byte lt (omega arith)) refl
      | inr le ↦ let eight : bits % 8 ≡ 0 = omega arith in rw (first_bits_whole bits byte le, last_whole bits byte eight) refl
    ]
cleared_is bits (byte ∷ next ∷ bytes) len =
    let long : 8 ≤ bits = omega arith in
    let others : cleared (bits - 8) (next ∷ bytes) ≡ with_last (bits - 8) (next ∷ bytes) = cleared_is (bits - 8) (next ∷ bytes) (omega arith) in
    let one : suc (suc (length bytes)) - 1 ≡ suc (length bytes) = omega arith in
    let two : suc (length bytes) - 1 ≡ length bytes = omega arith in
    rw (first_bits_whole bits byte long, others, one, two, last_later bits (get_or (next ∷ bytes) (length bytes) 0) long) refl

-- the last byte of cleared bytes
pub cleared_end : (bits last : ℕ) (bytes : List ℕ) → length bytes ≡ bytes_for bits → slice_get bytes (length bytes - 1) ≡ Some last
    → slice_get (cleared bits bytes) (length bytes - 1) ≡ Some (last_cleared bits last)
cleared_end bits last bytes len found =
    let at = length bytes - 1 in
    let new = last_cleared bits (get_or bytes at 0) in
    let here : at < length bytes = slice_get_within bytes at last found in
    let within : at < length (set bytes at new) = omega (arith, length-set bytes at new) in
    let is : get_or bytes at 0 ≡ last = get_or_from_slice_get bytes at last 0 found in
    rw (cleared_is bits bytes len) (slice_get-get_or (set bytes at new) at 0 within ∙ ap (λ (n : ℕ). Some n)
    (get_or-set_same bytes at new 0 here ∙ ap (λ (n : ℕ). last_cleared bits n) is))

-- Bytes are cleared exactly where their last byte is.
pub cleared_exactly : (bits last : ℕ) (bytes : List ℕ) → length bytes ≡ bytes_for bits → slice_get bytes (length bytes - 1) ≡ Some last
    → (last_cleared bits last ≡ last) ↔ (cleared bits bytes ≡ bytes)
cleared_exactly bits last bytes len found =
    let at = length bytes - 1 in
    let is : get_or bytes at 0 ≡ last = get_or_from_slice_get bytes at last 0 found in
    let new : last_cleared bits (get_or bytes at 0) ≡ last_cleared bits last = ap (λ (n : ℕ). last_cleared bits n) is in (
      λ same. cleared_is bits bytes len ∙ ap (λ (n : ℕ). set bytes at n) (new ∙ same ∙ sym is) ∙ set-get_or bytes at 0,
      λ same. same_Some (last_cleared bits last) last (sym (cleared_end bits last bytes len found) ∙ ap (λ (bs : List ℕ). slice_get bs at) same ∙ found),
    )

first_bits-first_bits : (bits byte : ℕ) → first_bits bits (first_bits bits byte) ≡ first_bits bits byte
first_bits-first_bits bits byte =
    elim (cases_lt bits 8) [
      | inr le ↦ rw (first_bits_whole bits byte le) (first_bits_whole bits byte le)
      | inl lt ↦ rw (first_bits_part bits byte lt, first_bits_part bits (byte / 2 ^ (8 - bits) * 2 ^ (8 - bits)) lt)
          (ap (λ (n : ℕ). n * 2 ^ (8 - bits)) (shl-shr (byte / 2 ^ (8 - bits)) (8 - bits)))
    ]

pub cleared-cleared : (bits : ℕ) (bytes : List ℕ) → cleared bits (cleared bits bytes) ≡ cleared bits bytes
cleared-cleared bits [] = refl
cleared-cleared bits (byte ∷ bytes) = rw (first_bits-first_bits bits byte, cleared-cleared (bits - 8) bytes) refl
