-- A value with its last byte cleared is cleared.
use Rattle.std.proofs.Common.{◌≡◌, ℕ, ◌-◌, ◌<◌, List, [], ◌∷◌, length, get_or, refl, sym, ap, ◌∙◌, arith}
use Rattle.std.specs.Prelude.{Option, Some, IsSome, slice_get}
use Rattle.std.proofs.lemmas.Option.{slice_get-get_or}
use Rattle.dis_records.specs.Layout.{bytes_for, cleared}
use Rattle.dis_records.proofs.Offered.{cleared_is, cleared_end}
use Rattle.siman_pdus.specs.Reading.{with_last}

pub last_makes_cleared : (bits : ℕ) (bytes : List ℕ) → length bytes ≡ bytes_for bits
    → with_last (slice_get (cleared bits bytes) (length bytes - 1)) bytes ≡ cleared bits bytes
last_makes_cleared bits [] len = refl
last_makes_cleared bits (byte ∷ bytes) len =
    let all : List ℕ = byte ∷ bytes in
    let at : ℕ = length all - 1 in
    let found : slice_get all at ≡ Some (get_or all at 0) = slice_get-get_or all at 0 (omega arith) in
    ap (λ (o : Option ℕ). with_last o all) (cleared_end bits (get_or all at 0) all len found) ∙ sym (cleared_is bits all len)

pub some_last : (bits : ℕ) (bytes : List ℕ) → IsSome (slice_get (cleared bits bytes) (length bytes - 1)) → 0 < length bytes
some_last bits [] some = absurd (cc)
some_last bits (byte ∷ bytes) some = omega arith
