-- One more header that is passed over.
use Rattle.std.proofs.Common.{◌≡◌, ℕ, zero, suc, ◌+◌, ◌-◌, ◌*◌, ◌<◌, ◌≤◌, false, List, length, drop, refl, sym, ne_eqb, arith}
use Rattle.std.specs.Prelude.{◌==◌, nat_lt, if◌then◌else◌, Some}
use Rattle.std.proofs.lemmas.Bool.{le-ltb}
use Rattle.std.specs.Int.{w8}
use Rattle.packet_captures.specs.declared.carried.Addresses.{Addresses}
use Rattle.packet_captures.specs.NetworkOrder.{number_at}
use Rattle.packet_captures.specs.Carried.{Other, Unsettled}
use Rattle.packet_captures.specs.UserDatagram.{datagram_of}
use Rattle.packet_captures.specs.Internet6.{behind_6, fragment_6, is_no_extension, extension_size}

pub behind_none : (n : ℕ) (addresses : Addresses) (next size : ℕ) (b : List ℕ) → n ≡ 0 → behind_6 n addresses next size b ≡ Other
unfolding behind_6
behind_none n addresses next size b none = rw none refl

pub behind_more : (n : ℕ) (addresses : Addresses) (next size : ℕ) (b : List ℕ) → 0 < n
    → behind_6 n addresses next size b ≡
    (if next == 17 then datagram_of addresses size b
    else (if next == 44 then fragment_6 addresses size b
    else (if is_no_extension next size b then Other
    else (if nat_lt (length b) 2 then Unsettled (Some addresses)
    else (if nat_lt size (extension_size b) then Other
    else behind_6 (n - 1) addresses (number_at w8 0 b) (size - extension_size b) (drop (extension_size b) b))))))
unfolding behind_6
behind_more zero addresses next size b lt = absurd (omega arith)
behind_more (suc n) addresses next size b lt = let e : suc n - 1 ≡ n = omega arith in rw e refl

-- what stands behind a header is what stands behind the extension header behind it
pub behind_passed : (n m : ℕ) (addresses : Addresses) (next size first unit : ℕ) (b rest : List ℕ)
    → n ≡ m + 1 → (next ≡ 17 → ⊥) → (next ≡ 44 → ⊥) → is_no_extension next size b ≡ false
    → 2 ≤ length b → 8 + 8 * unit ≤ size
    → first ≡ number_at w8 0 b → unit ≡ number_at w8 1 b → rest ≡ drop (8 + 8 * unit) b
    → behind_6 m addresses first (size - (8 + 8 * unit)) rest ≡ behind_6 n addresses next size b
behind_passed n m addresses next size first unit b rest step not_user not_fragment extension two room first_is unit_is rest_is =
    let more = behind_more n addresses next size b (omega arith) in
    let e : n - 1 ≡ m = omega arith in
    let plain = rw (ne_eqb next 17 not_user, ne_eqb next 44 not_fragment, extension, le-ltb (length b) 2 two, ← unit_is, le-ltb size (8 + 8 * unit) room, e, ← first_is, ← rest_is) at more in
    sym plain
