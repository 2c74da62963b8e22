-- What is handed out while the fragments of one datagram come.
use Rattle.std.specs.Prelude.{ℕ, ◌+◌, ◌<◌, ◌≤◌, nat_lt, List, [], ◌∷◌, length, slice_get, Option, Some, None}
use Rattle.std.specs.Option.{option_map_or}
use Rattle.packet_captures.specs.declared.carried.Addresses.{Addresses}
use Rattle.packet_captures.specs.Carried.{PlainFragment}
use Rattle.packet_captures.specs.Pending.{PlainPart, PlainPending}
use Rattle.packet_captures.specs.Assembly.{taken}

-- the fragment with a part, behind which more follow if it is not the last
abbrev pub fragment_of : Addresses → ℕ → List PlainPart → ℕ → PlainPart → PlainFragment
fragment_of addresses identification ps k p = record {
  addresses = addresses;
  identification = identification;
  offset = p.offset;
  more = nat_lt (k + 1) (length ps);
  size = length p.bytes;
  bytes = p.bytes;
}

-- what is handed out at each of the parts of these indices, each at its stamp
abbrev pub handed : Addresses → ℕ → List PlainPart → (ℕ → ℕ) → List ℕ → List PlainPending → List (Option (List ℕ))
handed addresses identification ps stamp [] held = []
handed addresses identification ps stamp (k ∷ ks) held =
    option_map_or (λ p.
    let then = taken held (stamp k) (fragment_of addresses identification ps k p) in
    then.whole ∷ handed addresses identification ps stamp ks then.held) (slice_get ps k) []

-- Each part comes less than 30 seconds after the one of this index, and not before it by the clock.
abbrev pub AreTimely : (ℕ → ℕ) → ℕ → Type 0
AreTimely stamp first = (k : ℕ) → (stamp first ≤ stamp k) × (stamp k < stamp first + 30_000_000)

-- nothing at each but the last
abbrev pub at_last : List ℕ → List ℕ → List (Option (List ℕ))
at_last [] whole = Some whole ∷ []
at_last (k ∷ ks) whole = None ∷ at_last ks whole
