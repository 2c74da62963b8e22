-- Fragments put together (RFC 791, 3.2; RFC 815; RFC 8200, 4.5).
use Rattle.std.specs.Prelude.{ℕ, ◌+◌, not, ◌==◌, nat_lt, List, [], ◌∷◌, length, drop, insert, remove, slice_get, Option, Some, None, if◌then◌else◌}
use Rattle.packet_captures.specs.declared.fragment.Key.{Key}
use Rattle.packet_captures.specs.declared.assembly.TheConstants.{LARGEST_COUNT}
use Rattle.packet_captures.specs.Carried.{PlainFragment}
use Rattle.packet_captures.specs.Pending.{PlainPart, PlainPending, same_key, begun_at, goes_on, extended, is_complete, joined}

abbrev pub key_of : PlainFragment → Key
key_of f = record { source = f.addresses.source; target = f.addresses.target; identification = f.identification }

abbrev pub part_of : PlainFragment → PlainPart
part_of f = record { offset = f.offset; bytes = f.bytes }

-- The index of the datagram of a key among those that are held, of which the first has index i; the index behind them
-- if none is held.
abbrev pub place_from : ℕ → Key → List PlainPending → ℕ
place_from i key [] = i
place_from i key (d ∷ ds) = if same_key key d.key then i else place_from (i + 1) key ds

abbrev pub place_of : Key → List PlainPending → ℕ
place_of key held = place_from 0 key held

-- what is held, without the datagram of a key
abbrev pub without : Key → List PlainPending → List PlainPending
without key held = remove held (place_of key held)

-- the datagram that is held, if a part with this stamp goes on with it
abbrev pub going_on : ℕ → Option PlainPending → Option PlainPending
going_on stamp None = None
going_on stamp (Some d) = if goes_on stamp d then Some d else None

-- what is held then, and the whole datagram that is handed out, if any
pub record Taken : Type 0 where
  pub held : List PlainPending
  pub whole : Option (List ℕ)

-- without the one that began first, if there are more than 64
abbrev pub with_room : List PlainPending → List PlainPending
with_room ds = if nat_lt LARGEST_COUNT (length ds) then drop 1 ds else ds

-- When a datagram got one more part: it is given up if the part is none of it, handed out if it is whole, and else held
-- at its place among the others, which are in the order in which they began.
abbrev pub settled : List PlainPending → ℕ → Option PlainPending → Taken
settled others place None = record { held = others; whole = None }
settled others place (Some d) =
    if is_complete d then record { held = others; whole = Some (joined d.parts) }
    else record { held = with_room (insert others place d); whole = None }

-- When a fragment came at a stamp: it goes on with what is held of its datagram, or begins a new one, the last.
abbrev pub joining : List PlainPending → ℕ → ℕ → PlainFragment → Option PlainPending → Taken
joining others place stamp f None = settled others (length others) (extended (begun_at (key_of f) stamp) (part_of f) f.more)
joining others place stamp f (Some d) = settled others place (extended d (part_of f) f.more)

-- The same from what was held. A fragment that the capture cut changes nothing.
unfoldable pub taken : List PlainPending → ℕ → PlainFragment → Taken
taken held stamp f =
    if not (length f.bytes == f.size) then record { held = held; whole = None }
    else joining (without (key_of f) held) (place_of (key_of f) held) stamp f (going_on stamp (slice_get held (place_of (key_of f) held)))
