-- Datagrams of which fragments are held (RFC 791, 3.2; RFC 815; RFC 8200, 4.5).
use Rattle.std.specs.Prelude.{ℕ, ◌+◌, ◌%◌, Bool, true, false, not, ◌==◌, ◌&&◌, ◌||◌, nat_lt, nat_le, List, [], ◌∷◌, length, insert, flat_map, Option, Some, None, if◌then◌else◌}
use Rattle.std.specs.Option.{option_map, option_map_or}
use Rattle.packet_captures.specs.declared.host.Host.{Host}
use Rattle.packet_captures.specs.declared.host.Host.TheVariants.{V4, V6}
use Rattle.packet_captures.specs.declared.fragment.Key.{Key}

-- two addresses are one
abbrev pub same_host : Host → Host → Bool
same_host (V4 m) (V4 n) = m == n
same_host (V6 k l) (V6 m n) = (k == m) && (l == n)
same_host (V4 n) (V6 k l) = false
same_host (V6 k l) (V4 n) = false

-- fragments are of one datagram: they have one source, target and identification, and one protocol, which is UDP
abbrev pub same_key : Key → Key → Bool
same_key k l = same_host k.source l.source && (same_host k.target l.target && (k.identification == l.identification))

-- a part of a datagram: its place there in bytes, and its bytes
pub record PlainPart : Type 0 where
  pub offset : ℕ
  pub bytes : List ℕ

-- the place behind a part
abbrev pub end_of : PlainPart → ℕ
end_of p = p.offset + length p.bytes

-- A datagram of which parts are held: the stamp of the first of them that came, its size if its last part told it, and
-- its parts in the order of their places.
pub record PlainPending : Type 0 where
  pub key : Key
  pub begun : ℕ
  pub end : Option ℕ
  pub parts : List PlainPart

-- a datagram of which nothing is held yet
abbrev pub begun_at : Key → ℕ → PlainPending
begun_at key stamp = record { key = key; begun = stamp; end = None; parts = [] }

-- A part that comes at this stamp goes on with the datagram: it comes less than 30 seconds (in microseconds) after the
-- first, and not before it by the clock.
abbrev pub goes_on : ℕ → PlainPending → Bool
goes_on stamp d = nat_le d.begun stamp && nat_lt stamp (d.begun + 30_000_000)

-- no part reaches behind this place
abbrev pub all_within : ℕ → List PlainPart → Bool
all_within end [] = true
all_within end (p ∷ ps) = nat_le (end_of p) end && all_within end ps

-- A part of this size, behind which more follow or not, has a wrong length: it is not the last, and is empty or no
-- multiple of eight bytes long.
abbrev pub has_wrong_length : ℕ → Bool → Bool
has_wrong_length size more = more && ((size == 0) || not (size % 8 == 0))

-- A part with this end does not agree with what is known of the datagram's: it is a second last one, or stands behind
-- the end; or it tells an end behind which a part stands.
abbrev pub has_wrong_end : PlainPending → ℕ → Bool → Bool
has_wrong_end d end more =
    option_map_or (λ told. not more || nat_lt told end) d.end false || (not more && not (all_within end d.parts))

-- The part has a wrong length, reaches beyond 65,535, or does not agree with the datagram's end.
unfoldable pub is_wrong : PlainPending → PlainPart → Bool → Bool
is_wrong d p more = has_wrong_length (length p.bytes) more || (nat_lt 65535 (end_of p) || has_wrong_end d (end_of p) more)

-- The index at which a part from a place to an end stands among parts in the order of their places, of which the first
-- has index i; none if it overlaps one of them.
abbrev pub index_from : ℕ → ℕ → ℕ → List PlainPart → Option ℕ
index_from i offset end [] = Some i
index_from i offset end (p ∷ ps) =
    if nat_le end p.offset then Some i
    else (if nat_le (end_of p) offset then index_from (i + 1) offset end ps
    else None)

-- the datagram with one more part, behind which more follow or not; none if the part is wrong or overlaps another
unfoldable pub extended : PlainPending → PlainPart → Bool → Option PlainPending
extended d p more =
    if is_wrong d p more then None
    else option_map (λ i. record d { end = if more then d.end else Some (end_of p); parts = insert d.parts i p }) (index_from 0 p.offset (end_of p) d.parts)

-- the parts follow one another from a place to the end
abbrev pub cover : ℕ → ℕ → List PlainPart → Bool
cover at end [] = at == end
cover at end (p ∷ ps) = (p.offset == at) && cover (end_of p) end ps

-- the end is told, and the parts cover the datagram once and wholly
abbrev pub is_complete : PlainPending → Bool
is_complete d = option_map_or (λ end. cover 0 end d.parts) d.end false

-- the bytes of the parts, one after the other
abbrev pub joined : List PlainPart → List ℕ
joined ps = flat_map (λ p. p.bytes) ps
