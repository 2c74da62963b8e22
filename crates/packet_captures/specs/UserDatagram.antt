-- UDP datagrams (RFC 768): source port, target port, length of header and data, checksum, two bytes each; the data.
use Rattle.std.specs.Prelude.{ℕ, ◌-◌, Bool, false, ◌==◌, ◌||◌, nat_lt, List, [], length, take, drop, Option, Some, None, if◌then◌else◌}
use Rattle.std.specs.Option.{option_map_or}
use Rattle.std.specs.Int.{w16}
use Rattle.packet_captures.specs.declared.carried.Addresses.{Addresses}
use Rattle.packet_captures.specs.NetworkOrder.{number_if}
use Rattle.packet_captures.specs.Carried.{Contents, Other, User, PlainDatagram}

-- The datagram with this length field, if that is there. It is malformed if the length has no room for the header,
-- or is beyond the `size` bytes that the IP header gives it. What stands behind its length is no part of it, as for
-- the hosts that receive it.
abbrev pub measured : Addresses → ℕ → List ℕ → Option ℕ → Contents
measured addresses size b None =
    User (record { addresses = addresses; source_port = number_if w16 0 b; target_port = number_if w16 2 b; size = None; bytes = [] })
measured addresses size b (Some len) =
    if nat_lt len 8 || nat_lt size len then Other
    else User (record { addresses = addresses; source_port = number_if w16 0 b; target_port = number_if w16 2 b; size = Some (len - 8); bytes = take (len - 8) (drop 8 b) })

-- The datagram of which b is there, with `size` bytes by the IP header.
unfoldable pub datagram_of : Addresses → ℕ → List ℕ → Contents
datagram_of addresses size b = if nat_lt size 8 then Other else measured addresses size b (number_if w16 4 b)

-- all bytes of the data are there
abbrev pub is_whole : PlainDatagram → Bool
is_whole d = option_map_or (λ n. n == length d.bytes) d.size false
