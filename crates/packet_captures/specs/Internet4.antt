-- IPv4 packets (RFC 791, 3.1). Byte 0: version, header length in words of four bytes; bytes 2 and 3: total length;
-- 4 and 5: identification; 6 and 7: a bit that is not used, don't fragment, more fragments, fragment offset in units
-- of eight bytes; 9: protocol; 12 to 15: source; 16 to 19: target. Options stand between byte 20 and the header's end.
use Rattle.std.specs.Prelude.{ℕ, ◌-◌, ◌*◌, ◌/◌, ◌%◌, Bool, not, ◌==◌, ◌&&◌, ◌||◌, nat_lt, nat_le, List, length, take, drop, if◌then◌else◌}
use Rattle.std.specs.Int.{w8, w16, w32}
use Rattle.packet_captures.specs.declared.carried.Addresses.{Addresses}
use Rattle.packet_captures.specs.declared.host.Host.TheVariants.{V4}
use Rattle.packet_captures.specs.NetworkOrder.{number_at}
use Rattle.packet_captures.specs.Carried.{Contents, Other, Part, ended}
use Rattle.packet_captures.specs.UserDatagram.{datagram_of}

-- size of the header in bytes
abbrev pub header_size_4 : List ℕ → ℕ
header_size_4 b = (number_at w8 0 b % 16) * 4

-- A field that is there says that this is no IPv4 packet with UDP: the version is not 4, the header has less than 20
-- bytes; the packet is shorter than its header, or longer than its frame, which was not cut; the protocol is not 17.
unfoldable pub contradicts_4 : Bool → List ℕ → Bool
contradicts_4 cut b =
    (nat_le 1 (length b) && (not (number_at w8 0 b / 16 == 4) || nat_lt (header_size_4 b) 20))
    || (nat_le 4 (length b) && (nat_lt (number_at w16 2 b) (header_size_4 b) || (not cut && nat_lt (length b) (number_at w16 2 b))))
    || (nat_le 10 (length b) && not (number_at w8 9 b == 17))

-- What stands behind the header: a fragment where more fragments follow or the offset is not 0, else a datagram.
unfoldable pub carried_4 : Addresses → ℕ → ℕ → ℕ → List ℕ → Contents
carried_4 addresses identification place size b =
    if (place % 0x2000 * 8 == 0) && not (place / 0x2000 % 2 == 1) then datagram_of addresses size b
    else Part (record {
      addresses = addresses;
      identification = identification;
      offset = place % 0x2000 * 8;
      more = place / 0x2000 % 2 == 1;
      size = size;
      bytes = b;
    })

-- what a packet carries of which b is there, perhaps with bytes of the frame behind it
unfoldable pub internet_4 : Bool → Bool → List ℕ → Contents
internet_4 to_group cut b =
    if contradicts_4 cut b then Other
    else (if nat_lt (length b) 20 then ended cut
    else carried_4
    (record { source = V4 (number_at w32 12 b); target = V4 (number_at w32 16 b); to_group = to_group })
    (number_at w16 4 b) (number_at w16 6 b)
    (number_at w16 2 b - header_size_4 b)
    (take (number_at w16 2 b - header_size_4 b) (drop (header_size_4 b) b)))
