-- IPv6 packets (RFC 8200, 3 and 4). Byte 0: version in the upper half; bytes 4 and 5: payload length, of all that
-- stands behind the header; 6: next header; 8 to 23: source; 24 to 39: target.
use Rattle.std.specs.Prelude.{ℕ, zero, suc, ◌+◌, ◌-◌, ◌*◌, ◌/◌, ◌%◌, Bool, not, ◌==◌, ◌&&◌, ◌||◌, nat_lt, nat_le, List, length, take, drop, Some, if◌then◌else◌}
use Rattle.std.specs.Int.{w8, w16, w32, w64}
use Rattle.packet_captures.specs.declared.carried.Addresses.{Addresses}
use Rattle.packet_captures.specs.declared.host.Host.{Host}
use Rattle.packet_captures.specs.declared.host.Host.TheVariants.{V6}
use Rattle.packet_captures.specs.NetworkOrder.{number_at}
use Rattle.packet_captures.specs.Carried.{Contents, Other, Unsettled, Part, ended}
use Rattle.packet_captures.specs.UserDatagram.{datagram_of}

-- hop-by-hop options, routing header, destination options (RFC 8200, 4.3, 4.4, 4.6)
abbrev pub is_extension_6 : ℕ → Bool
is_extension_6 next = (next == 0) || ((next == 43) || (next == 60))

-- what has this next-header number is read: UDP, a fragment header (4.5), or one of those
abbrev pub is_read_6 : ℕ → Bool
is_read_6 next = (next == 17) || ((next == 44) || is_extension_6 next)

-- the address in the 16 bytes at an offset
abbrev pub host_at : ℕ → List ℕ → Host
host_at at b = V6 (number_at w64 at b) (number_at w64 (at + 8) b)

-- A field that is there says that this is no IPv6 packet that is read: the version is not 6; the packet is longer
-- than its frame, which was not cut; the next header is not read.
unfoldable pub contradicts_6 : Bool → List ℕ → Bool
contradicts_6 cut b =
    (nat_le 1 (length b) && not (number_at w8 0 b / 16 == 6))
    || (nat_le 6 (length b) && (not cut && nat_lt (length b) (40 + number_at w16 4 b)))
    || (nat_le 7 (length b) && not (is_read_6 (number_at w8 6 b)))

-- What a fragment header and the bytes behind it are, `size` bytes in all, of which b is there. Byte 0: next header,
-- which has to be UDP's; bytes 2 and 3: fragment offset in units of eight bytes, two bits that are not used, more
-- fragments; 4 to 7: identification (RFC 8200, 4.5).
unfoldable pub fragment_6 : Addresses → ℕ → List ℕ → Contents
fragment_6 addresses size b =
    if nat_lt size 8 || (nat_le 1 (length b) && not (number_at w8 0 b == 17)) then Other
    else (if nat_lt (length b) 8 then Unsettled (Some addresses)
    else Part (record {
      addresses = addresses;
      identification = number_at w32 4 b;
      offset = number_at w16 2 b / 8 * 8;
      more = number_at w16 2 b % 2 == 1;
      size = size - 8;
      bytes = drop 8 b;
    }))

-- size in bytes of the extension header at the front of b. Its byte 1 is its length in units of eight bytes without
-- the first (RFC 8200, 4.3).
abbrev pub extension_size : List ℕ → ℕ
extension_size b = 8 + 8 * number_at w8 1 b

-- No extension header that is passed over stands at the front of b: this number is not that of one; it has no room in
-- `size` bytes; its next-header number, if that is there, is not read.
unfoldable pub is_no_extension : ℕ → ℕ → List ℕ → Bool
is_no_extension next size b =
    not (is_extension_6 next) || (nat_lt size 8 || (nat_le 1 (length b) && not (is_read_6 (number_at w8 0 b))))

-- What stands behind a header whose next-header number is `next`, in `size` bytes of which b is there. Each
-- extension header takes eight bytes at least and is passed over, whatever their order, so not more than `most` can
-- follow one another where `most` is `size`; its byte 0 is the next-header number behind it.
unfoldable pub behind_6 : ℕ → Addresses → ℕ → ℕ → List ℕ → Contents
behind_6 zero addresses next size b = Other
behind_6 (suc most) addresses next size b =
    if next == 17 then datagram_of addresses size b
    else (if next == 44 then fragment_6 addresses size b
    else (if is_no_extension next size b then Other
    else (if nat_lt (length b) 2 then Unsettled (Some addresses)
    else (if nat_lt size (extension_size b) then Other
    else behind_6 most addresses (number_at w8 0 b) (size - extension_size b) (drop (extension_size b) b)))))

-- what a packet carries of which b is there, perhaps with bytes of the frame behind it
unfoldable pub internet_6 : Bool → Bool → List ℕ → Contents
internet_6 to_group cut b =
    if contradicts_6 cut b then Other
    else (if nat_lt (length b) 40 then ended cut
    else behind_6 (number_at w16 4 b)
    (record { source = host_at 8 b; target = host_at 24 b; to_group = to_group })
    (number_at w8 6 b) (number_at w16 4 b)
    (take (number_at w16 4 b) (drop 40 b)))
