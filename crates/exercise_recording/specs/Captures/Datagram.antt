-- A datagram in UDP in IPv4, from the address of one simulation application to that of another (RFC 791, 3.1; RFC 768;
-- profile).
use Rattle.std.specs.Prelude.{ℕ, ◌+◌, List, [], ◌∷◌, ◌++◌, length, sum, nat_lt, if◌then◌else◌}
use Rattle.std.specs.Int.{w16, to_be_bytes}
use Rattle.std.specs.List.{flat_map}
use Rattle.dis_records.specs.declared.address.SiteApplication.{SiteApplication}
use Rattle.packet_captures.specs.NetworkOrder.{number_at}
use Rattle.exercise_recording.specs.Captures.Checksum.{checksum_of}

-- words of 16 bits, in network byte order
abbrev pub words_text : List ℕ → List ℕ
words_text words = flat_map (to_be_bytes w16) words

-- The words of an IPv4 header with this checksum: version 4, 20 bytes, type of service 0; the total length; identification
-- 0; no flags, fragment offset 0; time to live 64, protocol 17 (UDP); the checksum; source and target. An address S:A is the
-- IPv4 address whose upper 16 bits are S and whose lower 16 are A.
abbrev pub header_words : (total checksum : ℕ) → (source target : SiteApplication) → List ℕ
header_words total checksum source target =
    0x4500 ∷ total ∷ 0 ∷ 0 ∷ 0x4011 ∷ checksum ∷ source.site ∷ source.application ∷ target.site ∷ target.application ∷ []

-- the IPv4 header, with the checksum of its words
abbrev pub internet_header : (total : ℕ) → (source target : SiteApplication) → List ℕ
internet_header total source target = words_text (header_words total (checksum_of (sum (header_words total 0 source target))) source target)

-- the UDP header: from port 3000 to port 3000, the length of header and data, no checksum
abbrev pub user_header : (size : ℕ) → List ℕ
user_header size = words_text (3000 ∷ 3000 ∷ (8 + size) ∷ 0 ∷ [])

-- both headers of a datagram of this size
abbrev pub datagram_headers : (size : ℕ) → (source target : SiteApplication) → List ℕ
datagram_headers size source target = internet_header (28 + size) source target ++ user_header size

-- A DATAGRAM IN UDP IN IPv4
abbrev pub internet_text : (source target : SiteApplication) → (bytes : List ℕ) → List ℕ
internet_text source target bytes = datagram_headers (length bytes) source target ++ bytes

-- ---- addresses in a datagram

-- nobody, and everybody
abbrev pub nobody : SiteApplication
nobody = record { site = 0; application = 0 }

abbrev pub everybody : SiteApplication
everybody = record { site = 0xFFFF; application = 0xFFFF }

-- site and application at an offset, of a datagram that has the first 24 bytes of a PDU of this family; else another one
abbrev pub address_in : (at : ℕ) → (otherwise : SiteApplication) → List ℕ → SiteApplication
address_in at otherwise b =
    if nat_lt (length b) 24 then otherwise else record { site = number_at w16 at b; application = number_at w16 (at + 2) b }

-- the originating and the receiving address (IEEE 1278.1-2012, 7.5.1: bytes 12 to 15, and 18 to 21)
abbrev pub source_of : List ℕ → SiteApplication
source_of b = address_in 12 nobody b

abbrev pub target_of : List ℕ → SiteApplication
target_of b = address_in 18 everybody b
