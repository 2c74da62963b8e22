-- What a packet of a capture is to a station: an entry of its log, or what else (profile).
use Rattle.std.specs.Prelude.{ℕ, Bool, true, false, not, ◌==◌, ◌&&◌, ◌||◌, nat_le, nat_lt, List, slice_get, Option, if◌then◌else◌}
use Rattle.std.specs.Int.{w16}
use Rattle.std.specs.Option.{option_map_or}
use Rattle.dis_records.specs.declared.header.TheConstants.{LARGEST_DATAGRAM}
use Rattle.packet_captures.specs.declared.carried.Addresses.{Addresses}
use Rattle.packet_captures.specs.declared.packet.Direction.{Direction}
use Rattle.packet_captures.specs.declared.packet.Direction.TheVariants.{Unknown, Inbound, Outbound}
use Rattle.packet_captures.specs.Carried.{PlainDatagram}
use Rattle.packet_captures.specs.Host.{is_for_all}
use Rattle.packet_captures.specs.NetworkOrder.{number_if}
use Rattle.packet_captures.specs.Pending.{same_host}
use Rattle.packet_captures.specs.UserDatagram.{is_whole}
use Rattle.exercise_recording.specs.declared.captures.packet_kind.PacketKind.{PacketKind}
use Rattle.exercise_recording.specs.declared.captures.packet_kind.PacketKind.TheVariants as kinds
use Rattle.exercise_recording.specs.declared.captures.packet_rule.PacketRule.{PacketRule}

-- the number is there, and is another one than n
abbrev pub differs : (n : ℕ) → Option ℕ → Bool
differs n found = option_map_or (λ m. not (m == n)) found false

-- the number is there, and is n
abbrev pub is_number : (n : ℕ) → Option ℕ → Bool
is_number n found = option_map_or (λ m. m == n) found false

-- the number of bytes of a datagram is there, and is none that a PDU of an exercise can have: 4 to 8192
abbrev pub is_misfit : Option ℕ → Bool
is_misfit size = option_map_or (λ n. nat_lt n 4 || nat_lt LARGEST_DATAGRAM n) size false

-- The UDP datagram is none of Simulation Management at this port, as far as the bytes that are there say it: it goes to
-- another port, has a wrong size, or its fourth byte, the protocol family, is not 5 (IEEE 1278.1-2012, 6.2.66).
unfoldable pub is_foreign : PacketRule → PlainDatagram → Bool
is_foreign rule d = differs rule.port d.target_port || (is_misfit d.size || differs 5 (slice_get d.bytes 3))

-- its second byte is there, and is another exercise
abbrev pub is_elsewhere : PacketRule → PlainDatagram → Bool
is_elsewhere rule d = differs rule.exercise (slice_get d.bytes 1)

abbrev pub is_inbound : Direction → Bool
is_inbound Unknown = false
is_inbound Inbound = true
is_inbound Outbound = false

abbrev pub is_outbound : Direction → Bool
is_outbound Unknown = false
is_outbound Inbound = false
is_outbound Outbound = true

-- the host sent the packet: it comes from its address, unless the capture says that it came in
abbrev pub is_sent : PacketRule → Direction → Addresses → Bool
is_sent rule direction a = same_host a.source rule.host && not (is_inbound direction)

-- the packet is for all, by its target address or by the link
abbrev pub reaches_all : Addresses → Bool
reaches_all a = a.to_group || is_for_all a.target

-- the host received the packet: it goes to its address or is for all, unless the capture says that it went out
abbrev pub is_received : PacketRule → Direction → Addresses → Bool
is_received rule direction a = (same_host a.target rule.host || reaches_all a) && not (is_outbound direction)

-- the host neither sent nor received the packet
unfoldable pub is_passing : PacketRule → Direction → Addresses → Bool
is_passing rule direction a = not (is_sent rule direction a || is_received rule direction a)

-- the datagram has the station's address as its originating one (bytes 12 to 15: site, application)
unfoldable pub is_of_station : PacketRule → List ℕ → Bool
is_of_station rule b = is_number rule.address.site (number_if w16 12 b) && is_number rule.address.application (number_if w16 14 b)

-- what the host sent in the name of another station: the station heard it, or it is none of its own
abbrev pub other_kind : PacketRule → Addresses → PacketKind
other_kind rule a = if same_host a.target rule.host || (reaches_all a && rule.hears_itself) then kinds.Received else kinds.Shared

-- what the station sent: it hears it, too, or not
abbrev pub own_kind : PacketRule → Addresses → PacketKind
own_kind rule a = if reaches_all a && rule.hears_itself then kinds.SentAndHeard else kinds.Sent

-- a datagram that the host sent
unfoldable pub sent_kind : PacketRule → Addresses → List ℕ → PacketKind
sent_kind rule a b = if rule.is_shared && not (is_of_station rule b) then other_kind rule a else own_kind rule a

-- a datagram of the exercise that the host sent or received
abbrev pub entry_kind : PacketRule → Direction → PlainDatagram → PacketKind
entry_kind rule direction d = if is_sent rule direction d.addresses then sent_kind rule d.addresses d.bytes else kinds.Received

-- WHAT A UDP DATAGRAM IS. Of one that the capture cut, each question is asked of the bytes that are there.
unfoldable pub datagram_kind : PacketRule → Direction → PlainDatagram → PacketKind
datagram_kind rule direction d =
    if is_foreign rule d then kinds.Other
    else (if is_elsewhere rule d then kinds.Elsewhere
    else (if is_passing rule direction d.addresses then kinds.Passing
    else (if not (is_whole d) then kinds.Cut
    else entry_kind rule direction d)))

-- what a frame is that the capture cut before it says what it carries
abbrev pub unsettled_kind : PacketRule → Direction → Option Addresses → PacketKind
unsettled_kind rule direction addresses = if option_map_or (is_passing rule direction) addresses false then kinds.Passing else kinds.Cut

-- the length field of a PDU (bytes 8 and 9), at least the size of a header, ends before the datagram of this size
abbrev pub ends_before : Option ℕ → ℕ → Bool
ends_before size n = nat_le 12 n && option_map_or (nat_lt n) size false

-- A datagram to this port is longer than its PDU: there are several PDUs in one, of which siman reads none.
unfoldable pub is_bundled : PacketRule → PlainDatagram → Bool
is_bundled rule d = is_number rule.port d.target_port && option_map_or (ends_before d.size) (number_if w16 8 d.bytes) false

-- a packet of this kind has entries
abbrev pub has_entries : PacketKind → Bool
has_entries kinds.Other = false
has_entries kinds.Fragment = false
has_entries kinds.Elsewhere = false
has_entries kinds.Passing = false
has_entries kinds.Cut = false
has_entries kinds.Shared = false
has_entries kinds.Sent = true
has_entries kinds.SentAndHeard = true
has_entries kinds.Received = true
