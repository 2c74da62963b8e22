-- Addresses of hosts.
use Rattle.std.specs.Prelude.{Bool, ◌/◌, ◌%◌, ◌==◌, ◌&&◌, ◌||◌, if◌then◌else◌}
use Rattle.packet_captures.specs.declared.host.Host.{Host}
use Rattle.packet_captures.specs.declared.host.Host.TheVariants.{V4, V6}

-- What is sent to this address is for all: IPv4 multicast, 224.0.0.0/4 (RFC 5771), limited broadcast,
-- 255.255.255.255 (RFC 919), IPv6 multicast, ff00::/8 (RFC 4291, 2.7).
abbrev pub is_for_all : Host → Bool
is_for_all (V4 number) = (number / 0x1000_0000 == 14) || (number == 0xFFFF_FFFF)
is_for_all (V6 upper lower) = upper / 0x100_0000_0000_0000 == 255

-- an IPv4-mapped IPv6 address, ::ffff:0:0/96 (RFC 4291, 2.5.5.2), is its IPv4 one
abbrev pub unmapped : Host → Host
unmapped (V4 number) = V4 number
unmapped (V6 upper lower) = if (upper == 0) && (lower / 0x1_0000_0000 == 0xFFFF) then V4 (lower % 0x1_0000_0000) else V6 upper lower
