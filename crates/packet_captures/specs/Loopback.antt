-- Links without addresses: loopback, and raw IP (tcpdump.org, LINKTYPE_NULL, LINKTYPE_LOOP, LINKTYPE_RAW).
use Rattle.std.specs.Prelude.{ℕ, ◌/◌, Bool, false, ◌==◌, ◌||◌, nat_lt, List, length, take, drop, if◌then◌else◌}
use Rattle.std.specs.Int.{w8, w32, from_le_bytes, from_be_bytes}
use Rattle.packet_captures.specs.NetworkOrder.{number_at}
use Rattle.packet_captures.specs.Carried.{Contents, Other, ended}
use Rattle.packet_captures.specs.Internet4.{internet_4}
use Rattle.packet_captures.specs.Internet6.{internet_6}

-- AF_INET is 2; AF_INET6 is 10 on Linux, 24 on NetBSD and OpenBSD, 28 on FreeBSD, 30 on macOS
abbrev pub of_family : Bool → ℕ → List ℕ → Contents
of_family cut family b =
    if family == 2 then internet_4 false cut b
    else (if (family == 10) || ((family == 24) || ((family == 28) || (family == 30))) then internet_6 false cut b
    else Other)

-- the address family in bytes 0 to 3
abbrev pub loopback_family : Bool → List ℕ → ℕ
loopback_family little b = if little then from_le_bytes w32 (take 4 b) else from_be_bytes w32 (take 4 b)

abbrev pub loopback : Bool → Bool → List ℕ → Contents
loopback little cut b =
    if nat_lt (length b) 4 then ended cut
    else of_family cut (loopback_family little b) (drop 4 b)

-- IPv4 or IPv6 by the version in the upper half of byte 0
abbrev pub raw : Bool → List ℕ → Contents
raw cut b =
    if nat_lt (length b) 1 then ended cut
    else (if number_at w8 0 b / 16 == 6 then internet_6 false cut b
    else internet_4 false cut b)
