-- Link types of captures (tcpdump.org, Link-layer header types).
use Rattle.std.specs.Prelude.{ℕ, Bool, ◌==◌, ◌||◌, Option, Some, None, if◌then◌else◌}
use Rattle.packet_captures.specs.declared.link.Link.{Link}
use Rattle.packet_captures.specs.declared.link.Link.TheVariants.{Ethernet, LoopbackLittle, LoopbackBig, Raw, Raw4, Raw6, Cooked, Cooked2}

-- the link type is read: NULL, ETHERNET, RAW, LOOP, LINUX_SLL, IPV4, IPV6, LINUX_SLL2
abbrev pub is_link : ℕ → Bool
is_link code =
    (code == 0) || ((code == 1) || ((code == 101) || ((code == 108) || ((code == 113) || ((code == 228) || ((code == 229) || (code == 276)))))))

-- the link of a link type, in a capture whose host has little-endian numbers or not
abbrev pub link_of : ℕ → Bool → Option Link
link_of code little =
    if code == 0 then Some (if little then LoopbackLittle else LoopbackBig)
    else (if code == 1 then Some Ethernet
    else (if code == 101 then Some Raw
    else (if code == 108 then Some LoopbackBig
    else (if code == 113 then Some Cooked
    else (if code == 228 then Some Raw4
    else (if code == 229 then Some Raw6
    else (if code == 276 then Some Cooked2
    else None)))))))
