-- Linux cooked captures (tcpdump.org, LINKTYPE_LINUX_SLL and LINKTYPE_LINUX_SLL2). All numbers are big-endian.
use Rattle.std.specs.Prelude.{ℕ, Bool, ◌==◌, ◌||◌, nat_lt, false, List, [], length, drop, if◌then◌else◌}
use Rattle.std.specs.Int.{w8, w16}
use Rattle.packet_captures.specs.NetworkOrder.{number_at}
use Rattle.packet_captures.specs.Carried.{Contents, ended}
use Rattle.packet_captures.specs.Ethernet.{typed}

-- packet types of what is for all: broadcast by somebody else, multicast by somebody else
abbrev pub is_group : ℕ → Bool
is_group kind = (kind == 1) || (kind == 2)

-- Bytes 0 and 1: packet type; 2 and 3: ARPHRD_ type; 4 to 13: size and bytes of the sender's address; 14 and 15:
-- protocol, an EtherType.
abbrev pub cooked : Bool → List ℕ → Contents
cooked cut b =
    if nat_lt (length b) 16 then ended cut
    else typed (is_group (number_at w16 0 b)) cut (number_at w16 14 b) (drop 16 b)

-- Bytes 0 and 1: protocol, an EtherType; 2 and 3: not used; 4 to 7: index of the interface; 8 and 9: ARPHRD_ type; 10:
-- packet type; 11 to 19: size and bytes of the sender's address. Of a header that ends behind its protocol, this one
-- still says whether IP may follow.
abbrev pub cooked_2 : Bool → List ℕ → Contents
cooked_2 cut b =
    if nat_lt (length b) 2 then ended cut
    else if nat_lt (length b) 20 then typed false cut (number_at w16 0 b) []
    else typed (is_group (number_at w8 10 b)) cut (number_at w16 0 b) (drop 20 b)
