-- Description of a link's last failed call (profile).
use Rattle.std.specs.Prelude.{ℕ, List, [], codes, slice_index, Option, Some, None}
use Rattle.std.specs.declared.net.socket_addr.SocketAddrV4.{SocketAddrV4}
use Rattle.std.specs.Net.Addr.{ipv4_octets}
use Rattle.std.specs.Net.Socket.{v4_ip, v4_port}
use Rattle.byte_files.specs.Pieces.{five, endpoint_text}
use Rattle.byte_files.specs.System.{system_words}
use Rattle.siman_lines.specs.declared.trouble.LineCall.{LineCall}
use Rattle.siman_lines.specs.declared.trouble.LineCall.TheVariants as calls
use Rattle.siman_lines.specs.declared.trouble.LineTrouble.{LineTrouble}

-- an IP version 4 address and a port
abbrev pub address_text : SocketAddrV4 → List ℕ
address_text a =
    let o = ipv4_octets (v4_ip a) in endpoint_text (slice_index o 0) (slice_index o 1) (slice_index o 2) (slice_index o 3) (v4_port a)

abbrev pub call_words : LineCall → List ℕ
call_words calls.Send = codes "sending"
call_words calls.Receive = codes "receiving"

abbrev pub way_words : LineCall → List ℕ
way_words calls.Send = codes " to "
way_words calls.Receive = codes " from "

-- the peer of a call, if it is known: the word before it, and its address
abbrev pub peer_words : LineCall → Option SocketAddrV4 → List ℕ
peer_words call None = []
peer_words call (Some peer) = way_words call

abbrev pub peer_text : Option SocketAddrV4 → List ℕ
peer_text None = []
peer_text (Some peer) = address_text peer

-- THE DESCRIPTION OF A FAILED CALL: which it was, its peer, and the system's reason
abbrev pub line_trouble_text : LineTrouble → List ℕ
line_trouble_text t = five (call_words t.call) (peer_words t.call t.peer) (peer_text t.peer) (codes ": ") (system_words t.kind)
