-- A link over a socket: to whom it hands what, and what it passes over (profile).
use Rattle.std.specs.Prelude.{◌≡◌, ℕ, Bool, true, false, not, ◌&&◌, ◌||◌, ◌==◌, nat_lt, ◌+◌, ◌-◌, ◌^◌, ◌≤◌, ◌<◌, min, List, [], ◌∷◌, ◌++◌, length, take, map, slice_index, Option, Some, None, is_none, Result, Ok, Err, ◌⊎◌, if◌then◌else◌}
use Rattle.std.specs.Option.{option_or, option_map_or}
use Rattle.std.specs.Cmp.Lexicographic.{pointwise}
use Rattle.std.specs.List.{AllByRecursion, filter, list_any, flat_map, filter_map}
use Rattle.std.specs.declared.io.ErrorKind.{ErrorKind}
use Rattle.std.specs.declared.net.socket_addr.SocketAddrV4.{SocketAddrV4}
use Rattle.std.specs.declared.net.socket_addr.SocketAddrV6.{SocketAddrV6}
use Rattle.std.specs.declared.net.socket_addr.SocketAddr.{SocketAddr}
use Rattle.std.specs.declared.net.socket_addr.SocketAddr.TheVariants.{V4, V6}
use Rattle.std.specs.Net.Addr.{ipv4_octets, ipv6_segments}
use Rattle.std.specs.Net.Socket.{v4_ip, v4_port, v6_ip, v6_port, v6_flowinfo, v6_scope_id}
use Rattle.siman_lines.specs.LineDatagrams.{Datagrams}
use Rattle.siman_lines.specs.Socket.{Addressed, Failure, grown, Fails, Telling}
use Rattle.siman_lines.specs.declared.line.LineFault.{LineFault}
use Rattle.siman_lines.specs.declared.line.PassedOver.{PassedOver}
use Rattle.siman_lines.specs.declared.socket.Hearing.{Hearing}
use Rattle.siman_lines.specs.declared.trouble.LineCall.TheVariants as calls
use Rattle.siman_lines.specs.declared.trouble.LineTrouble.{LineTrouble}
use Rattle.siman_lines.specs.declared.udp.UdpLine.{UdpLine}

-- the IPv4 address, if it is one
abbrev pub v4_of : SocketAddr → Option SocketAddrV4
v4_of (V4 a) = Some a
v4_of (V6 a) = None

-- Sends.

-- one send of a datagram: to which peer, the system's reason if it failed, and whether a failed one was handed over
-- nevertheless
pub record Attempt : Type 0 where
  pub peer : SocketAddr
  pub fault : Option ErrorKind
  pub nevertheless : Bool

-- what it handed over
abbrev pub handed_by : List ℕ → Attempt → List Addressed
handed_by d a = if is_none a.fault || a.nevertheless then record { address = a.peer; bytes = d } ∷ [] else []

-- how it failed, if it did
abbrev pub failure_of : Attempt → Option Failure
failure_of a = elim a.fault [ None ↦ None | Some kind ↦ Some (record { peer = Some a.peer; kind = kind }) ]

-- the trouble that it leaves, if it failed
abbrev pub trouble_of : Attempt → Option LineTrouble
trouble_of a = elim a.fault [ None ↦ None | Some kind ↦ Some (record { call = calls.Send; peer = v4_of a.peer; kind = kind }) ]

-- the trouble of the first that failed, if one did
abbrev pub first_trouble : List Attempt → Option LineTrouble
first_trouble [] = None
first_trouble (a ∷ rest) = option_or (trouble_of a) (first_trouble rest)

-- A DATAGRAM IS SENT TO EACH OF THESE PEERS once, in their order, also behind one whose send failed
pub record SendsToAll {S : Type 0} (told : Telling S) (d : List ℕ) (peers : List SocketAddr) (old new : S) (first : Option LineTrouble) : Type 0 where
  pub attempts : List Attempt
  pub peers_are : map (λ a. a.peer) attempts ≡ peers
  pub handed : told.handed new ≡ grown (told.handed old) (flat_map (handed_by d) attempts)
  pub failed : told.failed new ≡ grown (told.failed old) (filter_map failure_of attempts)
  pub came : told.came new ≡ told.came old
  pub first_is : first ≡ first_trouble attempts

-- a send is whole if none failed; else the trouble of the first that failed is kept
abbrev pub EndsSend : (first before after : Option LineTrouble) → Result (Unit {0}) LineFault → Type 0
EndsSend first before after (Ok done) = (first ≡ None) × (after ≡ before)
EndsSend first before after (Err fault) = (t : LineTrouble) × (first ≡ Some t) × (after ≡ Some t)

-- THE EFFECT OF A SEND: the datagram is sent to each peer, and nothing is passed over
pub record Sends {S : Type 0} (told : Telling S) (d : List ℕ) (old new : UdpLine S) (result : Result (Unit {0}) LineFault) : Type 0 where
  pub first : Option LineTrouble
  pub all : SendsToAll told d old.peers.items old.socket new.socket first
  pub ends : EndsSend first old.trouble new.trouble result
  pub peers : new.peers ≡ old.peers
  pub hearing : new.hearing ≡ old.hearing
  pub passed : new.passed ≡ old.passed

-- Receives.

-- the IPv4 addresses and the ports are equal
abbrev pub same_v4 : SocketAddrV4 → SocketAddrV4 → Bool
same_v4 a b = pointwise ◌==◌ (ipv4_octets (v4_ip a)) (ipv4_octets (v4_ip b)) && (v4_port a == v4_port b)

-- the IPv6 addresses, the ports, the flow labels and the scopes are equal
abbrev pub same_v6 : SocketAddrV6 → SocketAddrV6 → Bool
same_v6 a b =
    pointwise ◌==◌ (ipv6_segments (v6_ip a)) (ipv6_segments (v6_ip b))
    && ((v6_port a == v6_port b) && ((v6_flowinfo a == v6_flowinfo b) && (v6_scope_id a == v6_scope_id b)))

-- the addresses are equal
abbrev pub same_address : SocketAddr → SocketAddr → Bool
same_address (V4 a) (V4 b) = same_v4 a b
same_address (V4 a) (V6 b) = false
same_address (V6 a) (V4 b) = false
same_address (V6 a) (V6 b) = same_v6 a b

-- a peer's address is this one
abbrev pub is_peer : List SocketAddr → SocketAddr → Bool
is_peer peers from = list_any (λ peer. same_address peer from) peers

-- the sender is a stranger: no peer, where not anyone is heard
abbrev pub is_stranger : List SocketAddr → Hearing → SocketAddr → Bool
is_stranger peers hearing from = not (hearing.anyone || is_peer peers from)

-- another protocol family than Simulation Management, 5, where not all are heard: the fourth byte is the family
-- (IEEE 1278.1-2012, 6.2.66, PDU Header record)
abbrev pub is_other : Hearing → List ℕ → Bool
is_other hearing d = not hearing.all && (nat_lt 3 (length d) && not (slice_index d 3 == 5))

-- A DATAGRAM IS PASSED OVER if its sender is a stranger, or its protocol family another
abbrev pub is_passed_over : List SocketAddr → Hearing → Addressed → Bool
is_passed_over peers hearing d = is_stranger peers hearing d.address || is_other hearing d.bytes

-- one more, up to the greatest number of 64 bits
abbrev pub counted : ℕ → ℕ
counted n = min (n + 1) (2 ^ 64 - 1)

-- the counts after a datagram: a stranger's counts as a stranger's, whatever its family; one that is not passed over
-- does not count
abbrev pub passed_on : List SocketAddr → Hearing → Addressed → PassedOver → PassedOver
passed_on peers hearing d before =
    if is_stranger peers hearing d.address then record { strangers = counted before.strangers; others = before.others } else (
    if is_other hearing d.bytes then record { strangers = before.strangers; others = counted before.others } else before)

-- the counts after datagrams, in their order
abbrev pub all_passed_on : List SocketAddr → Hearing → List Addressed → PassedOver → PassedOver
all_passed_on peers hearing [] before = before
all_passed_on peers hearing (d ∷ ds) before = all_passed_on peers hearing ds (passed_on peers hearing d before)

-- an address is among those that are kept
abbrev pub is_kept : SocketAddr → List (Option SocketAddr) → Bool
is_kept from strangers = list_any (λ s. option_map_or (λ a. same_address a from) s false) strangers

-- the strangers that came first, at most 64, with one that came
abbrev pub strangers_with : SocketAddr → List (Option SocketAddr) → List (Option SocketAddr)
strangers_with from strangers = if not (is_kept from strangers) && nat_lt (length strangers) 64 then strangers ++ Some from ∷ [] else strangers

-- the same after a datagram from this address
abbrev pub strangers_after : List SocketAddr → Hearing → SocketAddr → List (Option SocketAddr) → List (Option SocketAddr)
strangers_after peers hearing from strangers = if is_stranger peers hearing from then strangers_with from strangers else strangers

-- DATAGRAMS CAME, AND WERE PASSED OVER AND COUNTED; of the rest only the kept strangers may have changed
pub record PassesOver {S : Type 0} (told : Telling S) (ds : List Addressed) (old new : UdpLine S) : Type 0 where
  pub each : AllByRecursion (λ d. is_passed_over old.peers.items old.hearing d ≡ true) ds
  pub came : told.came new.socket ≡ grown (told.came old.socket) ds
  pub handed : told.handed new.socket ≡ told.handed old.socket
  pub failed : told.failed new.socket ≡ told.failed old.socket
  pub passed : new.passed ≡ all_passed_on old.peers.items old.hearing ds old.passed
  pub peers : new.peers ≡ old.peers
  pub hearing : new.hearing ≡ old.hearing
  pub failures : new.failures ≡ old.failures
  pub trouble : new.trouble ≡ old.trouble

-- what a link hears, passed over so far, and its peers are unchanged
pub record KeepsCounts {S : Type 0} (old new : UdpLine S) : Type 0 where
  pub passed : new.passed ≡ old.passed
  pub peers : new.peers ≡ old.peers
  pub hearing : new.hearing ≡ old.hearing

-- A DATAGRAM CAME THAT IS NOT PASSED OVER, and is returned: these bytes
pub record Returns {S : Type 0} (told : Telling S) (bytes : List ℕ) (old new : UdpLine S) : Type 0 where
  pub from : SocketAddr
  pub heard : is_passed_over old.peers.items old.hearing (record { address = from; bytes = bytes }) ≡ false
  pub came : told.came new.socket ≡ grown (told.came old.socket) (record { address = from; bytes = bytes } ∷ [])
  pub handed : told.handed new.socket ≡ told.handed old.socket
  pub failed : told.failed new.socket ≡ told.failed old.socket
  pub trouble : new.trouble ≡ old.trouble
  pub keeps : KeepsCounts old new

-- the socket found nothing
pub record FindsNone {S : Type 0} (told : Telling S) (finds : S → S → Type 0) (old new : UdpLine S) : Type 0 where
  pub nothing : finds old.socket new.socket
  pub came : told.came new.socket ≡ told.came old.socket
  pub handed : told.handed new.socket ≡ told.handed old.socket
  pub failed : told.failed new.socket ≡ told.failed old.socket
  pub trouble : new.trouble ≡ old.trouble
  pub keeps : KeepsCounts old new

-- the receive of the socket failed, and its trouble is kept
pub record LosesReceive {S : Type 0} (told : Telling S) (old new : UdpLine S) : Type 0 where
  pub kind : ErrorKind
  pub failed : Fails (told.failed old.socket) (told.failed new.socket) None kind
  pub came : told.came new.socket ≡ told.came old.socket
  pub handed : told.handed new.socket ≡ told.handed old.socket
  pub trouble : new.trouble ≡ Some (record { call = calls.Receive; peer = None; kind = kind })
  pub keeps : KeepsCounts old new

-- after it passed so many over, a receive returns the next datagram, which is at the front of the buffer; or it finds
-- nothing, as the socket does, or since it passed 64 over; or it fails, as the socket does
abbrev pub EndsReceive : {S : Type 0} → Telling S → (finds : S → S → Type 0) → ℕ → (buffer : List ℕ) → (old new : UdpLine S) → Result (Option ℕ) LineFault → Type 0
EndsReceive told finds over buffer old new (Ok (Some size)) = (over < 64) × (size ≤ length buffer) × Returns told (take size buffer) old new
EndsReceive told finds over buffer old new (Ok None) = ((over ≡ 64) × (new ≡ old)) ⊎ ((over < 64) × FindsNone told finds old new)
EndsReceive told finds over buffer old new (Err fault) = (over < 64) × LosesReceive told old new

-- THE EFFECT OF A RECEIVE: some datagrams came and were passed over, and then it ends
pub record Receives {S : Type 0} (told : Telling S) (finds : S → S → Type 0) (buffer : List ℕ) (old new : UdpLine S) (result : Result (Option ℕ) LineFault) : Type 0 where
  pub datagrams : List Addressed
  pub mid : UdpLine S
  pub over : PassesOver told datagrams old mid
  pub ends : EndsReceive told finds (length datagrams) buffer mid new result

-- what a link returned: the bytes of the datagrams that came and are not passed over
abbrev pub heard_of : List SocketAddr → Hearing → Option (List Addressed) → Option Datagrams
heard_of peers hearing None = None
heard_of peers hearing (Some ds) = Some (map (λ d. d.bytes) (filter (λ d. not (is_passed_over peers hearing d)) ds))
