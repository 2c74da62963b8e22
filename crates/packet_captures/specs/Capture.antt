-- PACKET CAPTURES: the packets of a file of pcap or pcapng, and how it ends.
use Rattle.std.specs.Prelude.{ℕ, zero, suc, ◌+◌, Bool, true, false, ◌==◌, nat_lt, List, [], ◌∷◌, length, take, drop, is_none, Option, Some, None, Result, Ok, Err, if◌then◌else◌}
use Rattle.std.specs.Int.{w32}
use Rattle.std.specs.Option.{option_map_or}
use Rattle.byte_files.specs.Fields.{◌>>=◌}
use Rattle.packet_captures.specs.declared.byte_order.ByteOrder.{ByteOrder}
use Rattle.packet_captures.specs.declared.byte_order.ByteOrder.TheVariants.{Little}
use Rattle.packet_captures.specs.declared.capture_fault.FormatFault.{FormatFault}
use Rattle.packet_captures.specs.declared.capture_fault.FormatFault.TheVariants as faults
use Rattle.packet_captures.specs.declared.form.Form.{Form}
use Rattle.packet_captures.specs.declared.form.Form.TheVariants.{Start, Pcap, Section}
use Rattle.packet_captures.specs.declared.pcap.PcapHead.{PcapHead}
use Rattle.packet_captures.specs.Numbers.{number_at}
use Rattle.packet_captures.specs.Packet.{Packet}
use Rattle.packet_captures.specs.Pcap.{pcap_kind, pcap_at, record_at}
use Rattle.packet_captures.specs.Pcapng.{section_kind, section_at, known_in, sized_at, block_content}
use Rattle.packet_captures.specs.State.{State, start, section_state, pcap_state, lost_of}
use Rattle.packet_captures.specs.Whole.{whole_at}

-- what was found: a packet, if there is one, the state behind it, the bytes that follow, and their offset
pub record Found : Type 0 where
  pub packet : Option Packet
  pub state : State
  pub at : ℕ
  pub rest : List ℕ

-- found in the first n bytes of b, from an offset
abbrev pub found_in : (n at : ℕ) → List ℕ → Option Packet → State → Found
found_in n at b packet s = record { packet = packet; state = s; at = at + n; rest = drop n b }

-- the head of a file of pcap
unfoldable pub pcap_found : (ByteOrder × Bool) → State → (at : ℕ) → List ℕ → Result Found FormatFault
pcap_found kind s at b = pcap_at kind at b >>= λ p. Ok (found_in 24 at b None (pcap_state p s))

-- a record of pcap, whose packet is wanted if no interface is asked for by its name
unfoldable pub record_found : PcapHead → (name : Option (List ℕ)) → State → (at : ℕ) → List ℕ → Result Found FormatFault
record_found p name s at b = record_at p (is_none name) at b >>= λ r. Ok (found_in r.0 at b (Some r.1) s)

-- a section header of pcapng
unfoldable pub section_found : (head : Bool) → State → (at : ℕ) → List ℕ → Result Found FormatFault
section_found head s at b = section_at head at b >>= λ r. Ok (found_in r.0 at b None (section_state r.1 s))

-- another block of pcapng
unfoldable pub other_found : ByteOrder → (name : Option (List ℕ)) → State → (at : ℕ) → List ℕ → Result Found FormatFault
other_found order name s at b = known_in order at (take 8 b) >>= λ known. sized_at order false at b >>= λ n.
    block_content order name s (number_at order w32 0 (take 8 b)) at (take n b) >>= λ content. Ok (found_in n at b content.0 content.1)

-- a block of pcapng
unfoldable pub block_found : ByteOrder → (name : Option (List ℕ)) → State → (at : ℕ) → List ℕ → Result Found FormatFault
block_found order name s at b = whole_at 8 false at b >>= λ whole.
    if number_at order w32 0 (take 8 b) == section_kind then section_found false s at b else other_found order name s at b

-- the head of a file: of pcap, or a section header
abbrev pub head_found : (magic : ℕ) → State → (at : ℕ) → List ℕ → Result Found FormatFault
head_found magic s at b =
    if magic == section_kind then section_found true s at b
    else option_map_or (λ kind. pcap_found kind s at b) (pcap_kind magic) (Err (faults.Magic at))

-- the beginning of a file
unfoldable pub start_found : State → (at : ℕ) → List ℕ → Result Found FormatFault
start_found s at b =
    if nat_lt (length b) 4 then Err (faults.Magic at) else head_found (number_at Little w32 0 (take 4 b)) s at b

-- what stands at the front of b, by the form of the bytes there
unfoldable pub front_found : Form → (name : Option (List ℕ)) → State → (at : ℕ) → List ℕ → Result Found FormatFault
front_found Start name s at b = start_found s at b
front_found (Pcap p) name s at b = record_found p name s at b
front_found (Section order) name s at b = block_found order name s at b

-- the capture is whole here: it has begun, and no byte follows
abbrev pub is_whole : Form → List ℕ → Bool
is_whole Start b = false
is_whole (Pcap p) b = length b == 0
is_whole (Section order) b = length b == 0

-- the first fault, and the state before it
pub record Stop : Type 0 where
  pub fault : FormatFault
  pub state : State

-- what is found in this state, or the fault
abbrev pub stopped : State → Result Found FormatFault → Result Found Stop
stopped s (Ok f) = Ok f
stopped s (Err fault) = Err (record { fault = fault; state = s })

-- the next packet within the next `left` records and blocks
abbrev pub next_within : (left : ℕ) → (name : Option (List ℕ)) → State → (at : ℕ) → List ℕ → Result Found Stop
next_within zero name s at b = Ok (found_in 0 at b None s)
next_within (suc left) name s at b =
    if is_whole s.form b then Ok (found_in 0 at b None s)
    else (stopped s (front_found s.form name s at b) >>= λ f. option_map_or (λ p. Ok f) f.packet (next_within left name f.state f.at f.rest))

-- THE NEXT PACKET, or none if the capture ends whole, or the first fault. (Each record and block has at least a byte, so
-- that there are no more than bytes.)
abbrev pub next_found : (name : Option (List ℕ)) → State → (at : ℕ) → List ℕ → Result Found Stop
next_found name s at b = next_within (length b + 1) name s at b

-- a capture: its packets, up to its end or its first fault; the number of packets that the capturing system lost, as far
-- as its blocks up to there say; and that fault, if there is one
pub record PlainCapture : Type 0 where
  pub packets : List Packet
  pub lost : ℕ
  pub fault : Option FormatFault

-- a packet, and what follows it
abbrev pub preceded : Packet → PlainCapture → PlainCapture
preceded p c = record { packets = p ∷ c.packets; lost = c.lost; fault = c.fault }

-- no packet follows
abbrev pub ended : State → Option FormatFault → PlainCapture
ended s fault = record { packets = []; lost = lost_of s; fault = fault }

-- what follows where this was found next, if `behind` follows behind it
abbrev pub capture_with : Result Found Stop → (behind : Found → PlainCapture) → PlainCapture
capture_with (Err stop) behind = ended stop.state (Some stop.fault)
capture_with (Ok f) behind = option_map_or (λ p. preceded p (behind f)) f.packet (ended f.state None)

-- at most `left` packets that follow, and how the capture ends
abbrev pub capture_within : (left : ℕ) → (name : Option (List ℕ)) → State → (at : ℕ) → List ℕ → PlainCapture
capture_within zero name s at b = ended s None
capture_within (suc left) name s at b = capture_with (next_found name s at b) (λ f. capture_within left name f.state f.at f.rest)

-- what follows in a capture. (Each packet has at least a byte, so that there are no more than bytes.)
abbrev pub capture_from : (name : Option (List ℕ)) → State → (at : ℕ) → List ℕ → PlainCapture
capture_from name s at b = capture_within (length b + 1) name s at b

-- THE CAPTURE that is in a file
abbrev pub capture_of : (name : Option (List ℕ)) → (file : List ℕ) → PlainCapture
capture_of name file = capture_from name start 0 file
