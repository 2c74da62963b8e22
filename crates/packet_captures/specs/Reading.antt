-- A capture that is being read.
use Rattle.std.specs.Prelude.{◌≡◌, ℕ, List, [], Option, Some, None, IfSome, IsSomeAnd, Result, Ok, Err}
use Rattle.std.specs.Option.{option_map}
use Rattle.packet_captures.specs.declared.capture_fault.CaptureFault.{CaptureFault}
use Rattle.packet_captures.specs.declared.packet.PacketHead.{PacketHead}
use Rattle.packet_captures.specs.Capture.{PlainCapture, capture_from, ended, preceded}
use Rattle.packet_captures.specs.Faults.{format_of}
use Rattle.packet_captures.specs.Packet.{Packet}
use Rattle.packet_captures.specs.State.{State, start}
use Rattle.packet_captures.specs.Window.{Ahead, bytes_ahead}

-- the bytes ahead, the state before them, and the wanted name
pub record Reading : Type 0 where
  pub ahead : Ahead
  pub state : State
  pub name : Option (List ℕ)

-- all of a file is still to be read
abbrev pub reading_of : (file name : Option (List ℕ)) → Reading
reading_of file name = record { ahead = record { at = 0; held = []; rest = file; kept = [] }; state = start; name = name }

-- WHAT FOLLOWS IN THE CAPTURE, if its bytes are known
abbrev pub capture_ahead : Reading → Option PlainCapture
capture_ahead r = option_map (λ b. capture_from r.name r.state r.ahead.at b) (bytes_ahead r.ahead)

-- the last packet, of this head
abbrev pub last_packet : PacketHead → Reading → Packet
last_packet head r = record { head = head; bytes = r.ahead.kept }

-- The result of reading on: the next packet; or at the end, or at the first fault, no packet and the number of packets
-- lost so far. A failed read or want of memory may come instead.
abbrev pub ReadsNext : Result (Option PacketHead) CaptureFault → Reading → PlainCapture → Type 0
ReadsNext (Ok (Some head)) new capture = IsSomeAnd (capture_ahead new) (λ rest. capture ≡ preceded (last_packet head new) rest)
ReadsNext (Ok None) new capture = capture ≡ ended new.state None
ReadsNext (Err e) new capture = IfSome (format_of e) (λ fault. capture ≡ ended new.state (Some fault))
