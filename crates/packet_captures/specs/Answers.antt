-- What the functions of the reader answer, against what the definitions give.
use Rattle.std.specs.Prelude.{◌≡◌, ℕ, List, Option, Some, None, IsSomeAnd, Result, Ok, Err}
use Rattle.std.specs.Option.{option_map}
use Rattle.packet_captures.specs.declared.block.PacketPart.{PacketPart}
use Rattle.packet_captures.specs.declared.capture_fault.CaptureFault.{CaptureFault}
use Rattle.packet_captures.specs.declared.capture_fault.FormatFault.{FormatFault}
use Rattle.packet_captures.specs.declared.packet.PacketHead.{PacketHead}
use Rattle.packet_captures.specs.Block.{packet_in}
use Rattle.packet_captures.specs.Capture.{Found, Stop}
use Rattle.packet_captures.specs.Faults.{format_of}
use Rattle.packet_captures.specs.Packet.{Packet}
use Rattle.packet_captures.specs.State.{State}
use Rattle.packet_captures.specs.Window.{Ahead, Passes, bytes_ahead}

-- A failed read or want of memory may end any reading; any other fault is the one that the definition gives.
abbrev pub Fails : {Y : Type 0} → Option FormatFault → Result Y FormatFault → Type 0
Fails (Some fault) given = given ≡ Err fault
Fails None given = Unit {0}

-- the value, or the fault, that the definition gives
abbrev pub Gives : {X : Type 0} → Result X CaptureFault → Result X FormatFault → Type 0
Gives (Ok x) given = given ≡ Ok x
Gives (Err e) given = Fails (format_of e) given

-- the state that the definition gives
abbrev pub Changes : Result (Unit {0}) CaptureFault → State → Result State FormatFault → Type 0
Changes (Ok u) new given = given ≡ Ok new
Changes (Err e) new given = Fails (format_of e) given

-- the packet of a block, and the state behind it, that the definition gives
abbrev pub GivesContent : Result (Option PacketPart) CaptureFault → State → (block : List ℕ) → Result (Option Packet × State) FormatFault → Type 0
GivesContent (Ok part) new block given = given ≡ Ok (option_map (packet_in block) part, new)
GivesContent (Err e) new block given = Fails (format_of e) given

-- a packet with this head, whose bytes are kept, that the definition reads in the first n bytes, which were passed
abbrev pub Reads : Result PacketHead CaptureFault → (old new : Ahead) → Result (ℕ × Packet) FormatFault → Type 0
Reads (Ok head) old new given = (n : ℕ) × Passes n old new × (given ≡ Ok (n, record { head = head; bytes = new.kept }))
Reads (Err e) old new given = Fails (format_of e) given

-- a packet with this head, whose bytes are kept, or none
abbrev pub kept_packet : Option PacketHead → Ahead → Option Packet
kept_packet head new = option_map (λ h. record { head = h; bytes = new.kept }) head

-- the same, where the bytes of the packet stay readable
abbrev pub GivesKept : Result (Option PacketHead) CaptureFault → Ahead → State → Result (Option Packet × State) FormatFault → Type 0
GivesKept (Ok head) ahead new given = given ≡ Ok (kept_packet head ahead, new)
GivesKept (Err e) ahead new given = Fails (format_of e) given

-- what the definition finds, and the bytes ahead are those behind it
abbrev pub Finds : Result (Option PacketHead) CaptureFault → Ahead → State → Result Found FormatFault → Type 0
Finds (Ok head) ahead new given = IsSomeAnd (bytes_ahead ahead) (λ rest.
    given ≡ Ok (record { packet = kept_packet head ahead; state = new; at = ahead.at; rest = rest }))
Finds (Err e) ahead new given = Fails (format_of e) given

-- A failed read or want of memory may come in place of a packet; any other fault is the one that the definition gives, and
-- so is the state before it.
abbrev pub Stops : Option FormatFault → State → Result Found Stop → Type 0
Stops (Some fault) new given = given ≡ Err (record { fault = fault; state = new })
Stops None new given = Unit {0}

-- what the definition finds next, and the bytes ahead are those behind it
abbrev pub FindsNext : Result (Option PacketHead) CaptureFault → Ahead → State → Result Found Stop → Type 0
FindsNext (Ok head) ahead new given = IsSomeAnd (bytes_ahead ahead) (λ rest.
    given ≡ Ok (record { packet = kept_packet head ahead; state = new; at = ahead.at; rest = rest }))
FindsNext (Err e) ahead new given = Stops (format_of e) new given
