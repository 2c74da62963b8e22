-- How files of pcap and blocks of pcapng are spelled (draft-ietf-opsawg-pcap, draft-ietf-opsawg-pcapng): the laws say that
-- what is spelled so is read so.
use Rattle.std.specs.Prelude.{ℕ, ◌+◌, ◌*◌, ◌/◌, ◌^◌, ◌<◌, ◌≤◌, Bool, true, List, [], ◌∷◌, ◌++◌, length, None, if◌then◌else◌}
use Rattle.std.specs.Int.{Width, w16, w32, to_be_bytes, to_le_bytes}
use Rattle.packet_captures.specs.declared.byte_order.ByteOrder.{ByteOrder}
use Rattle.packet_captures.specs.declared.byte_order.ByteOrder.TheVariants.{Little, Big}
use Rattle.packet_captures.specs.declared.limits.TheConstants.{LARGEST_BLOCK}
use Rattle.packet_captures.specs.declared.packet.Direction.TheVariants.{Unknown}
use Rattle.packet_captures.specs.declared.pcap.PcapHead.{PcapHead}
use Rattle.packet_captures.specs.Capture.{PlainCapture}
use Rattle.packet_captures.specs.Packet.{Packet}

-- a number of a width
abbrev pub number_text : ByteOrder → Width → ℕ → List ℕ
number_text Little w n = to_le_bytes w n
number_text Big w n = to_be_bytes w n

-- a record of pcap: seconds, fraction, length on the wire, and the bytes that are kept
pub record PlainRecord : Type 0 where
  pub seconds : ℕ
  pub fraction : ℕ
  pub original : ℕ
  pub bytes : List ℕ

-- its numbers have 32 bits, and it is held at once
pub record FitsRecord (r : PlainRecord) : Type 0 where
  pub seconds : r.seconds < 2 ^ 32
  pub fraction : r.fraction < 2 ^ 32
  pub original : r.original < 2 ^ 32
  pub kept : 16 + length r.bytes ≤ LARGEST_BLOCK

-- the head of a record
abbrev pub record_head_text : ByteOrder → PlainRecord → List ℕ
record_head_text order r = number_text order w32 r.seconds ++ (number_text order w32 r.fraction
    ++ (number_text order w32 (length r.bytes) ++ number_text order w32 r.original))

-- records, one after the other
abbrev pub records_text : ByteOrder → List PlainRecord → List ℕ
records_text order [] = []
records_text order (r ∷ rs) = record_head_text order r ++ (r.bytes ++ records_text order rs)

-- the magic of a head
abbrev pub magic_of : (nanoseconds : Bool) → ℕ
magic_of nanoseconds = if nanoseconds then 0xA1B23C4D else 0xA1B2C3D4

-- the head of a file: magic, version 2.4, two fields that are 0, the snapshot length, and the link type
abbrev pub pcap_head_text : PcapHead → (snapshot : ℕ) → List ℕ
pcap_head_text p snapshot = number_text p.order w32 (magic_of p.nanoseconds) ++ (number_text p.order w16 2 ++ (number_text p.order w16 4
    ++ (number_text p.order w32 0 ++ (number_text p.order w32 0 ++ (number_text p.order w32 snapshot ++ number_text p.order w32 p.link)))))

-- a file of pcap
abbrev pub pcap_text : PcapHead → (snapshot : ℕ) → List PlainRecord → List ℕ
pcap_text p snapshot rs = pcap_head_text p snapshot ++ records_text p.order rs

-- the packet of a record at an offset
abbrev pub packet_of : PcapHead → (at : ℕ) → PlainRecord → Packet
packet_of p at r = record {
  head = record {
    at = at;
    link = p.link;
    order = p.order;
    wanted = true;
    stamp = r.seconds * 1000000 + (if p.nanoseconds then r.fraction / 1000 else r.fraction);
    direction = Unknown;
    original = r.original;
  };
  bytes = r.bytes;
}

-- the packets of records, of which the first is at an offset
abbrev pub packets_of : PcapHead → (at : ℕ) → List PlainRecord → List Packet
packets_of p at [] = []
packets_of p at (r ∷ rs) = packet_of p at r ∷ packets_of p (at + (16 + length r.bytes)) rs

-- the capture of records, of which the first is at an offset
abbrev pub records_capture : PcapHead → (at : ℕ) → List PlainRecord → PlainCapture
records_capture p at rs = record { packets = packets_of p at rs; lost = 0; fault = None }

-- a block of pcapng: its kind, total length, body, and total length
abbrev pub block_text : ByteOrder → (kind : ℕ) → (body : List ℕ) → List ℕ
block_text order kind body = number_text order w32 kind ++ (number_text order w32 (12 + length body)
    ++ (body ++ number_text order w32 (12 + length body)))
