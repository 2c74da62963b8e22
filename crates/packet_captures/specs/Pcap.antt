-- Files of pcap (draft-ietf-opsawg-pcap): a head of 24 bytes, and records.
use Rattle.std.specs.Prelude.{ℕ, ◌+◌, ◌*◌, ◌/◌, ◌%◌, ◌^◌, Bool, true, false, ◌==◌, List, take, drop, Option, Some, None, Result, Ok, if◌then◌else◌}
use Rattle.std.specs.Int.{w16, w32}
use Rattle.byte_files.specs.Fields.{◌>>=◌, tested}
use Rattle.packet_captures.specs.declared.byte_order.ByteOrder.{ByteOrder}
use Rattle.packet_captures.specs.declared.byte_order.ByteOrder.TheVariants.{Little, Big}
use Rattle.packet_captures.specs.declared.capture_fault.FormatFault.{FormatFault}
use Rattle.packet_captures.specs.declared.capture_fault.FormatFault.TheVariants as faults
use Rattle.packet_captures.specs.declared.packet.PacketHead.{PacketHead}
use Rattle.packet_captures.specs.declared.packet.Direction.TheVariants.{Unknown}
use Rattle.packet_captures.specs.declared.pcap.PcapHead.{PcapHead}
use Rattle.packet_captures.specs.Numbers.{number_at}
use Rattle.packet_captures.specs.Packet.{Packet}
use Rattle.packet_captures.specs.Whole.{whole_at, held_at}

-- the byte order, and whether fractions are nanoseconds, by the magic as a little-endian number
abbrev pub pcap_kind : ℕ → Option (ByteOrder × Bool)
pcap_kind magic =
    if magic == 0xA1B2C3D4 then Some (Little, false)
    else (if magic == 0xA1B23C4D then Some (Little, true)
    else (if magic == 0xD4C3B2A1 then Some (Big, false)
    else (if magic == 0x4D3CB2A1 then Some (Big, true)
    else None)))

-- the head of a file: magic, version 2 of any minor, fields that are not looked at, and the link type, in the lower 16
-- bits of its field
unfoldable pub pcap_head : (ByteOrder × Bool) → (at : ℕ) → List ℕ → Result PcapHead FormatFault
pcap_head kind at h = tested (number_at kind.0 w16 4 h == 2) (faults.Version (at + 4))
    (record { order = kind.0; nanoseconds = kind.1; link = number_at kind.0 w32 20 h % 2 ^ 16 })

-- THE HEAD OF A FILE at the front of b, of 24 bytes
unfoldable pub pcap_at : (ByteOrder × Bool) → (at : ℕ) → List ℕ → Result PcapHead FormatFault
pcap_at kind at b = whole_at 24 true at b >>= λ whole. pcap_head kind at (take 24 b)

-- the stamp of a record's head: seconds, and micro- or nanoseconds, which are taken as they are
abbrev pub record_stamp : PcapHead → List ℕ → ℕ
record_stamp p h = number_at p.order w32 0 h * 1000000 + (if p.nanoseconds then number_at p.order w32 4 h / 1000 else number_at p.order w32 4 h)

-- a record's head, of 16 bytes: stamp, number of bytes kept, and length on the wire
abbrev pub record_head : PcapHead → (wanted : Bool) → (at : ℕ) → List ℕ → PacketHead
record_head p wanted at h = record {
  at = at;
  link = p.link;
  order = p.order;
  wanted = wanted;
  stamp = record_stamp p h;
  direction = Unknown;
  original = number_at p.order w32 12 h;
}

-- how long a record is that has this head
abbrev pub record_size : PcapHead → List ℕ → ℕ
record_size p h = 16 + number_at p.order w32 8 h

-- the packet of a whole record
abbrev pub record_packet : PcapHead → (wanted : Bool) → (at : ℕ) → (whole : List ℕ) → Packet
record_packet p wanted at whole = record { head = record_head p wanted at (take 16 whole); bytes = drop 16 whole }

-- THE RECORD at the front of b: its size, and its packet
unfoldable pub record_at : PcapHead → (wanted : Bool) → (at : ℕ) → List ℕ → Result (ℕ × Packet) FormatFault
record_at p wanted at b =
    whole_at 16 false at b >>= λ head.
    held_at (record_size p (take 16 b)) 8 at >>= λ held.
    whole_at (record_size p (take 16 b)) false at b >>= λ whole.
    Ok (record_size p (take 16 b), record_packet p wanted at (take (record_size p (take 16 b)) b))
