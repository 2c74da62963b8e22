-- The packets in blocks of pcapng (draft-ietf-opsawg-pcapng, 4.3 enhanced, 4.4 simple, 4.6 statistics, appendix A: the
-- old packet block). A block is the list of all its bytes, from its type to its last total length.
use Rattle.std.specs.Prelude.{ℕ, ◌+◌, ◌*◌, ◌%◌, ◌^◌, nat_lt, List, length, take, drop, slice_get, Option, Some, Result, Ok, Err, ok_or, if◌then◌else◌}
use Rattle.std.specs.Int.{w16, w32, w64}
use Rattle.std.specs.Option.{option_map, option_map_or}
use Rattle.byte_files.specs.Fields.{◌>>=◌}
use Rattle.packet_captures.specs.declared.byte_order.ByteOrder.{ByteOrder}
use Rattle.packet_captures.specs.declared.capture_fault.FormatFault.{FormatFault}
use Rattle.packet_captures.specs.declared.capture_fault.FormatFault.TheVariants as faults
use Rattle.packet_captures.specs.declared.interface.Interface.{Interface}
use Rattle.packet_captures.specs.declared.packet.Direction.{Direction}
use Rattle.packet_captures.specs.declared.packet.Direction.TheVariants.{Unknown}
use Rattle.packet_captures.specs.declared.block.PacketPart.{PacketPart}
use Rattle.packet_captures.specs.Interface.{options_from, kept_of}
use Rattle.packet_captures.specs.Numbers.{number_at}
use Rattle.packet_captures.specs.Options.{padded, option_value}
use Rattle.packet_captures.specs.Packet.{Packet, direction_from}
use Rattle.packet_captures.specs.Stamp.{stamp_of}

-- the block has at least n bytes; else the fault is at its total length
abbrev pub long_enough : (n at : ℕ) → List ℕ → Result (Unit {0}) FormatFault
long_enough n at block = if nat_lt (length block) n then Err (faults.Block (at + 4)) else Ok tt

-- the interface of this index, if the section described it; the fault is 8 behind the block's start
abbrev pub interface_at : List Interface → (index at : ℕ) → Result Interface FormatFault
interface_at interfaces index at = ok_or (slice_get interfaces index) (faults.Interface (at + 8))

-- this many bytes are in the block, behind as many bytes of other fields; else the fault is at an offset in the block
abbrev pub room_for : (kept others field at : ℕ) → List ℕ → Result (Unit {0}) FormatFault
room_for kept others field at block =
    if nat_lt (length block) (kept + others) then Err (faults.Block (at + field)) else Ok tt

-- the direction in the option for a packet's flags (2)
abbrev pub direction_of : ByteOrder → (options : List ℕ) → Direction
direction_of order options = option_map_or (λ v. direction_from (number_at order w32 0 v % 4)) (option_value order 2 (Some 4) options) Unknown

-- the ticks in a block's fields for the upper and the lower half
abbrev pub ticks_of : ByteOrder → List ℕ → ℕ
ticks_of order block = number_at order w32 12 block * 2 ^ 32 + number_at order w32 16 block

-- THE PACKET of an enhanced or an old packet block of this interface: stamp, number of bytes kept, length on the wire,
-- the bytes, padded, and options
unfoldable pub timed_packet : ByteOrder → List Interface → (index at : ℕ) → (block : List ℕ) → Result Packet FormatFault
timed_packet order interfaces index at block = do
  i ← interface_at interfaces index at
  room ← room_for (number_at order w32 20 block) 32 20 at block
  stamp ← ok_or (stamp_of i.resolution i.offset (ticks_of order block)) (faults.Time (at + 12))
  Ok (record {
    head = record {
      at = at;
      link = i.link;
      order = order;
      wanted = i.wanted;
      stamp = stamp;
      direction = direction_of order (options_from (28 + padded (number_at order w32 20 block)) block);
      original = number_at order w32 24 block;
    };
    bytes = take (number_at order w32 20 block) (drop 28 block);
  })

-- the packet of an enhanced packet block (6)
unfoldable pub enhanced_packet : ByteOrder → List Interface → (at : ℕ) → (block : List ℕ) → Result Packet FormatFault
enhanced_packet order interfaces at block = do
  long ← long_enough 32 at block
  timed_packet order interfaces (number_at order w32 8 block) at block

-- the packet of an old packet block (2), whose interface has 16 bits
unfoldable pub old_packet : ByteOrder → List Interface → (at : ℕ) → (block : List ℕ) → Result Packet FormatFault
old_packet order interfaces at block = do
  long ← long_enough 32 at block
  timed_packet order interfaces (number_at order w16 8 block) at block

-- the packet of a simple packet block (3): of interface 0, with the stamp of the packet before it
unfoldable pub simple_packet : ByteOrder → List Interface → (stamp at : ℕ) → (block : List ℕ) → Result Packet FormatFault
simple_packet order interfaces stamp at block = do
  long ← long_enough 16 at block
  i ← interface_at interfaces 0 at
  room ← room_for (kept_of i.snapshot (number_at order w32 8 block)) 16 8 at block
  Ok (record {
    head = record {
      at = at;
      link = i.link;
      order = order;
      wanted = i.wanted;
      stamp = stamp;
      direction = Unknown;
      original = number_at order w32 8 block;
    };
    bytes = take (kept_of i.snapshot (number_at order w32 8 block)) (drop 12 block);
  })

-- the number of packets lost in a statistics block (5): the option isb_ifdrop (5)
abbrev pub lost_in : ByteOrder → (block : List ℕ) → Option ℕ
lost_in order block = option_map (λ v. number_at order w64 0 v) (option_value order 5 (Some 8) (options_from 20 block))

-- the packet whose bytes are a part of a block
abbrev pub packet_in : (block : List ℕ) → PacketPart → Packet
packet_in block part = record { head = part.head; bytes = take part.count (drop part.from block) }

-- a result, its value seen by f
abbrev pub seen : {X Y : Type 0} → (X → Y) → Result X FormatFault → Result Y FormatFault
seen f (Ok x) = Ok (f x)
seen f (Err e) = Err e
