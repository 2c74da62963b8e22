-- Blocks of pcapng (draft-ietf-opsawg-pcapng, 3.1 and 4).
use Rattle.std.specs.Prelude.{ℕ, ◌+◌, ◌-◌, ◌%◌, Bool, ◌||◌, not, ◌==◌, nat_lt, List, take, Option, Some, None, Result, Ok, Err, if◌then◌else◌}
use Rattle.std.specs.Int.{w16, w32}
use Rattle.std.specs.Option.{option_map_or}
use Rattle.byte_files.specs.Fields.{◌>>=◌, tested}
use Rattle.packet_captures.specs.declared.byte_order.ByteOrder.{ByteOrder}
use Rattle.packet_captures.specs.declared.byte_order.ByteOrder.TheVariants.{Little, Big}
use Rattle.packet_captures.specs.declared.capture_fault.FormatFault.{FormatFault}
use Rattle.packet_captures.specs.declared.capture_fault.FormatFault.TheVariants as faults
use Rattle.packet_captures.specs.Block.{long_enough, enhanced_packet, old_packet, simple_packet, lost_in}
use Rattle.packet_captures.specs.Interface.{interface_of}
use Rattle.packet_captures.specs.Numbers.{number_at}
use Rattle.packet_captures.specs.Packet.{Packet}
use Rattle.packet_captures.specs.State.{State, with_interface, with_stamp, with_lost}
use Rattle.packet_captures.specs.Whole.{whole_at, held_at}

-- the total length of a block, in its first eight bytes: at least 12, and a multiple of 4
unfoldable pub size_in : ByteOrder → (at : ℕ) → List ℕ → Result ℕ FormatFault
size_in order at h =
    if nat_lt (number_at order w32 4 h) 12 || not (number_at order w32 4 h % 4 == 0) then Err (faults.Block (at + 4))
    else Ok (number_at order w32 4 h)

-- a block of this total length is held at once
abbrev pub held_in : ByteOrder → (at : ℕ) → List ℕ → Result (Unit {0}) FormatFault
held_in order at h = held_at (number_at order w32 4 h) 4 at

-- the total length stands again at the end of a block of this size
unfoldable pub same_at_end : ByteOrder → (size at : ℕ) → List ℕ → Result ℕ FormatFault
same_at_end order size at block = tested (number_at order w32 (size - 4) block == size) (faults.Block (at + (size - 4))) size

-- the size of the block at the front of b, which has to be whole there; whether it is the head of the file
unfoldable pub sized_at : ByteOrder → (head : Bool) → (at : ℕ) → List ℕ → Result ℕ FormatFault
sized_at order head at b = do
  n ← size_in order at (take 8 b)
  whole ← whole_at n head at b
  same_at_end order n at (take n b)

-- kinds of blocks: a section header; an interface description, an old, simple and enhanced packet, statistics
abbrev pub section_kind : ℕ
section_kind = 0x0A0D0D0A

-- a block that is looked into, other than a section header
abbrev pub is_looked_into : ℕ → Bool
is_looked_into kind = (kind == 1) || (kind == 2) || (kind == 3) || (kind == 5) || (kind == 6)

-- a block that is looked into is held at once; another one is passed over, whatever its size
abbrev pub known_in : ByteOrder → (at : ℕ) → List ℕ → Result (Unit {0}) FormatFault
known_in order at h = if is_looked_into (number_at order w32 0 h) then held_in order at h else Ok tt

-- the byte order of a section, by the number 0x1A2B3C4D in its bytes 8 to 11
unfoldable pub order_in : (at : ℕ) → List ℕ → Result ByteOrder FormatFault
order_in at h =
    if number_at Little w32 8 h == 0x1A2B3C4D then Ok Little
    else (if number_at Big w32 8 h == 0x1A2B3C4D then Ok Big else Err (faults.Magic (at + 8)))

-- a section header has at least 28 bytes, and version 1 of any minor
unfoldable pub version_in : ByteOrder → (at : ℕ) → (block : List ℕ) → Result (Unit {0}) FormatFault
version_in order at block = do
  long ← long_enough 28 at block
  tested (number_at order w16 12 block == 1) (faults.Version (at + 12)) tt

-- THE SECTION HEADER at the front of b: its size, and the byte order
unfoldable pub section_at : (head : Bool) → (at : ℕ) → List ℕ → Result (ℕ × ByteOrder) FormatFault
section_at head at b = do
  whole ← whole_at 12 head at b
  order ← order_in at (take 12 b)
  held ← held_in order at (take 8 b)
  n ← sized_at order head at b
  version ← version_in order at (take n b)
  Ok (n, order)

-- the packet of a block of this kind, if it has one
unfoldable pub packet_in_block : ByteOrder → State → (kind at : ℕ) → (block : List ℕ) → Result (Option Packet) FormatFault
packet_in_block order s kind at block =
    if kind == 6 then (enhanced_packet order s.interfaces at block >>= λ p. Ok (Some p))
    else (if kind == 3 then (simple_packet order s.interfaces s.stamp at block >>= λ p. Ok (Some p))
    else (if kind == 2 then (old_packet order s.interfaces at block >>= λ p. Ok (Some p))
    else Ok None))

-- the state behind a block of this kind that has no packet
unfoldable pub state_after : ByteOrder → (name : Option (List ℕ)) → State → (kind at : ℕ) → (block : List ℕ) → Result State FormatFault
state_after order name s kind at block =
    if kind == 1 then (long_enough 20 at block >>= λ long. Ok (with_interface (interface_of order name block) s))
    else (if kind == 5 then (long_enough 24 at block >>= λ long. Ok (with_lost (number_at order w32 8 block) (lost_in order block) s))
    else Ok s)

-- WHAT A BLOCK TELLS: its packet, if it has one, and the state behind it
unfoldable pub block_content : ByteOrder → (name : Option (List ℕ)) → State → (kind at : ℕ) → (block : List ℕ) → Result (Option Packet × State) FormatFault
block_content order name s kind at block = packet_in_block order s kind at block >>= λ packet.
    option_map_or (λ p. Ok (Some p, with_stamp p.head.stamp s)) packet (state_after order name s kind at block >>= λ new. Ok (None, new))
