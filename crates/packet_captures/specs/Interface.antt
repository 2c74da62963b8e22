-- Interfaces of a section of pcapng (draft-ietf-opsawg-pcapng, 4.2).
use Rattle.std.specs.Prelude.{ℕ, ◌-◌, Bool, true, false, ◌==◌, List, length, take, drop, bytes_eq, slice_index, min, Option, Some, None, if◌then◌else◌}
use Rattle.std.specs.Int.{w16, w32, w64}
use Rattle.std.specs.Option.{option_map_or}
use Rattle.packet_captures.specs.declared.byte_order.ByteOrder.{ByteOrder}
use Rattle.packet_captures.specs.declared.interface.Interface.{Interface}
use Rattle.packet_captures.specs.Numbers.{number_at}
use Rattle.packet_captures.specs.Options.{option_value}

-- a block's options, which begin at an offset and end before its last four bytes
abbrev pub options_from : (offset : ℕ) → List ℕ → List ℕ
options_from offset block = drop offset (take (length block - 4) block)

-- an interface has the name that is asked for; where none is, each is wanted
abbrev pub is_wanted : (name found : Option (List ℕ)) → Bool
is_wanted None found = true
is_wanted (Some name) found = option_map_or (λ v. bytes_eq v name) found false

-- the option if_tsresol (9), else microseconds
abbrev pub resolution_of : ByteOrder → (options : List ℕ) → ℕ
resolution_of order options = option_map_or (λ v. slice_index v 0) (option_value order 9 (Some 1) options) 6

-- the option if_tsoffset (14), else 0
abbrev pub offset_of : ByteOrder → (options : List ℕ) → ℕ
offset_of order options = option_map_or (λ v. number_at order w64 0 v) (option_value order 14 (Some 8) options) 0

-- the interface that a block describes: link type, snapshot length, and options, among them if_name (2)
unfoldable pub interface_of : ByteOrder → (name : Option (List ℕ)) → (block : List ℕ) → Interface
interface_of order name block = record {
  link = number_at order w16 8 block;
  snapshot = number_at order w32 12 block;
  wanted = is_wanted name (option_value order 2 None (options_from 16 block));
  resolution = resolution_of order (options_from 16 block);
  offset = offset_of order (options_from 16 block);
  lost = 0;
}

-- how much of a packet of this length a simple packet block keeps: no more than the snapshot length, if that is not 0
abbrev pub kept_of : (snapshot original : ℕ) → ℕ
kept_of snapshot original = if snapshot == 0 then original else min original snapshot
