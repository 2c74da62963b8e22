-- Bytes that are there, or a file that ends in the middle of them.
use Rattle.std.specs.Prelude.{ℕ, ◌+◌, Bool, nat_lt, List, length, Result, Ok, Err, if◌then◌else◌}
use Rattle.packet_captures.specs.declared.capture_fault.FormatFault.{FormatFault}
use Rattle.packet_captures.specs.declared.capture_fault.FormatFault.TheVariants as faults
use Rattle.packet_captures.specs.declared.limits.TheConstants.{LARGEST_BLOCK}

-- n bytes are there at an offset; else the file ends in the middle of a record or block, which may be its head: its length
abbrev pub whole_at : (n : ℕ) → (head : Bool) → (at : ℕ) → List ℕ → Result (Unit {0}) FormatFault
whole_at n head at b = if nat_lt (length b) n then Err (faults.Truncated (at + length b) head) else Ok tt

-- A record or block of this size is held at once; else the fault is at its length, which has this offset in it.
abbrev pub held_at : (size field at : ℕ) → Result (Unit {0}) FormatFault
held_at size field at = if nat_lt LARGEST_BLOCK size then Err (faults.Block (at + field)) else Ok tt
