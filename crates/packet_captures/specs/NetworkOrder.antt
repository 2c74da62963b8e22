-- Numbers in network byte order (big-endian; RFC 791, appendix B) at an offset of bytes.
use Rattle.std.specs.Prelude.{ℕ, ◌+◌, List, length, take, drop, nat_le, Option, Some, None, if◌then◌else◌}
use Rattle.std.specs.Int.{Width, byte_len, from_be_bytes}

-- the number in the bytes of a width at an offset
unfoldable pub number_at : Width → ℕ → List ℕ → ℕ
number_at w at b = from_be_bytes w (take (byte_len w) (drop at b))

-- the same, if all these bytes are there
abbrev pub number_if : Width → ℕ → List ℕ → Option ℕ
number_if w at b = if nat_le (at + byte_len w) (length b) then Some (number_at w at b) else None
