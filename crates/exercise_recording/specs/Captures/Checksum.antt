-- The checksum of an IPv4 header (RFC 791, 3.1; RFC 1071, 1).
use Rattle.std.specs.Prelude.{ℕ, ◌+◌, ◌-◌, ◌/◌, ◌%◌}

-- a sum of words of 16 bits, to which its carries are added: one step towards the ones' complement sum
abbrev pub carried : ℕ → ℕ
carried sum = sum % 65536 + sum / 65536

-- THE CHECKSUM of words with this sum: the complement of their ones' complement sum. (Below 2^32 two steps suffice.)
abbrev pub checksum_of : (sum : ℕ) → ℕ
checksum_of sum = 65535 - carried (carried sum)
