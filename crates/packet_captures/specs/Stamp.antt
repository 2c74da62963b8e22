-- Stamps of packets, in microseconds since 1970-01-01, rounded down (draft-ietf-opsawg-pcapng, 4.2: if_tsresol,
-- if_tsoffset; 4.3: the timestamp).
use Rattle.std.specs.Prelude.{ℕ, ◌+◌, ◌-◌, ◌*◌, ◌/◌, ◌^◌, nat_lt, Option, Some, None, if◌then◌else◌}

-- ticks in a second: by the value of if_tsresol 10 ^ n, or 2 ^ n where its highest bit is set
abbrev pub ticks_a_second : (resolution : ℕ) → ℕ
ticks_a_second r = if nat_lt r 128 then 10 ^ r else 2 ^ (r - 128)

-- ticks in microseconds, rounded down
abbrev pub microseconds : (resolution ticks : ℕ) → ℕ
microseconds r ticks = ticks * 1000000 / ticks_a_second r

-- a number of 64 bits, if it is one
abbrev pub in_64_bits : ℕ → Option ℕ
in_64_bits n = if nat_lt n (2 ^ 64) then Some n else None

-- n less by m, if it is not below 0
abbrev pub less_by : (n m : ℕ) → Option ℕ
less_by n m = if nat_lt n m then None else in_64_bits (n - m)

-- THE STAMP of these ticks, if it is one: if_tsoffset seconds are added, a signed number of 64 bits in two's complement
unfoldable pub stamp_of : (resolution offset ticks : ℕ) → Option ℕ
stamp_of r offset ticks =
    if nat_lt offset (2 ^ 63) then in_64_bits (microseconds r ticks + offset * 1000000)
    else less_by (microseconds r ticks) ((2 ^ 64 - offset) * 1000000)
