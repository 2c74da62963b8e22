-- The options of a block (draft-ietf-opsawg-pcapng, 3.5): code and length of two bytes each, value, and padding to four
-- bytes.
use Rattle.std.specs.Prelude.{ℕ, zero, suc, ◌+◌, ◌*◌, ◌/◌, Bool, true, ◌&&◌, ◌==◌, nat_lt, List, length, take, drop, Option, Some, None, if◌then◌else◌}
use Rattle.std.specs.Int.{w16}
use Rattle.packet_captures.specs.declared.byte_order.ByteOrder.{ByteOrder}
use Rattle.packet_captures.specs.Numbers.{number_at}

-- a length with its padding to a multiple of four bytes
abbrev pub padded : ℕ → ℕ
padded n = (n + 3) / 4 * 4

-- the length that an option has to have, if any
abbrev pub has_length : Option ℕ → ℕ → Bool
has_length None n = true
has_length (Some m) n = m == n

-- the value of an option in b, if it is the one that is looked for, or else what was found before
abbrev pub found_at : ByteOrder → (code : ℕ) → (size : Option ℕ) → Option (List ℕ) → List ℕ → Option (List ℕ)
found_at order code size found b =
    if (number_at order w16 0 b == code) && has_length size (number_at order w16 2 b)
    then Some (take (number_at order w16 2 b) (drop 4 b)) else found

-- the options end: with fewer than 4 bytes, the code 0 (opt_endofopt), or an option that runs over its block
abbrev pub ends_options : ByteOrder → List ℕ → Bool
ends_options order b =
    if nat_lt (length b) 4 then true
    else (if number_at order w16 0 b == 0 then true
    else nat_lt (length b) (4 + number_at order w16 2 b))

-- The value of the last of at most `left` options in b that have this code and length, or else what was found before.
-- Options of another code or length are passed over (profile).
abbrev pub option_from : (left : ℕ) → ByteOrder → (code : ℕ) → (size : Option ℕ) → Option (List ℕ) → List ℕ → Option (List ℕ)
option_from zero order code size found b = found
option_from (suc left) order code size found b =
    if ends_options order b then found
    else option_from left order code size (found_at order code size found b) (drop (4 + padded (number_at order w16 2 b)) b)

-- THE VALUE OF AN OPTION of this code and length
abbrev pub option_value : ByteOrder → (code : ℕ) → (size : Option ℕ) → List ℕ → Option (List ℕ)
option_value order code size b = option_from (length b) order code size None b
