-- Hex text: pairs of hex digits of either case, and nothing else.
use Rattle.std.specs.Prelude.{ℕ, List, length, nat_lt, Option, None, if◌then◌else◌}
use Rattle.std.specs.Result.{result_ok}
use Rattle.siman_file_commands.specs.declared.hex_text.TheConstants.{LONGEST_HEX}
use Rattle.hex.specs.Hex.{decode_of}

-- the bytes that a text spells, if it is at most 65,536 bytes of pairs of hex digits
abbrev pub bytes_of : List ℕ → Option (List ℕ)
bytes_of text = if nat_lt LONGEST_HEX (length text) then None else result_ok (decode_of text)
