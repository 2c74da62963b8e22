-- Sizes of datagrams that are entries.
use Rattle.std.proofs.Common.{◌≡◌, ◌≤◌, ℕ, true, false, ◌==◌, List, length, Option, Some, None, arith}
use Rattle.std.specs.Option.{option_map_or}
use Rattle.std.proofs.lemmas.Grind.{common_steps}
use Rattle.std.proofs.lemmas.Bool.Decides.{nat_tests}
use Rattle.dis_records.specs.declared.header.TheConstants.{LARGEST_DATAGRAM}
use Rattle.packet_captures.specs.Carried.{PlainDatagram}
use Rattle.packet_captures.specs.UserDatagram.{is_whole}
use Rattle.exercise_recording.specs.declared.captures.packet_rule.PacketRule.{PacketRule}
use Rattle.exercise_recording.specs.Captures.Kind.{is_misfit, is_foreign}

-- bytes that are as many as a size that fits are at most 8192
pub fitting : (size : Option ℕ) (b : List ℕ) → is_misfit size ≡ false → option_map_or (λ n. n == length b) size false ≡ true → length b ≤ LARGEST_DATAGRAM
fitting None b fits whole = absurd (cc)
fitting (Some n) b fits whole = grind (arith, nat_tests, common_steps)

-- a whole datagram that is not foreign has at most 8192 bytes
pub short-whole : (rule : PacketRule) (d : PlainDatagram) → is_foreign rule d ≡ false → is_whole d ≡ true → length d.bytes ≤ LARGEST_DATAGRAM
unfolding is_foreign
short-whole rule d native whole = fitting d.size d.bytes (grind (arith, common_steps)) whole
