-- The lines so far were read and told, and counted.
use Rattle.std.proofs.Common.{◌≡◌, ◌+◌, ◌-◌, ◌^◌, length}
use Rattle.siman_file_commands.specs.declared.hex_text.TheConstants.{LONGEST_HEX}
use Rattle.siman_file_commands.proofs.Tellings.{ShownSoFar}
use Rattle.siman_file_commands.proofs.pdus.show_lines.Given as goal

abbrev pub invariant-loop-number : goal.invariant-loop-number
invariant-loop-number g l =
    (length l.buffer ≡ LONGEST_HEX + 1)
    × ShownSoFar (g.R.Read.remaining l.initial.reader) (g.R.Read.remaining l.reader) (g.W.Write.contents l.initial.out) (g.W.Write.contents l.out)
    (g.E.Write.contents l.initial.errors) (g.E.Write.contents l.errors) (l.count.so_far + 1) l.worst

abbrev pub decreases-loop-number : goal.decreases-loop-number
decreases-loop-number g l = 2 ^ 64 - l.count.so_far
