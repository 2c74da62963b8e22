use Rattle.std.proofs.Common.{◌≡◌, ◌+◌, ◌≤◌, length}
use Rattle.byte_files.specs.Text.{lines_of}
use Rattle.siman_scripts.specs.MoveLine.{move_line, line_of_move}
use Rattle.siman_scripts.proofs.move_line.line_of_move.Given as goal

-- the line is looked for among those that are left
abbrev pub invariant-loop-rest : goal.invariant-loop-rest
invariant-loop-rest l = record {
  found : move_line l.others l.count (lines_of l.rest) ≡ line_of_move l.text l.number;
  within : l.count + length l.rest ≤ length l.text;
}

abbrev pub decreases-loop-rest : goal.decreases-loop-rest
decreases-loop-rest l = length l.rest
