use Rattle.std.proofs.Common.{◌≡◌, length}
use Rattle.siman_file_commands.specs.Openings.{first_difference}
use Rattle.siman_file_commands.proofs.openings.first_difference.Given as goal

-- What is left differs first where all does.
abbrev pub invariant-loop-left : goal.invariant-loop-left
invariant-loop-left l = first_difference l.left l.right ≡ first_difference l.ones l.others

abbrev pub decreases-loop-left : goal.decreases-loop-left
decreases-loop-left l = length l.left
