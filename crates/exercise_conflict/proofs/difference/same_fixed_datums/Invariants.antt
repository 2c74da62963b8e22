use Rattle.std.proofs.Common.{◌≡◌}
use Rattle.std.specs.Cmp.Lexicographic.{pointwise}
use Rattle.siman_pdus.specs.DatumLists.{same_fixed}
use Rattle.exercise_conflict.proofs.difference.same_fixed_datums.Given as goal

-- what is left is the same exactly where all is
abbrev pub invariant-loop-datum : goal.invariant-loop-datum
invariant-loop-datum l = pointwise same_fixed l.fn.left l.fn.right ≡ pointwise same_fixed l.datum-iterator l.right
