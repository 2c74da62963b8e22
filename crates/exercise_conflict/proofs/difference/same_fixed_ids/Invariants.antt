use Rattle.std.proofs.Common.{◌≡◌, ◌==◌}
use Rattle.std.specs.Cmp.Lexicographic.{pointwise}
use Rattle.exercise_conflict.proofs.difference.same_fixed_ids.Given as goal

-- what is left is the same exactly where all is
abbrev pub invariant-loop-id : goal.invariant-loop-id
invariant-loop-id l = pointwise ◌==◌ l.fn.left l.fn.right ≡ pointwise ◌==◌ l.id-iterator l.right
