use Rattle.std.proofs.Common.{◌≡◌, ◌==◌}
use Rattle.std.specs.Cmp.Lexicographic.{pointwise}
use Rattle.siman_pdus.proofs.same_views.same_id_records.Given as goal

-- what is left is the same exactly where all is
abbrev pub invariant-loop-id : goal.invariant-loop-id
invariant-loop-id l = pointwise ◌==◌ l.fn.left l.fn.right ≡ pointwise ◌==◌ l.id-iterator l.right
