use Rattle.std.proofs.Common.{◌≡◌}
use Rattle.exercise_check.specs.Course.{so_far}
use Rattle.exercise_audit.specs.Audit.{AreBlocks}
use Rattle.exercise_audit.proofs.longest.blocks.Given as goal

abbrev pub invariant-loop-station : goal.invariant-loop-station
invariant-loop-station g l = record {
  course : l.course ≡ l.fn.course;
  blocks : AreBlocks l.fn.course.recording (so_far l.fn.course) l.station l.blocks.items;
}
