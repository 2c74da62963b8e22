use Rattle.std.proofs.Common.{◌-◌, length}
use Rattle.exercise_review.specs.Course.{AreOwn}
use Rattle.exercise_review.proofs.course.own_of.Given as goal

-- The last changes are noted, so many as are done.
abbrev pub invariant-loop-done : goal.invariant-loop-done
invariant-loop-done l = AreOwn l.changes l.last (length l.changes - l.done) l.own
