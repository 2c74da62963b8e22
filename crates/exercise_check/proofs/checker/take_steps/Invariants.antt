use Rattle.std.proofs.Common.{◌≡◌, take}
use Rattle.exercise_check.specs.Goodness.{GoodBelow}
use Rattle.exercise_check.specs.Judging.{Keeps}
use Rattle.exercise_check.proofs.checker.take_steps.Given as goal

-- The steps so far were taken, and each of them is good.
abbrev pub invariant-loop-i : goal.invariant-loop-i
invariant-loop-i g l = record {
  findings : l.found ≡ l.fn.found;
  kept : Keeps l.fn.found (take l.i l.steps) l.cursors;
  good : GoodBelow l.fn.found l.steps l.i;
}
