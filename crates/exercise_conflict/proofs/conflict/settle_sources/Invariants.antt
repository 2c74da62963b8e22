use Rattle.std.proofs.Common.{◌≡◌}
use Rattle.exercise_conflict.proofs.conflict.settle_sources.Given as goal

-- What was found stays.
abbrev pub invariant-loop-entry : goal.invariant-loop-entry
invariant-loop-entry g l = l.findings ≡ l.fn.findings
