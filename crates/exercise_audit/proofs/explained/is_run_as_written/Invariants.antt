use Rattle.std.proofs.Common.{◌≡◌}
use Rattle.exercise_audit.specs.Written.{IsRunAsWritten}
use Rattle.exercise_audit.proofs.explained.is_run_as_written.Given as goal

-- Nothing that was found changes, and the entries so far are a run.
abbrev pub invariant-loop-entry : goal.invariant-loop-entry
invariant-loop-entry g l = (l.findings ≡ l.initial.findings) × IsRunAsWritten l.findings l.entry
