use Rattle.std.proofs.Common.{◌≡◌, drop}
use Rattle.exercise_check.specs.Sequence.{first_sender}
use Rattle.exercise_conflict.proofs.taking.first_sender.Given as goal

-- No step that was passed sends it.
abbrev pub invariant-loop-step : goal.invariant-loop-step
invariant-loop-step g l =
    let entries = (g.L.ExerciseLog.recording l.log).entries in first_sender entries l.bytes (drop l.step-index l.before) ≡ first_sender entries l.bytes l.before
