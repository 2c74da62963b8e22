-- The blocked rows so far.
use Rattle.std.proofs.Common.{◌≡◌, ◌++◌, string_bytes}
use Rattle.siman_print.specs.Below.{texts_below}
use Rattle.exercise_chart.specs.Rows.{blocked_at}
use Rattle.exercise_chart.proofs.rows.put_blocked_rows.Given as goal

abbrev pub invariant-loop-number : goal.invariant-loop-number
invariant-loop-number g l = string_bytes l.text ≡ string_bytes l.initial.text ++ texts_below (blocked_at l.frame (g.L.ExerciseLog.recording l.log) l.blocked) l.number
