-- The lines so far are those of the places so far.
use Rattle.std.proofs.Common.{◌≡◌, ◌++◌, string_bytes}
use Rattle.siman_print.specs.Below.{texts_below}
use Rattle.exercise_check.specs.Report.{answer_at}
use Rattle.exercise_check.proofs.report.put_answers.Given as goal

abbrev pub invariant-loop-entry : goal.invariant-loop-entry
invariant-loop-entry g l = string_bytes l.text ≡ string_bytes l.initial.text ++ texts_below (answer_at (g.L.ExerciseLog.recording l.log)) l.entry
