-- The names above the blocks so far.
use Rattle.std.proofs.Common.{◌≡◌, ◌++◌, string_bytes}
use Rattle.siman_print.specs.Below.{texts_below}
use Rattle.exercise_chart.specs.Columns.{names_above}
use Rattle.exercise_chart.proofs.columns.put_names.Given as goal

abbrev pub invariant-loop-block : goal.invariant-loop-block
invariant-loop-block g l = string_bytes l.text ≡ string_bytes l.initial.text ++ texts_below (names_above l.frame (g.L.ExerciseLog.recording l.log)) l.block
