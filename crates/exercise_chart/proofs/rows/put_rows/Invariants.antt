-- The rows so far.
use Rattle.std.proofs.Common.{◌≡◌, ◌++◌, take, string_bytes}
use Rattle.std.specs.List.{flat_map}
use Rattle.exercise_chart.specs.Rows.{row_text}
use Rattle.exercise_chart.proofs.rows.put_rows.Given as goal

abbrev pub invariant-loop-row : goal.invariant-loop-row
invariant-loop-row g l = string_bytes l.text ≡ string_bytes l.initial.text ++ flat_map (row_text l.frame (g.L.ExerciseLog.recording l.log)) (take l.row-index l.rows)
