-- The names so far.
use Rattle.std.proofs.Common.{◌≡◌, ◌++◌, string_bytes}
use Rattle.siman_print.specs.Below.{texts_below}
use Rattle.exercise_chart.specs.Columns.{name_text}
use Rattle.exercise_chart.proofs.columns.put_station_names.Given as goal

abbrev pub invariant-loop-station : goal.invariant-loop-station
invariant-loop-station g l = string_bytes l.text ≡ string_bytes l.initial.text ++ texts_below (name_text l.frame (g.L.ExerciseLog.recording l.log) l.y) l.station
