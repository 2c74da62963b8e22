-- The entities without a bar, of the stations so far.
use Rattle.std.proofs.Common.{◌≡◌, ◌++◌, take, string_bytes}
use Rattle.std.specs.List.{flat_map}
use Rattle.exercise_chart.specs.Bars.{undrawn_text}
use Rattle.exercise_chart.proofs.bars.put_all_undrawn.Given as goal

abbrev pub invariant-loop-more : goal.invariant-loop-more
invariant-loop-more g l = string_bytes l.text ≡ string_bytes l.initial.text ++ flat_map (undrawn_text l.frame (g.L.ExerciseLog.recording l.log)) (take l.more-index l.undrawn)
