-- What was lost so far.
use Rattle.std.proofs.Common.{◌≡◌, ◌++◌, take, string_bytes}
use Rattle.std.specs.List.{flat_map}
use Rattle.exercise_chart.specs.Lines.{loss_text}
use Rattle.exercise_chart.proofs.lines.put_losses.Given as goal

abbrev pub invariant-loop-loss : goal.invariant-loop-loss
invariant-loop-loss g l = string_bytes l.text ≡ string_bytes l.initial.text ++ flat_map (loss_text l.frame (g.L.ExerciseLog.recording l.log)) (take l.loss-index l.losses)
