-- The signs so far.
use Rattle.std.proofs.Common.{◌≡◌, ◌++◌, take, string_bytes}
use Rattle.std.specs.List.{flat_map}
use Rattle.exercise_chart.specs.Signs.{unanswered_text}
use Rattle.exercise_chart.proofs.signs.put_unanswered.Given as goal

abbrev pub invariant-loop-at : goal.invariant-loop-at
invariant-loop-at l = string_bytes l.text ≡ string_bytes l.initial.text ++ flat_map (unanswered_text l.frame) (take l.at-index l.unanswered)
