-- The arrows so far.
use Rattle.std.proofs.Common.{◌≡◌, ◌++◌, take, string_bytes}
use Rattle.std.specs.List.{flat_map}
use Rattle.exercise_chart.specs.Lines.{arrow_text}
use Rattle.exercise_chart.proofs.lines.put_arrows.Given as goal

abbrev pub invariant-loop-arrow : goal.invariant-loop-arrow
invariant-loop-arrow l = string_bytes l.text ≡ string_bytes l.initial.text ++ flat_map (arrow_text l.frame) (take l.arrow-index l.arrows)
