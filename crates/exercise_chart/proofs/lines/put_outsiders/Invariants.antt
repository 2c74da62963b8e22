-- What came from outside so far.
use Rattle.std.proofs.Common.{◌≡◌, ◌++◌, take, string_bytes}
use Rattle.std.specs.List.{flat_map}
use Rattle.exercise_chart.specs.Lines.{outside_text}
use Rattle.exercise_chart.proofs.lines.put_outsiders.Given as goal

abbrev pub invariant-loop-outsider : goal.invariant-loop-outsider
invariant-loop-outsider l = string_bytes l.text ≡ string_bytes l.initial.text ++ flat_map (outside_text l.frame) (take l.outsider-index l.outside)
