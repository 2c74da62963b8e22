-- The bars so far.
use Rattle.std.proofs.Common.{◌≡◌, ◌++◌, take, string_bytes}
use Rattle.std.specs.List.{flat_map}
use Rattle.exercise_chart.specs.Bars.{bar_text}
use Rattle.exercise_chart.proofs.bars.put_all_bars.Given as goal

abbrev pub invariant-loop-bar : goal.invariant-loop-bar
invariant-loop-bar l = string_bytes l.text ≡ string_bytes l.initial.text ++ flat_map (bar_text l.frame) (take l.bar-index l.bars)
