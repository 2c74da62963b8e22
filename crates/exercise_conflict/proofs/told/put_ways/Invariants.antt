use Rattle.std.proofs.Common.{◌≡◌, ◌++◌, take}
use Rattle.std.specs.Prelude.{string_bytes}
use Rattle.std.specs.List.{flat_map}
use Rattle.exercise_conflict.specs.Lines.{way_lines}
use Rattle.siman_print.specs.Spelled.{lines_spelled}
use Rattle.exercise_conflict.proofs.told.put_ways.Given as goal

-- The lines of the ways so far.
abbrev pub invariant-loop-way : goal.invariant-loop-way
invariant-loop-way g l = string_bytes l.text ≡ string_bytes l.initial.text ++ lines_spelled l.spelling (flat_map (way_lines (g.L.ExerciseLog.recording l.log)) (take l.way-index l.ways))
