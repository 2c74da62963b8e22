use Rattle.std.proofs.Common.{◌≡◌, ◌++◌, take, map}
use Rattle.std.specs.Prelude.{string_bytes}
use Rattle.exercise_conflict.specs.Told.{further_line}
use Rattle.siman_print.specs.Spelled.{lines_spelled}
use Rattle.exercise_conflict.proofs.told.put_further_causes.Given as goal

-- The lines of those so far.
abbrev pub invariant-loop-also : goal.invariant-loop-also
invariant-loop-also g l = string_bytes l.text ≡ string_bytes l.initial.text ++ lines_spelled l.spelling (map (further_line (g.L.ExerciseLog.recording l.log)) (take l.also-index l.all))
