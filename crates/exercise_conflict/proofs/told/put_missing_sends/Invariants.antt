use Rattle.std.proofs.Common.{◌≡◌, ◌++◌, take, map}
use Rattle.std.specs.Prelude.{string_bytes}
use Rattle.exercise_conflict.specs.Lines.{missing_line}
use Rattle.siman_print.specs.Spelled.{lines_spelled}
use Rattle.exercise_conflict.proofs.told.put_missing_sends.Given as goal

-- The lines of what is missing so far.
abbrev pub invariant-loop-lack : goal.invariant-loop-lack
invariant-loop-lack g l = string_bytes l.text ≡ string_bytes l.initial.text ++ lines_spelled l.spelling (map (missing_line (g.L.ExerciseLog.recording l.log)) (take l.lack-index l.lacks))
