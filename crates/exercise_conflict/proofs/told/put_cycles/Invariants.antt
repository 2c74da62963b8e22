use Rattle.std.proofs.Common.{◌≡◌, ◌++◌, take, map}
use Rattle.std.specs.Prelude.{string_bytes}
use Rattle.exercise_conflict.specs.Lines.{cycle_line}
use Rattle.siman_print.specs.Spelled.{lines_spelled}
use Rattle.exercise_conflict.proofs.told.put_cycles.Given as goal

-- The lines of the cycles so far.
abbrev pub invariant-loop-cycle : goal.invariant-loop-cycle
invariant-loop-cycle g l = string_bytes l.text ≡ string_bytes l.initial.text ++ lines_spelled l.spelling (map (λ v. cycle_line (g.L.ExerciseLog.recording l.log) v.items) (take l.cycle-index l.cycles))
