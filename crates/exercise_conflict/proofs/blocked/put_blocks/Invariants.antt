use Rattle.std.proofs.Common.{◌≡◌, ◌++◌, take, map}
use Rattle.std.specs.Prelude.{string_bytes}
use Rattle.exercise_conflict.specs.Blocked.{block_line}
use Rattle.siman_print.specs.Spelled.{lines_spelled}
use Rattle.exercise_conflict.proofs.blocked.put_blocks.Given as goal

-- The lines of the blocks so far.
abbrev pub invariant-loop-block : goal.invariant-loop-block
invariant-loop-block g l = string_bytes l.text ≡ string_bytes l.initial.text ++ lines_spelled l.spelling (map (block_line (g.L.ExerciseLog.recording l.log)) (take l.block-index l.blocks))
