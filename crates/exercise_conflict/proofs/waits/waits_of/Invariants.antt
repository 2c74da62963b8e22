use Rattle.std.proofs.Common.{◌≡◌, take}
use Rattle.std.specs.List.{filter_map}
use Rattle.exercise_conflict.specs.Waits.{wait_of}
use Rattle.exercise_conflict.proofs.waits.waits_of.Given as goal

-- The waits of the blocks so far.
abbrev pub invariant-loop-block : goal.invariant-loop-block
invariant-loop-block g l = l.waits.items ≡ filter_map (wait_of l.findings l.blocks) (take l.block-index l.blocks)
