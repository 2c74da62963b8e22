use Rattle.std.proofs.Common.{◌≡◌, drop}
use Rattle.exercise_conflict.specs.Waits.{block_of}
use Rattle.exercise_conflict.proofs.waits.block_of.Given as goal

-- No block that was passed is of the station.
abbrev pub invariant-loop-block : goal.invariant-loop-block
invariant-loop-block l = block_of (drop l.block-index l.blocks) l.station ≡ block_of l.blocks l.station
