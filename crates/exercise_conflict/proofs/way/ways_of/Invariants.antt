use Rattle.std.proofs.Common.{◌≡◌, take}
use Rattle.std.specs.List.{filter_map}
use Rattle.exercise_conflict.specs.Ways.{way_of}
use Rattle.exercise_conflict.proofs.way.ways_of.Given as goal

-- What the stations of the blocks so far come to.
abbrev pub invariant-loop-block : goal.invariant-loop-block
invariant-loop-block g l = l.ways.items ≡ filter_map (way_of l.findings l.blocks) (take l.block-index l.blocks)
