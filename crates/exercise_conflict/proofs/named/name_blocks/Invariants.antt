use Rattle.std.proofs.Common.{◌≡◌, ◌++◌, take, map}
use Rattle.exercise_audit.specs.declared.blocks.Block.{Block}
use Rattle.exercise_conflict.proofs.named.name_blocks.Given as goal

-- The entries that are named so far.
abbrev pub invariant-loop-block : goal.invariant-loop-block
invariant-loop-block l = l.entries.items ≡ l.initial.entries.items ++ map (λ (b : Block). b.entry) (take l.block-index l.blocks)
