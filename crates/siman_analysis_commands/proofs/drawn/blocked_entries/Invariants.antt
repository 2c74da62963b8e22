-- The entries of the blocks so far.
use Rattle.std.proofs.Common.{◌≡◌, map, take}
use Rattle.siman_analysis_commands.specs.Chart.{entry_of}
use Rattle.siman_analysis_commands.proofs.drawn.blocked_entries.Given as goal

abbrev pub invariant-loop-block : goal.invariant-loop-block
invariant-loop-block l = l.blocked.items ≡ map entry_of (take l.block-index l.blocks)
