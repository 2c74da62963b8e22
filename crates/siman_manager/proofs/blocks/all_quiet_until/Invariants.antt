use Rattle.std.proofs.Common.{◌≡◌, ◌≤◌, ◌<◌, ℕ, Some, slice_get}
use Rattle.indexmap.specs.IndexMap.{values}
use Rattle.siman_manager.specs.declared.kept.MadeOrder.{MadeOrder}
use Rattle.siman_manager.specs.Blocks.{IsQuiet}
use Rattle.siman_manager.proofs.blocks.all_quiet_until.Given as goal

abbrev pub invariant-loop-place : goal.invariant-loop-place
invariant-loop-place l = (p : ℕ) (k : MadeOrder) → l.first ≤ p → p < l.place → slice_get (values l.orders) p ≡ Some k → IsQuiet l.settings l.time k
