use Rattle.std.proofs.Common.{◌≡◌, ◌*◌, length}
use Rattle.indexmap.specs.IndexMap.{values}
use Rattle.siman_manager.specs.Book.{after_tick, repeated}
use Rattle.siman_manager.specs.Blocks.{IsRight, ticked_from, repeated_from}
use Rattle.siman_manager.proofs.walk.walk.Given as goal

abbrev pub invariant-loop-block : goal.invariant-loop-block
invariant-loop-block l = record {
  right : IsRight l.settings l.times.items l.orders;
  count : length l.times.items ≡ length l.fn.times.items;
  after : ticked_from l.settings l.now l.stamp (64 * l.block) (values l.orders) ≡ after_tick l.settings l.now l.stamp (values l.fn.orders);
  sent : repeated_from l.settings l.now l.stamp (64 * l.block) (values l.orders) ≡ repeated l.settings l.now l.stamp (values l.fn.orders);
}
