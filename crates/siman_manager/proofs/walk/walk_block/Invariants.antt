use Rattle.std.proofs.Common.{◌≡◌}
use Rattle.indexmap.specs.IndexMap.{keys, values, index_map_len}
use Rattle.siman_manager.specs.Blocks.{AreLater, ticked_from, repeated_from}
use Rattle.siman_manager.proofs.walk.walk_block.Given as goal

abbrev pub invariant-loop-place : goal.invariant-loop-place
invariant-loop-place l = record {
  keys : keys l.orders ≡ keys l.fn.orders;
  len : index_map_len l.orders ≡ index_map_len l.fn.orders;
  later : AreLater l.settings (values l.fn.orders) (values l.orders);
  after : ticked_from l.settings l.now l.stamp l.place (values l.orders) ≡ ticked_from l.settings l.now l.stamp l.fn.first (values l.fn.orders);
  sent : repeated_from l.settings l.now l.stamp l.place (values l.orders) ≡ repeated_from l.settings l.now l.stamp l.fn.first (values l.fn.orders);
}
