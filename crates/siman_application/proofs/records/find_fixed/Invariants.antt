use Rattle.std.proofs.Common.{◌≡◌, ◌≤◌, ◌++◌, drop, length}
use Rattle.std.specs.Prelude.{nat_eq}
use Rattle.indexmap.specs.IndexMap.{get}
use Rattle.siman_application.specs.Records.{stored, found}
use Rattle.siman_application.proofs.records.find_fixed.Given as goal

abbrev pub invariant-loop-id : goal.invariant-loop-id
invariant-loop-id l = record {
  found :
      l.records.items ++ found (λ id. stored (get nat_eq l.came id) (get nat_eq l.held id)) (drop l.id-index l.ids) ≡ found
      (λ id. stored (get nat_eq l.came id) (get nat_eq l.held id)) l.ids;
  few : length l.records.items ≤ 1019;
}
