use Rattle.std.proofs.Common.{◌≡◌, ℕ}
use Rattle.std.specs.Prelude.{nat_eq}
use Rattle.std.specs.Vec.Iter.{into_iter_items}
use Rattle.indexmap.specs.IndexMap.{get}
use Rattle.siman_application.specs.Records.{last_under, variable_id, stored}
use Rattle.siman_application.proofs.tables.store_variable.Given as goal

abbrev pub invariant-loop-record : goal.invariant-loop-record
invariant-loop-record l =
    (id : ℕ) → stored (last_under variable_id id (into_iter_items l.record-iterator)) (get nat_eq l.held id)
    ≡ stored (last_under variable_id id (into_iter_items l.initial.record-iterator)) (get nat_eq l.fn.held id)
