use Rattle.std.proofs.Common.{◌≡◌, ℕ, drop}
use Rattle.std.specs.Prelude.{nat_eq}
use Rattle.indexmap.specs.IndexMap.{get}
use Rattle.siman_application.specs.Records.{last_under, fixed_id, stored}
use Rattle.siman_application.proofs.tables.store_fixed.Given as goal

abbrev pub invariant-loop-record : goal.invariant-loop-record
invariant-loop-record l =
    (id : ℕ) → stored (last_under fixed_id id (drop l.record-index l.came)) (get nat_eq l.held id) ≡ stored (last_under fixed_id id l.came) (get nat_eq l.fn.held id)
