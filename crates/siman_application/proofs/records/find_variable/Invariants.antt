use Rattle.std.proofs.Common.{◌≡◌, ◌++◌, drop}
use Rattle.std.specs.Prelude.{nat_eq}
use Rattle.indexmap.specs.IndexMap.{get}
use Rattle.siman_application.specs.Records.{stored, found, fitting}
use Rattle.siman_application.proofs.records.find_variable.Given as goal

abbrev pub invariant-loop-id : goal.invariant-loop-id
invariant-loop-id l =
    l.records.items ++ fitting l.left (found (λ id. stored (get nat_eq l.came id) (get nat_eq l.held id)) (drop l.id-index l.ids)) ≡ fitting l.room
    (found (λ id. stored (get nat_eq l.came id) (get nat_eq l.held id)) l.ids)
