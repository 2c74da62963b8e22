use Rattle.std.proofs.Common.{◌≡◌, ℕ, drop}
use Rattle.std.specs.Prelude.{nat_eq}
use Rattle.std.specs.Option.{option_or}
use Rattle.indexmap.specs.IndexMap.{get}
use Rattle.siman_application.specs.Records.{last_under, variable_id}
use Rattle.siman_application.proofs.tables.variable_table.Given as goal

abbrev pub invariant-loop-record : goal.invariant-loop-record
invariant-loop-record l =
    (id : ℕ) → option_or (last_under variable_id id (drop l.record-index l.records)) (get nat_eq l.table id) ≡ last_under variable_id id l.records
