use Rattle.std.proofs.Common.{◌≡◌, take, map}
use Rattle.siman_application.specs.Records.{variable_id}
use Rattle.siman_application.proofs.records.ids_of_variable.Given as goal

abbrev pub invariant-loop-record : goal.invariant-loop-record
invariant-loop-record l = l.ids.items ≡ map variable_id (take l.record-index l.records)
