use Rattle.std.proofs.Common.{◌≡◌, take, map}
use Rattle.siman_application.specs.Records.{fixed_id}
use Rattle.siman_application.proofs.records.ids_of_fixed.Given as goal

abbrev pub invariant-loop-record : goal.invariant-loop-record
invariant-loop-record l = l.ids.items ≡ map fixed_id (take l.record-index l.records)
