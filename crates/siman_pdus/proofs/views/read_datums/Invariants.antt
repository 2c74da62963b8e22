use Rattle.std.proofs.Common.{◌≡◌, ◌++◌, map}
use Rattle.dis_records.specs.Datum.{canonical}
use Rattle.siman_pdus.proofs.views.read_datums.Given as goal

-- the datums so far, and those of what is left, are those of all
abbrev pub invariant-loop-record : goal.invariant-loop-record
invariant-loop-record l = l.variable.items ++ map canonical l.record-iterator ≡ map canonical l.initial.record-iterator
