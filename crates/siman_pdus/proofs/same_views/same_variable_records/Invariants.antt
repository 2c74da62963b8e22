use Rattle.std.proofs.Common.{◌≡◌, map}
use Rattle.std.specs.Cmp.Lexicographic.{pointwise}
use Rattle.dis_records.specs.Datum.{canonical, same_datum}
use Rattle.siman_pdus.proofs.same_views.same_variable_records.Given as goal

-- what is left is the same exactly where all is
abbrev pub invariant-loop-record : goal.invariant-loop-record
invariant-loop-record l = pointwise same_datum (map canonical l.fn.left) (map canonical l.fn.right) ≡ pointwise same_datum (map canonical l.record-iterator) (map canonical l.right)
