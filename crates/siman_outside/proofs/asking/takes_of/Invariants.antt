-- The rows that are left have what the table has.
use Rattle.std.proofs.Common.{◌≡◌, length, map}
use Rattle.siman_outside.specs.Words.{takes_of}
use Rattle.siman_outside.proofs.asking.takes_of.Given as goal

abbrev pub invariant-loop-table : goal.invariant-loop-table
invariant-loop-table l = takes_of (map (λ row. (row.name.now, row.takes)) l.table) l.name ≡ takes_of (map (λ row. (row.name.now, row.takes)) l.initial.table) l.name

abbrev pub decreases-loop-table : goal.decreases-loop-table
decreases-loop-table l = length l.table
