use Rattle.std.proofs.Common.{◌≡◌, drop}
use Rattle.dis_records.specs.declared.header.TheConstants.{VERSIONS}
use Rattle.dis_records.specs.Header.{has_number}
use Rattle.dis_records.proofs.header.Version.from_code.Given as goal

-- the number is in the rows that are left where it is in the table
abbrev pub invariant-loop-row : goal.invariant-loop-row
invariant-loop-row l = has_number (drop l.row-index VERSIONS) l.code ≡ has_number VERSIONS l.code
