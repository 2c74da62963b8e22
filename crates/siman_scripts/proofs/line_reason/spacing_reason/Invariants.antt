use Rattle.std.proofs.Common.{◌≡◌, ◌+◌, ◌≤◌, length}
use Rattle.siman_scripts.specs.LineReason.{spacing_from, spacing_reason}
use Rattle.siman_scripts.proofs.line_reason.spacing_reason.Given as goal

-- the bytes that are left tell of the line what all tell
abbrev pub invariant-loop-rest : goal.invariant-loop-rest
invariant-loop-rest l = record {
  told : spacing_from l.before l.column l.rest ≡ spacing_reason l.line;
  within : l.column + length l.rest ≤ length l.line + 1;
}

abbrev pub decreases-loop-rest : goal.decreases-loop-rest
decreases-loop-rest l = length l.rest
