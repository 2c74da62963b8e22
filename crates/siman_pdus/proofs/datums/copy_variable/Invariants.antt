use Rattle.std.proofs.Common.{◌≡◌, take}
use Rattle.siman_pdus.proofs.datums.copy_variable.Given as goal

-- those so far are copied
abbrev pub invariant-loop-datum : goal.invariant-loop-datum
invariant-loop-datum l = l.copied.items ≡ take l.datum-index l.datums
