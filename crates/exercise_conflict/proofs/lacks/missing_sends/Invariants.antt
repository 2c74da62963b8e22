use Rattle.std.proofs.Common.{◌≡◌}
use Rattle.std.specs.Prelude.{IfSome, length}
use Rattle.exercise_conflict.specs.Lacks.{AreRequestKeys, AreReceipts, missing_sends_below}
use Rattle.exercise_conflict.proofs.lacks.missing_sends.Given as goal

-- The sends that are missing by the entries so far were found, and what these receive is kept.
abbrev pub invariant-loop-entry : goal.invariant-loop-entry
invariant-loop-entry g l = record {
  lacks : l.lacks.items ≡ missing_sends_below l.findings l.entry;
  asks : IfSome l.asks (AreRequestKeys l.findings (length l.findings.entries));
  receipts : AreReceipts l.findings l.entry l.receipts;
}
