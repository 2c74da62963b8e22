use Rattle.std.proofs.Common.{◌≤◌, length}
use Rattle.exercise_review.specs.Register.{AreRegistered}
use Rattle.exercise_review.proofs.entry_chains.entry_chains.Given as goal

-- The entries so far are kept.
abbrev pub invariant-loop-entry : goal.invariant-loop-entry
invariant-loop-entry g l = record {
  few : length l.ways.keys.keys ≤ l.entry;
  kept : AreRegistered (g.K.EntryKeys.keys l.keying) l.entry l.ways;
}
