-- The lemmas on findings that this crate offers to the crates above; its other pages of proofs are its own.
pub use Rattle.exercise_findings.proofs.Columns.{on_err}
pub use Rattle.exercise_findings.proofs.Keyed.{no_first, same_first}
pub use Rattle.exercise_findings.proofs.Looks.{below, cause_here, pair_earlier, pair_here}
pub use Rattle.exercise_findings.proofs.Recorded.{no_sender, recorded_sender, sender_here}
pub use Rattle.exercise_findings.proofs.Sources.{bytes_same, entry_within, sends_there, source_here}
