-- The lemmas on good steps and courses that this crate offers to the crates above; its other pages of proofs are its own.
pub use Rattle.exercise_check.proofs.Conversions.{good_alike, refused_alike}
pub use Rattle.exercise_check.proofs.Courses.{from_entry, next_lengths, own_entry, sender_tells}
pub use Rattle.exercise_check.proofs.Explained.{good_covers, good_explains, good_few, good_sound}
pub use Rattle.exercise_check.proofs.FirstSenders.{source_first}
pub use Rattle.exercise_check.proofs.Goodness.{good_logs, good_step}
pub use Rattle.exercise_check.proofs.Judged.{Unsent, unsent, received_else}
pub use Rattle.exercise_check.proofs.Moved.{replaced}
pub use Rattle.exercise_check.proofs.Sequences.{length-steps-more, length-steps-none, sequence_of-none, sequence_of-snoc}
pub use Rattle.exercise_findings.proofs.Offered.{entry_within}
