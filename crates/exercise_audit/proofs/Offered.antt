-- The lemma on blocked lists that this crate offers to the commands; its other pages of proofs are its own.
pub use Rattle.exercise_audit.proofs.Conversions.{blocked_alike}
