-- The lemmas on posts that this crate offers to the crates above; its other pages of proofs are its own.
pub use Rattle.siman_operator.proofs.Going.{goes_none, goes_then}
