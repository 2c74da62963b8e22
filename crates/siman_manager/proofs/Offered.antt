-- The lemmas on orders that this crate offers to the crates above; its other pages of proofs are its own.
pub use Rattle.siman_manager.proofs.Induction.{counts, agrees, both_true, came_same, made_as, ticked_same}
pub use Rattle.siman_manager.proofs.Sends.{unmade}
