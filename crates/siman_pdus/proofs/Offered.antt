-- The lemmas on PDUs that this crate offers to the crates above; its other pages of proofs are its own.
pub use Rattle.siman_pdus.proofs.Carried.{text_is_read, text_is_carried, text_is_bytes, zero_is_carried}
pub use Rattle.siman_pdus.proofs.ReadRanges.{read_in_range}
pub use Rattle.siman_pdus.proofs.Same.{order_decides}
