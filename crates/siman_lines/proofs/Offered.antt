-- The lemmas on stations at their lines that this crate offers to the crates above; its other pages of proofs are its own.
pub use Rattle.siman_lines.proofs.AtLines.{recorded_at_lines}
pub use Rattle.siman_lines.proofs.Rounds.{each_as, each_more, follows_none, follows_one, follows_then, stands_at}
pub use Rattle.siman_lines.proofs.Stations.{beginning, started, fresh}
pub use Rattle.siman_lines.proofs.Coming.{all_within, deeds_kept}
pub use Rattle.siman_lines.proofs.Writings.{written_one, written_none, written_all, setting_none, setting_all}
pub use Rattle.siman_lines.proofs.Keeping.{entries_stamped, keeps_nothing}
