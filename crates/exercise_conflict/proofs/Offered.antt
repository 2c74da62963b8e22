-- What crates above may cite.
pub use Rattle.exercise_conflict.proofs.Standing.{blocks_within, clash_stands, conflict_stands, refusal_stands}
