-- The lemmas on files and what is said of them that this crate offers to the crates above; its other pages of proofs are its own.
pub use Rattle.siman_outside.proofs.Openings.{adds_none, adds_then, all_one, all_two, did_nothing, did_so, did_then, made_then, made_known, opened_sparing, makes_unopened, makes_none, makes_file}
pub use Rattle.siman_outside.proofs.Inputs.{Said, at_fault, of_any, of_recording, over, unfetched_recording}
pub use Rattle.siman_outside.proofs.Settles.{settles_behind, settles_unanswered}
pub use Rattle.siman_outside.proofs.Searches.{unsearched, uncertified, unread}
pub use Rattle.siman_outside.proofs.Verdicts.{not_good}
pub use Rattle.siman_outside.proofs.Shown.{gives_passed, prints_passed}
pub use Rattle.siman_outside.proofs.Passings.{fails-longer, fails-same, held-more, loop-fails, loop-none, loop-passes, passed-then, passed-whole, passes-last, passes-short, passes-then}
