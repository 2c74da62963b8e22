-- The lemmas on answers and logs that this crate offers to the crates above; its other pages of proofs are its own.
pub use Rattle.siman_application.proofs.Answered.{is_answer}
pub use Rattle.siman_application.proofs.Replies.{Each, reply_answers, reply_in_range, reply_is_short}
pub use Rattle.siman_application.proofs.Meant.{taken_in_range}
pub use Rattle.siman_application.proofs.Turns.{read_meant}
pub use Rattle.siman_application.proofs.Logs.{answers_stand, states_stand}
