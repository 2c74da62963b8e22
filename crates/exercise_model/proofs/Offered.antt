-- The lemmas on logs, histories and runs that this crate offers to the crates above; its other pages of proofs are its own.
pub use Rattle.exercise_model.proofs.Accounts.{account_steps, changes-all, others-more, pairs-all, states-all, values_below-more}
pub use Rattle.exercise_model.proofs.Beginnings.{beginning_length, log_at-append, log_before-beginning, log_before-next, same_beginnings}
pub use Rattle.exercise_model.proofs.Carrying.{able_is_answer, carried_out_where_allowed}
pub use Rattle.exercise_model.proofs.Changes.{change_steps, log_before-all, present_below-all}
pub use Rattle.exercise_model.proofs.Checks.{all_at, all_pushed, holds_at}
pub use Rattle.exercise_model.proofs.Confluence.{get_where_sent, recorded_heard, same_causes, same_prefixes, stuck_explains}
pub use Rattle.exercise_model.proofs.Conversions.{read_alike, same_when_closed, stuck_alike, explained_alike}
pub use Rattle.exercise_model.proofs.Counting.{all_events, entry_station, fewer_events, length-past, no_log, past_within, same_count, within}
pub use Rattle.exercise_model.proofs.Distinct.{own_rising}
pub use Rattle.exercise_model.proofs.FirstAnswers.{able_changes, first_able_changes, no_change_keeps, others_keep, received_keeps, told_keeps}
pub use Rattle.exercise_model.proofs.Heard.{outside_is_stranger, unsent_is_never_sent}
pub use Rattle.exercise_model.proofs.Knowledge.{entries_known, in_order}
pub use Rattle.exercise_model.proofs.Lengths.{length-entries-more, longer, passes}
pub use Rattle.exercise_model.proofs.Onward.{log_before-more, log_before-none, log_steps, past-append, past-snoc}
pub use Rattle.exercise_model.proofs.Parted.{part_explained}
pub use Rattle.exercise_model.proofs.Sentences.{explained_holds, had_where_allowed, own_address, sent_rows}
pub use Rattle.exercise_model.proofs.Places.{IsFirst, first_found}
pub use Rattle.exercise_model.proofs.Standing.{always_as_said}
pub use Rattle.exercise_model.proofs.Wholes.{any_at, contains_on, first_is, sender_found, taken_entry}
