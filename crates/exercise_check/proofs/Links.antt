-- The link of an answer after good steps.
use Rattle.std.proofs.Common.{◌≡◌, ℕ, List, length, cond, Some, None, true, sym, ap, ◌∙◌, subst}
use Rattle.std.specs.Prelude.{option_and_then}
use Rattle.siman_pdus.specs.declared.pdu.Pdu.{Pdu}
use Rattle.exercise_model.specs.Entry.{Entry}
use Rattle.exercise_model.specs.Recording.{PlainRecording}
use Rattle.exercise_model.specs.History.{Event, Send, event_of, station_of, log_at}
use Rattle.exercise_model.specs.Meaning.{meaning}
use Rattle.exercise_model.specs.Exchange.{is_answer_body}
use Rattle.exercise_model.specs.Cause.{cause_of}
use Rattle.exercise_model.specs.Place.{log_before, entry_taken_up}
use Rattle.exercise_model.specs.Account.{pair_of_sent}
use Rattle.exercise_model.specs.Pairing.{IsTakenUp}
use Rattle.exercise_model.proofs.Offered.{had_where_allowed, taken_entry}
use Rattle.exercise_check.specs.declared.certificate.Step.{Step}
use Rattle.exercise_check.specs.Sequence.{sequence_of, link_of, link_number}
use Rattle.exercise_check.specs.Goodness.{IsGoodStep, GoodBelow}
use Rattle.exercise_check.proofs.Goodness.{is_ready}

-- what an answer is linked with
answer_link : (r : PlainRecording) (before : List Step) (place s : ℕ) (b : List ℕ) (p : Pdu) → meaning r.setting.exercise b ≡ Some p
    → is_answer_body p.body ≡ true → link_of r before place (Send s b) ≡ entry_taken_up r s p place
unfolding link_of
answer_link r before place s b p meant answer =
    ap (option_and_then (pair_of_sent r s place)) meant ∙ ap (λ t. cond t (entry_taken_up r s p place) None) answer

pub good_link : (r : PlainRecording) (before : List Step) (step : Step) (e : Entry) (s : ℕ) (b : List ℕ) (p : Pdu)
    → GoodBelow r before (length before) → IsGoodStep r before step e → event_of e ≡ Send s b
    → meaning r.setting.exercise b ≡ Some p → is_answer_body p.body ≡ true → IsTakenUp r (sequence_of r before) s p step.link
good_link r before step e s b p good here is meant answer =
    let h = sequence_of r before in
    let allowed = subst (λ v. cause_of r.setting h v ≡ None) is here.allowed in
    let lengths = subst (λ (v : Event). length (log_at (station_of v) h) ≡ length (log_before r (station_of v) step.place)) is here.next in
    let had = had_where_allowed r h s b p allowed meant answer in
    let taken = taken_entry r h s step.place p had.request (is_ready r before step.place (Send s b) good lengths) had.first in
    let link : step.link ≡ taken.0 = here.link ∙ ap (λ v. link_number (link_of r before step.place v)) is ∙ ap link_number
    (answer_link r before step.place s b p meant answer ∙ taken.1) in
    subst (IsTakenUp r h s p) (sym link) taken.2
