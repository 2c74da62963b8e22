-- The first bad step of a certificate has the cause that the log of its station has against its entry.
use Rattle.std.proofs.Common.{◌≡◌, ℕ, ◌<◌, List, length, take, cond, Bool, true, false, Option, Some, None, refl, sym, ap, ◌∙◌, subst, arith}
use Rattle.std.specs.Prelude.{slice_get, slice_index_or, nat_eq, option_and_then, if◌then◌else◌}
use Rattle.std.specs.Option.{option_map_or, option_or}
use Rattle.std.proofs.lemmas.List.{get_or-take, length-take-le, take-take}
use Rattle.std.proofs.lemmas.Option.{same_Some}
use Rattle.exercise_model.specs.declared.cause.Cause.{Cause}
use Rattle.exercise_model.specs.declared.cause.Cause.TheVariants.{NoSuchRecord, OutOfOrder, BadLink}
use Rattle.exercise_model.specs.Entry.{Entry}
use Rattle.exercise_model.specs.Recording.{PlainRecording}
use Rattle.exercise_model.specs.History.{Event, event_of, station_of, log_at}
use Rattle.exercise_model.specs.Cause.{cause_of}
use Rattle.exercise_model.specs.Place.{log_before}
use Rattle.exercise_model.proofs.Offered.{log_before-beginning, same_beginnings}
use Rattle.exercise_findings.specs.Tables.{event_own_cause, own_cause}
use Rattle.exercise_check.specs.declared.certificate.Step.{Step}
use Rattle.exercise_check.specs.Sequence.{sequence_of, is_next, link_of}
use Rattle.exercise_check.specs.Goodness.{link_cause, event_cause, step_cause, no_step, GoodBelow, IsFirstBad, IsReady}
use Rattle.exercise_check.proofs.Offered.{good_logs, next_lengths}
use Rattle.exercise_conflict.specs.StepClash.{is_of_event}
use Rattle.exercise_conflict.proofs.Blocks.{event_cause_own}

-- a link has no cause of an event
link_silent : (given : ℕ) (link : Option ℕ) (cause : Cause) → link_cause given link ≡ Some cause → is_of_event cause ≡ true → ⊥
link_silent given link cause is event = at (nat_eq given _) is
  where
    at : (b : Bool) → (if b then None else Some BadLink) ≡ Some cause → ⊥
    at true is = absurd (cc)
    at false is = absurd (cc (ap is_of_event (same_Some BadLink cause is) ∙ event))

-- what is known of the entry of a step that has the cause of an event
record Accused (r : PlainRecording) (before : List Step) (step : Step) (cause : Cause) : Type 0 where
  pub entry : Entry
  pub at : slice_get r.entries step.place ≡ Some entry
  pub next : is_next r before step.place (event_of entry) ≡ true
  pub stands : cause_of r.setting (sequence_of r before) (event_of entry) ≡ Some cause

accused : (r : PlainRecording) (before : List Step) (step : Step) (cause : Cause) → step_cause r before step ≡ Some cause → is_of_event cause ≡ true
    → Accused r before step cause
unfolding step_cause
accused r before step cause is event =
    elim (slice_get r.entries step.place) as (λ o. slice_get r.entries step.place ≡ o
    → option_map_or (λ e. event_cause r before step (event_of e)) o (Some NoSuchRecord) ≡ Some cause → Accused r before step cause) [
      | None ↦ λ _ e. absurd (cc (ap is_of_event (same_Some NoSuchRecord cause e) ∙ event))
      | Some e ↦ λ at is. of_entry e at is
    ] refl is
  where
    of_entry : (e : Entry) → slice_get r.entries step.place ≡ Some e → event_cause r before step (event_of e) ≡ Some cause → Accused r before step cause
    of_entry e at is =
        elim (is_next r before step.place (event_of e)) as (λ b. is_next r before step.place (event_of e) ≡ b
        → cond b (option_or (cause_of r.setting (sequence_of r before) (event_of e)) (link_cause step.link (link_of r before step.place (event_of e)))) (Some OutOfOrder) ≡ Some cause
        → Accused r before step cause) [
          | false ↦ λ _ e. absurd (cc (ap is_of_event (same_Some OutOfOrder cause e) ∙ event))
          | true ↦ λ next is. elim (cause_of r.setting (sequence_of r before) (event_of e)) as
              (λ o. cause_of r.setting (sequence_of r before) (event_of e) ≡ o
              → option_or o (link_cause step.link (link_of r before step.place (event_of e))) ≡ Some cause → Accused r before step cause) [
                | None ↦ λ _ is. absurd (link_silent step.link (link_of r before step.place (event_of e)) cause is event)
                | Some c ↦ λ here is. record { entry = e; at = at; next = next; stands = here ∙ is }
              ] refl is
        ] refl is

-- good steps before one are good by themselves
good_before : (r : PlainRecording) (steps : List Step) (k : ℕ) → k < length steps → GoodBelow r steps k → GoodBelow r (take k steps) (length (take k steps))
good_before r steps k within good j below =
    let less : j < k = omega (arith, below, length-take-le k steps (omega (arith, within))) in
    ap (λ xs. step_cause r xs (slice_index_or (take k steps) j no_step)) (take-take j k steps (omega (arith, less)))
    ∙ ap (step_cause r (take j steps)) (get_or-take k steps j no_step less) ∙ good j less

-- THE CAUSE OF A BAD STEP IS THE OWN CAUSE OF ITS ENTRY
pub bad_own : (r : PlainRecording) (steps : List Step) (k : ℕ) (cause : Cause) → IsFirstBad r steps k cause → is_of_event cause ≡ true
    → own_cause r (slice_index_or steps k no_step).place ≡ Some cause
unfolding own_cause
bad_own r steps k cause bad event =
    let step : Step = slice_index_or steps k no_step in
    let before : List Step = take k steps in
    let of = accused r before step cause bad.here event in
    let v : Event = event_of of.entry in
    let good = good_before r steps k bad.within bad.good in
    let logs : IsReady r before step.place v =
    same_beginnings (log_at (station_of v) (sequence_of r before)) (log_before r (station_of v) step.place) _ (good_logs r before good (station_of v))
    (log_before-beginning r (station_of v) step.place) (next_lengths r before step.place v of.next) in
    ap (option_and_then (λ e. event_own_cause r step.place (event_of e))) of.at
    ∙ event_cause_own r (sequence_of r before) step.place v cause logs of.stands
