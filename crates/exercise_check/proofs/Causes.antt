-- No step has the cause of a wrong count.
use Rattle.std.proofs.Common.{◌≡◌, ◌≢◌, ℕ, List, [], ◌∷◌, cond, Option, Some, None, Bool, true, false, refl, sym, ap, ◌∙◌}
use Rattle.std.specs.Prelude.{slice_get, not, option_and_then, nat_eq}
use Rattle.std.specs.Option.{option_map_or, option_or}
use Rattle.std.specs.List.{list_all}
use Rattle.std.proofs.lemmas.Bool.{and_parts}
use Rattle.siman_pdus.specs.declared.pdu.Pdu.{Pdu}
use Rattle.exercise_model.specs.declared.cause.Cause.{Cause}
use Rattle.exercise_model.specs.declared.cause.Cause.TheVariants.{CountDiffers, NoSuchRecord, OutOfOrder, BadLink, WrongSender, ReusedIdentifier, NoRequest, WrongAnswer, ChangedAnswer, Impossible, Stranger, NeverSent, WrongState}
use Rattle.exercise_model.specs.Station.{StationData}
use Rattle.exercise_model.specs.Recording.{PlainRecording}
use Rattle.exercise_model.specs.History.{Event, Send, Get, Tell, History, event_of, log_at}
use Rattle.exercise_model.specs.Setting.{SettingData, station_in}
use Rattle.exercise_model.specs.Meaning.{meaning}
use Rattle.exercise_model.specs.Cause.{first_cause, send_rows, send_cause, get_rows, get_cause, tell_rows, cause_of}
use Rattle.exercise_model.specs.State.{state_after}
use Rattle.exercise_check.specs.declared.certificate.Step.{Step}
use Rattle.exercise_check.specs.Sequence.{sequence_of, is_next, link_of, link_number}
use Rattle.exercise_check.specs.Goodness.{link_cause, event_cause, step_cause}

is_count : Cause → Bool
is_count CountDiffers = true
is_count NoSuchRecord = false
is_count OutOfOrder = false
is_count BadLink = false
is_count WrongSender = false
is_count ReusedIdentifier = false
is_count NoRequest = false
is_count WrongAnswer = false
is_count ChangedAnswer = false
is_count Impossible = false
is_count Stranger = false
is_count NeverSent = false
is_count WrongState = false

-- it is another cause, if there is one
abbrev Other : Option Cause → Type 0
Other o = option_map_or is_count o false ≡ false

first_other : (rows : List (Bool × Cause)) → list_all (λ (row : Bool × Cause). not (is_count row.1)) rows ≡ true → Other (first_cause rows)
first_other [] h = refl
first_other (row ∷ rows) h =
    let parts = and_parts (not (is_count row.1)) (list_all (λ (row : Bool × Cause). not (is_count row.1)) rows) h in
    elim row.0 as (λ b. Other (cond b (Some row.1) (first_cause rows))) [
      | true ↦ other row.1 parts.0
      | false ↦ first_other rows parts.1
    ]
  where
    other : (c : Cause) → not (is_count c) ≡ true → is_count c ≡ false
    other c h = elim (is_count c) as (λ b. not b ≡ true → b ≡ false) [ true ↦ λ e. sym e | false ↦ λ _. refl ] h

send_other : (x : ℕ) (o : StationData) (log : History) (p : Pdu) → Other (send_cause x o log p)
unfolding send_cause is_count
send_other x o log p = first_other (send_rows x o log p) refl

get_other : (w : SettingData) (h : History) (b : List ℕ) (p : Pdu) → Other (get_cause w h b p)
unfolding get_cause is_count
get_other w h b p = first_other (get_rows w h b p) refl

then_other : (f : Pdu → Option Cause) → ((p : Pdu) → Other (f p)) → (o : Option Pdu) → Other (option_and_then f o)
then_other f h None = refl
then_other f h (Some p) = h p

event_other : (w : SettingData) (h : History) (v : Event) → Other (cause_of w h v)
unfolding cause_of is_count
event_other w h (Send s b) =
    then_other (send_cause w.exercise (station_in w s) (log_at s h)) (send_other w.exercise (station_in w s) (log_at s h)) (meaning w.exercise b)
event_other w h (Get s b) = then_other (get_cause w h b) (get_other w h b) (meaning w.exercise b)
event_other w h (Tell s e y) = first_other (tell_rows y (state_after w.exercise (station_in w s) (log_at s h) e)) refl

or_other : (o q : Option Cause) → Other o → Other q → Other (option_or o q)
or_other None q h k = k
or_other (Some c) q h k = h

link_other : (given : ℕ) (link : Option ℕ) → Other (link_cause given link)
unfolding is_count
link_other given link = elim (nat_eq given (link_number link)) as (λ b. Other (cond b None (Some BadLink))) [ true ↦ refl | false ↦ refl ]

step_other : (r : PlainRecording) (before : List Step) (step : Step) → Other (step_cause r before step)
unfolding step_cause is_count
step_other r before step =
    elim (slice_get r.entries step.place) as (λ o. Other (option_map_or (λ e. event_cause r before step (event_of e)) o (Some NoSuchRecord))) [
      | None ↦ refl
      | Some e ↦ elim (is_next r before step.place (event_of e)) as
          (λ b. Other
          (cond b (option_or (cause_of r.setting (sequence_of r before) (event_of e)) (link_cause step.link (link_of r before step.place (event_of e))))
          (Some OutOfOrder))) [
            | true ↦ or_other _ _ (event_other r.setting (sequence_of r before) (event_of e)) (link_other step.link (link_of r before step.place (event_of e)))
            | false ↦ refl
          ]
    ]

-- a step's cause is never that of a wrong count
pub never_count : (r : PlainRecording) (before : List Step) (step : Step) (cause : Cause) → step_cause r before step ≡ Some cause
    → cause ≢ CountDiffers
unfolding is_count
never_count r before step cause here same =
    absurd (cc (sym (ap (λ o. option_map_or is_count o false) (here ∙ ap Some same)) ∙ step_other r before step))
