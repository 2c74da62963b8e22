-- Causes that the log of a station has against an entry stand, whatever else happened.
use Rattle.std.proofs.Common.{◌≡◌, ◌≢◌, ℕ, [], ◌∷◌, Bool, Some, None, true, false, refl, sym, ap, ◌∙◌}
use Rattle.std.specs.Prelude.{slice_get, is_some, not, option_and_then, if◌then◌else◌}
use Rattle.std.proofs.lemmas.Option.{same_Some}
use Rattle.dis_records.specs.declared.entity_state.EntityState.{EntityState}
use Rattle.exercise_model.specs.declared.cause.Cause.{Cause}
use Rattle.exercise_model.specs.declared.cause.Cause.TheVariants.{NeverSent, WrongState}
use Rattle.exercise_model.specs.Entry.{Entry}
use Rattle.exercise_model.specs.Recording.{PlainRecording}
use Rattle.exercise_model.specs.History.{Event, Send, Get, Tell, History, event_of, station_of, log_at, log_of, station_at}
use Rattle.exercise_model.specs.Meaning.{meaning}
use Rattle.exercise_model.specs.Place.{log_before}
use Rattle.exercise_model.specs.State.{state_after}
use Rattle.exercise_model.specs.Cause.{first_cause, same_state, tell_rows, send_cause, get_cause, cause_of, IsAllowed}
use Rattle.exercise_model.specs.Run.{Explains}
use Rattle.exercise_findings.specs.Tables.{event_own_cause, own_cause}
use Rattle.exercise_check.specs.Judging.{is_never_sent}
use Rattle.exercise_conflict.specs.Also.{unless_unsent, standing_cause}
use Rattle.exercise_conflict.specs.Final.{is_final}
use Rattle.exercise_conflict.specs.Wider.{AddsTo, anything, sends_no_able, IsWider, HasFurtherSends}
use Rattle.exercise_conflict.proofs.Additions.{adds_itself, state_same}
use Rattle.exercise_conflict.proofs.Rows.{send_stays, final_stays, got_stays}
use Rattle.exercise_conflict.proofs.Places.{later_place, own_here}

-- the entry that a cause is against
pub record Accused (r : PlainRecording) (j : ℕ) (cause : Cause) : Type 0 where
  pub entry : Entry
  pub at : slice_get r.entries j ≡ Some entry
  pub is : event_own_cause r j (event_of entry) ≡ Some cause

pub accused : (r : PlainRecording) (j : ℕ) (cause : Cause) → own_cause r j ≡ Some cause → Accused r j cause
unfolding own_cause
accused r j cause is =
    elim (slice_get r.entries j) as (λ o. slice_get r.entries j ≡ o → option_and_then (λ e. event_own_cause r j (event_of e)) o ≡ Some cause → Accused r j cause) [
      | None ↦ λ _ e. absurd (cc)
      | Some e ↦ λ at is. record { entry = e; at = at; is = is }
    ] refl is

-- ---- further sends

-- what is sent, or told, or came from a stranger, has its cause after further sends
event_stays : (r : PlainRecording) (j : ℕ) (v : Event) (before : History) (cause : Cause)
    → AddsTo (sends_no_able r.setting.exercise) (log_before r (station_of v) j) (log_at (station_of v) before)
    → event_own_cause r j v ≡ Some cause → cause ≢ NeverSent → IsAllowed r.setting before v → ⊥
unfolding cause_of
event_stays r j (Send s b) before cause adds is other allowed =
    elim (meaning r.setting.exercise b) as (λ o. option_and_then (send_cause r.setting.exercise (station_at r s) (log_before r s j)) o ≡ Some cause
    → option_and_then (send_cause r.setting.exercise (station_at r s) (log_at s before)) o ≡ None → ⊥) [
      | None ↦ λ is _. absurd (cc)
      | Some p ↦ λ is allowed. send_stays r.setting.exercise (station_at r s) p (log_before r s j) (log_at s before) cause adds is allowed
    ] is allowed
event_stays r j (Get s b) before cause adds is other allowed =
    elim (meaning r.setting.exercise b) as (λ o. option_and_then (get_cause r.setting [] b) o ≡ Some cause
    → option_and_then (get_cause r.setting before b) o ≡ None → ⊥) [
      | None ↦ λ is _. absurd (cc)
      | Some p ↦ λ is allowed. got_stays r.setting [] before b p cause is other allowed
    ] is allowed
event_stays r j (Tell s e y) before cause adds is other allowed =
    absurd (cc (sym is ∙ ap (λ z. first_cause (tell_rows y z)) (state_same r.setting.exercise (station_at r s) e (log_before r s j) (log_at s before) adds) ∙ allowed))

-- AN OWN CAUSE STAYS WHERE FURTHER SENDS ARE ADDED
pub own_stays : (r wide : PlainRecording) (j : ℕ) (cause : Cause) (h : History) → HasFurtherSends r wide → own_cause r j ≡ Some cause
    → cause ≢ NeverSent → Explains wide h → ⊥
own_stays r wide j cause h further is other explains =
    let at = accused r j cause is in
    let place = later_place r wide (sends_no_able r.setting.exercise) h j (event_of at.entry) further.setting further.logs explains (own_here r j at.entry at.at) in
    event_stays r j (event_of at.entry) place.before cause place.adds at.is other place.allowed

-- AN OWN CAUSE STANDS
pub own_stands : (r : PlainRecording) (j : ℕ) (cause : Cause) (h : History) → own_cause r j ≡ Some cause → cause ≢ NeverSent → Explains r h → ⊥
own_stands r j cause h is other explains =
    own_stays r r j cause h (record { setting = refl; logs = λ s. adds_itself (sends_no_able r.setting.exercise) (log_of r s) }) is other explains

-- ---- whatever is added

unsent_no_final : (cause : Cause) → is_final cause ≡ true → cause ≢ NeverSent
unsent_no_final cause final same = absurd (cc (sym (ap is_final same) ∙ final))

told_no_final : (y z : EntityState) (cause : Cause) → first_cause (tell_rows y z) ≡ Some cause → is_final cause ≡ true → ⊥
told_no_final y z cause is final =
    elim (same_state y z) as (λ t. first_cause ((not t, WrongState) ∷ []) ≡ Some cause → ⊥) [
      | true ↦ λ is. absurd (cc)
      | false ↦ λ is. absurd (cc (ap is_final (same_Some WrongState cause is) ∙ final))
    ] is

-- a final cause stays, whatever else happened
final_event : (r : PlainRecording) (may : Event → Bool) (j : ℕ) (v : Event) (before : History) (cause : Cause)
    → AddsTo may (log_before r (station_of v) j) (log_at (station_of v) before)
    → event_own_cause r j v ≡ Some cause → is_final cause ≡ true → IsAllowed r.setting before v → ⊥
unfolding cause_of
final_event r may j (Send s b) before cause adds is final allowed =
    elim (meaning r.setting.exercise b) as (λ o. option_and_then (send_cause r.setting.exercise (station_at r s) (log_before r s j)) o ≡ Some cause
    → option_and_then (send_cause r.setting.exercise (station_at r s) (log_at s before)) o ≡ None → ⊥) [
      | None ↦ λ is _. absurd (cc)
      | Some p ↦ λ is allowed. final_stays may r.setting.exercise (station_at r s) p (log_before r s j) (log_at s before) cause adds is final allowed
    ] is allowed
final_event r may j (Get s b) before cause adds is final allowed =
    elim (meaning r.setting.exercise b) as (λ o. option_and_then (get_cause r.setting [] b) o ≡ Some cause
    → option_and_then (get_cause r.setting before b) o ≡ None → ⊥) [
      | None ↦ λ is _. absurd (cc)
      | Some p ↦ λ is allowed. got_stays r.setting [] before b p cause is (unsent_no_final cause final) allowed
    ] is allowed
final_event r may j (Tell s e y) before cause adds is final allowed =
    told_no_final y (state_after r.setting.exercise (station_at r s) (log_before r s j) e) cause is final

-- A FINAL CAUSE STAYS WHATEVER IS ADDED
pub final_holds : (r wide : PlainRecording) (j : ℕ) (cause : Cause) (h : History) → IsWider r wide → own_cause r j ≡ Some cause
    → is_final cause ≡ true → Explains wide h → ⊥
final_holds r wide j cause h wider is final explains =
    let at = accused r j cause is in
    let place = later_place r wide anything h j (event_of at.entry) wider.setting wider.logs explains (own_here r j at.entry at.at) in
    final_event r anything j (event_of at.entry) place.before cause place.adds at.is final place.allowed

-- ---- standing causes

-- where a standing cause is told, no run explains a recording that has further sends alone
pub standing_stays : (r wide : PlainRecording) (j : ℕ) (h : History) → HasFurtherSends r wide → is_some (standing_cause r j) ≡ true → Explains wide h → ⊥
unfolding standing_cause
standing_stays r wide j h further some explains =
    elim (own_cause r j) as (λ o. own_cause r j ≡ o → is_some (option_and_then unless_unsent o) ≡ true → ⊥) [
      | None ↦ λ _ e. absurd (cc)
      | Some cause ↦ λ own. elim (is_never_sent cause) as (λ t. is_never_sent cause ≡ t → is_some (if t then None else Some cause) ≡ true → ⊥) [
        | true ↦ λ _ e. absurd (cc)
        | false ↦ λ apart _. own_stays r wide j cause h further own (λ same. absurd (cc (sym (ap is_never_sent same) ∙ apart))) explains
      ] refl
    ] refl some

-- nor the recording itself
pub standing_stands : (r : PlainRecording) (j : ℕ) (h : History) → is_some (standing_cause r j) ≡ true → Explains r h → ⊥
standing_stands r j h some explains =
    standing_stays r r j h (record { setting = refl; logs = λ s. adds_itself (sends_no_able r.setting.exercise) (log_of r s) }) some explains
