-- What a run that explains a recording says of each station, the station's own log says.
use Rattle.std.proofs.Common.{◌≡◌, ℕ, [], ◌∷◌, ◌++◌, sym, ap, ◌∙◌, append_assoc}
use Rattle.siman_pdus.specs.declared.pdu.Pdu.{Pdu}
use Rattle.exercise_model.specs.Recording.{PlainRecording}
use Rattle.exercise_model.specs.History.{Event, History, station_of, log_at, log_of, station_at}
use Rattle.exercise_model.specs.Exchange.{request_taken_up}
use Rattle.exercise_model.specs.Change.{is_change}
use Rattle.exercise_model.specs.State.{state_after}
use Rattle.exercise_model.specs.Place.{log_before}
use Rattle.exercise_model.specs.Run.{Explains, Represents, Contains}
use Rattle.exercise_model.proofs.Beginnings.{same_beginnings, log_before-beginning, log_at-append}

-- what happened at the station before an event is what stands before its entry
pub same_logs : (r : PlainRecording) (h before : History) (v : Event) (i : ℕ) → Explains r h → Contains h before v → Represents r i before v
    → log_at (station_of v) before ≡ log_before r (station_of v) i
same_logs r h before v i explains within stands =
    let s : ℕ = station_of v in
    let parts : log_at s (within.0 ++ v ∷ []) ++ log_at s before ≡ log_of r s =
    sym (log_at-append s (within.0 ++ v ∷ []) before) ∙ ap (log_at s) (append_assoc within.0 (v ∷ []) before ∙ within.1) ∙ explains.logs s in
    same_beginnings _ _ (log_of r s) (log_at s (within.0 ++ v ∷ []), parts) (log_before-beginning r s i) stands.place

pub same_requests : (r : PlainRecording) (h before : History) (v : Event) (i : ℕ) → Explains r h → Contains h before v → Represents r i before v
    → (p : Pdu)
    → request_taken_up r.setting.exercise (station_at r (station_of v)).address p (log_at (station_of v) before) ≡ request_taken_up r.setting.exercise
    (station_at r (station_of v)).address p (log_before r (station_of v) i)
same_requests r h before v i explains within stands p =
    ap (request_taken_up r.setting.exercise (station_at r (station_of v)).address p) (same_logs r h before v i explains within stands)

pub same_changes : (r : PlainRecording) (h before : History) (v : Event) (i : ℕ) → Explains r h → Contains h before v → Represents r i before v
    → (p : Pdu) → is_change r.setting.exercise p (log_at (station_of v) before) ≡ is_change r.setting.exercise p (log_before r (station_of v) i)
same_changes r h before v i explains within stands p = ap (is_change r.setting.exercise p) (same_logs r h before v i explains within stands)

pub same_states : (r : PlainRecording) (h : History) → Explains r h → (s e : ℕ)
    → state_after r.setting.exercise (station_at r s) (log_at s h) e ≡ state_after r.setting.exercise (station_at r s) (log_of r s) e
same_states r h explains s e = ap (λ log. state_after r.setting.exercise (station_at r s) log e) (explains.logs s)
