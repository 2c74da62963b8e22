-- Next entry of a station, and stations that are done or cannot go on (profile).
use Rattle.std.specs.Prelude.{◌≡◌, ◌≢◌, ℕ, ◌∷◌, length, Some, None}
use Rattle.exercise_model.specs.Recording.{PlainRecording}
use Rattle.exercise_model.specs.History.{Event, History, log_at, log_of}
use Rattle.exercise_model.specs.Cause.{cause_of}
use Rattle.exercise_model.specs.Place.{log_before, own_event}
use Rattle.exercise_model.specs.Run.{IsBeginning}

-- the event v of entry i is the next of its station after h
pub record IsNextEntry (r : PlainRecording) (h : History) (s i : ℕ) (v : Event) : Type 0 where
  pub own : own_event r s i ≡ Some v
  pub place : length (log_before r s i) ≡ length (log_at s h)

-- the station did all entries of its log
abbrev pub IsDone : PlainRecording → History → ℕ → Type 0
IsDone r h s = log_at s h ≡ log_of r s

-- no next event of the station is allowed after h
abbrev pub IsHeld : PlainRecording → History → ℕ → Type 0
IsHeld r h s = (v : Event) → IsBeginning (v ∷ log_at s h) (log_of r s) → cause_of r.setting h v ≢ None
