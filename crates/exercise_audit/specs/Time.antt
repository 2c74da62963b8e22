-- The sequence of time: of the entries that may happen next, the one with the least stamp and number happens (profile).
use Rattle.std.specs.Prelude.{◌≡◌, ◌≢◌, ◌<◌, ◌≤◌, ℕ, List, length, take, slice_index_or}
use Rattle.exercise_model.specs.Recording.{PlainRecording}
use Rattle.exercise_model.specs.Stamps.{stamp_of}
use Rattle.exercise_model.specs.History.{Event, History}
use Rattle.exercise_model.specs.Cause.{IsAllowed}
use Rattle.exercise_check.specs.declared.certificate.Step.{Step}
use Rattle.exercise_check.specs.Sequence.{sequence_of}
use Rattle.exercise_check.specs.Goodness.{no_step}
use Rattle.exercise_audit.specs.Next.{IsNextEntry}

-- ENTRY i IS EARLIER than entry j: its stamp is no greater, and where the stamps are equal its number is less
abbrev pub IsEarlier : PlainRecording → ℕ → ℕ → Type 0
IsEarlier r i j = (stamp_of r i ≤ stamp_of r j) × (stamp_of r i ≡ stamp_of r j → i < j)

-- ENTRY i MAY HAPPEN NEXT after h: it is the next of its station, and its event is allowed
pub record MayHappen (r : PlainRecording) (h : History) (i : ℕ) : Type 0 where
  pub station : ℕ
  pub event : Event
  pub next : IsNextEntry r h station i event
  pub allowed : IsAllowed r.setting h event

-- of all entries that may happen next, each other one is later than i
abbrev pub IsEarliest : PlainRecording → History → ℕ → Type 0
IsEarliest r h i = (j : ℕ) → MayHappen r h j → j ≢ i → IsEarlier r i j

-- THE SEQUENCE OF TIME: the entry of each step is the earliest of those that may happen after the steps before
abbrev pub IsTimely : PlainRecording → List Step → Type 0
IsTimely r steps = (k : ℕ) → k < length steps → IsEarliest r (sequence_of r (take k steps)) (slice_index_or steps k no_step).place

-- stamps never fall from one entry of the recording to a later one
abbrev pub StampsNeverFall : PlainRecording → Type 0
StampsNeverFall r = (i j : ℕ) → i < j → j < length r.entries → stamp_of r i ≤ stamp_of r j

-- the steps take the entries as the recording has them
abbrev pub IsAsWritten : List Step → Type 0
IsAsWritten steps = (k : ℕ) → k < length steps → (slice_index_or steps k no_step).place ≡ k
