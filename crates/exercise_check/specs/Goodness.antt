-- Good steps, good certificates, and refusals (profile).
use Rattle.std.specs.Prelude.{◌≡◌, ◌≢◌, ◌<◌, ◌⊎◌, ⊤, ℕ, List, length, take, slice_get, slice_index_or, Option, Some, None, All, ◌==◌, if◌then◌else◌}
use Rattle.std.specs.Option.{option_map_or, option_or}
use Rattle.exercise_model.specs.declared.cause.Cause.{Cause}
use Rattle.exercise_model.specs.declared.cause.Cause.TheVariants.{CountDiffers, NoSuchRecord, OutOfOrder, BadLink}
use Rattle.exercise_model.specs.Entry.{Entry}
use Rattle.exercise_model.specs.Recording.{PlainRecording}
use Rattle.exercise_model.specs.History.{Event, event_of, station_of, log_at}
use Rattle.exercise_model.specs.Cause.{cause_of}
use Rattle.exercise_model.specs.Place.{log_before}
use Rattle.exercise_check.specs.declared.certificate.Step.{Step}
use Rattle.exercise_check.specs.declared.checker.CheckFault.{CheckFault}
use Rattle.exercise_check.specs.declared.checker.CheckFault.TheVariants.{Bad, Memory}
use Rattle.exercise_check.specs.Sequence.{sequence_of, is_next, link_of, link_number}

-- the cause BadLink, if the given link is not this one
abbrev pub link_cause : ℕ → Option ℕ → Option Cause
link_cause given link = if given == link_number link then None else Some BadLink

-- the first cause against a step with this event: the entry is not its station's next, or the event may not happen
-- after the sequence so far, or the link is wrong
abbrev pub event_cause : PlainRecording → List Step → Step → Event → Option Cause
event_cause r before step v =
    if is_next r before step.place v
    then option_or (cause_of r.setting (sequence_of r before) v) (link_cause step.link (link_of r before step.place v))
    else Some OutOfOrder

-- the first cause against a step after the steps before it: it has no entry, or one of the causes of `event_cause`
unfoldable pub step_cause : PlainRecording → List Step → Step → Option Cause
step_cause r before step = option_map_or (λ e. event_cause r before step (event_of e)) (slice_get r.entries step.place) (Some NoSuchRecord)

-- A GOOD STEP: it has an entry, which is its station's next one; its event is allowed after the events of the steps
-- before; and its link is correct
pub record IsGoodStep (r : PlainRecording) (before : List Step) (step : Step) (e : Entry) : Type 0 where
  pub at : slice_get r.entries step.place ≡ Some e
  pub next : length (log_at (station_of (event_of e)) (sequence_of r before)) ≡ length (log_before r (station_of (event_of e)) step.place)
  pub allowed : cause_of r.setting (sequence_of r before) (event_of e) ≡ None
  pub link : step.link ≡ link_number (link_of r before step.place (event_of e))

abbrev pub no_step : Step
no_step = record { place = 0; link = 0 }

-- the first cause against the k-th step, from 0
abbrev pub cause_at : PlainRecording → List Step → ℕ → Option Cause
cause_at r steps k = step_cause r (take k steps) (slice_index_or steps k no_step)

-- there is no cause against any of the first n steps
abbrev pub GoodBelow : PlainRecording → List Step → ℕ → Type 0
GoodBelow r steps n = (k : ℕ) → k < n → cause_at r steps k ≡ None

-- A GOOD CERTIFICATE: as many steps as entries, and each step is good
pub record IsGood (r : PlainRecording) (steps : List Step) : Type 0 where
  pub count : length steps ≡ length r.entries
  pub good : GoodBelow r steps (length steps)

-- the k-th step is the first bad one: all before are good, and this is the first cause that holds here; it is never
-- the cause of a wrong count
pub record IsFirstBad (r : PlainRecording) (steps : List Step) (k : ℕ) (cause : Cause) : Type 0 where
  pub count : length steps ≡ length r.entries
  pub within : k < length steps
  pub good : GoodBelow r steps k
  pub here : cause_at r steps k ≡ Some cause
  pub other : cause ≢ CountDiffers

-- the numbers of steps and entries differ, which is reported as cause 1 at step 0
pub record IsWrongCount (r : PlainRecording) (steps : List Step) (k : ℕ) (cause : Cause) : Type 0 where
  pub count : length steps ≢ length r.entries
  pub first : k ≡ 0
  pub here : cause ≡ CountDiffers

-- the refusal reports the wrong count, or the first bad step and its cause; or want of memory, at any time
abbrev pub Refuses : PlainRecording → List Step → CheckFault → Type 0
Refuses r steps (Bad k cause) = IsWrongCount r steps k cause ⊎ IsFirstBad r steps k cause
Refuses r steps Memory = ⊤

-- each step has an entry
abbrev pub ArePlaced : PlainRecording → List Step → Type 0
ArePlaced r steps = All (λ (step : Step). step.place < length r.entries) steps

-- the sequence so far has exactly the events of the entry's station that are before the entry in the recording
abbrev pub IsReady : PlainRecording → List Step → ℕ → Event → Type 0
IsReady r before place v = log_at (station_of v) (sequence_of r before) ≡ log_before r (station_of v) place
