-- A course: steps taken one after the other over a recording, each judged by the steps before it (profile).
use Rattle.std.specs.Prelude.{◌≡◌, ◌<◌, ℕ, List, [], ◌∷◌, ◌++◌, length, slice_get, true, Option, Some, None, IfSome}
use Rattle.exercise_model.specs.declared.cause.Cause.{Cause}
use Rattle.exercise_model.specs.Entry.{Entry}
use Rattle.exercise_model.specs.Recording.{PlainRecording, IsRecording}
use Rattle.exercise_model.specs.History.{History, event_of}
use Rattle.exercise_model.specs.Cause.{cause_of}
use Rattle.exercise_check.specs.declared.certificate.Step.{Step}
use Rattle.exercise_check.specs.declared.judgement.Judgement.{Judgement}
use Rattle.exercise_check.specs.declared.judgement.Judgement.TheVariants.{Allowed, Forbidden}
use Rattle.exercise_check.specs.declared.course.Progress.{Progress}
use Rattle.exercise_check.specs.declared.course.Progress.TheVariants.{Taken, Barred}
use Rattle.exercise_check.specs.Sequence.{sequence_of, is_next, link_of, link_number}
use Rattle.exercise_check.specs.Goodness.{GoodBelow}

-- the recording whose entries are taken, and the steps taken so far
pub record CourseData : Type 0 where
  pub recording : PlainRecording
  pub steps : List Step

-- Invariant of a course: its recording is within the limits, and each step is good after those before it.
pub record IsCourse (c : CourseData) : Type 0 where
  pub limits : IsRecording c.recording
  pub good : GoodBelow c.recording c.steps (length c.steps)

-- the course of a recording before its first step
abbrev pub begun : PlainRecording → CourseData
begun r = record { recording = r; steps = [] }

-- the course after one more step
abbrev pub with_step : CourseData → Step → CourseData
with_step c step = record c { steps = c.steps ++ step ∷ [] }

-- the history of the steps so far
abbrev pub so_far : CourseData → History
so_far c = sequence_of c.recording c.steps

-- The judgement is the first cause that holds, or if none does, the link, which is an entry.
abbrev pub Judges : Option Cause → Option ℕ → ℕ → Judgement → Type 0
Judges cause link entries (Allowed given) = (cause ≡ None) × (given ≡ link) × IfSome given (λ e. e < entries)
Judges cause link entries (Forbidden given) = cause ≡ Some given

-- the entry at this place is its station's next one
abbrev pub IsNext : CourseData → ℕ → Type 0
IsNext c place = IfSome (slice_get c.recording.entries place) (λ e. is_next c.recording c.steps place (event_of e) ≡ true)

-- AN ENTRY IS TAKEN: its event is allowed after the steps so far, and a step with this entry and the correct link is
-- added
pub record Takes (old new : CourseData) (place : ℕ) (e : Entry) (link : ℕ) : Type 0 where
  pub allowed : cause_of old.recording.setting (so_far old) (event_of e) ≡ None
  pub link_is : link ≡ link_number (link_of old.recording old.steps place (event_of e))
  pub new_is : new ≡ with_step old (record { place = place; link = link })

-- AN ENTRY IS BARRED: this is the first cause against its event, and the course is unchanged
pub record Bars (old new : CourseData) (e : Entry) (cause : Cause) : Type 0 where
  pub cause_is : cause_of old.recording.setting (so_far old) (event_of e) ≡ Some cause
  pub new_is : new ≡ old

-- the result of trying to take an entry
abbrev pub GoesOn : CourseData → CourseData → ℕ → Progress → Entry → Type 0
GoesOn old new place (Taken link) e = Takes old new place e link
GoesOn old new place (Barred cause) e = Bars old new e cause
