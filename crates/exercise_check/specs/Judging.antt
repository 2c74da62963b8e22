-- Judging the next event of a station by the findings in its log and by the steps so far (profile).
use Rattle.std.specs.Prelude.{ℕ, Bool, true, false, List, length, nat_lt, slice_get, Option, Some, None, IfSome, option_and_then, if◌then◌else◌}
use Rattle.std.specs.Option.{option_map_or}
use Rattle.exercise_model.specs.declared.cause.Cause.{Cause}
use Rattle.exercise_model.specs.declared.cause.Cause.TheVariants.{NeverSent}
use Rattle.exercise_model.specs.Recording.{PlainRecording}
use Rattle.exercise_model.specs.History.{event_of, station_of, log_at}
use Rattle.exercise_model.specs.Cause.{cause_of}
use Rattle.exercise_model.specs.Place.{log_before}
use Rattle.exercise_check.specs.declared.judgement.Judgement.{Judgement}
use Rattle.exercise_check.specs.declared.judgement.Judgement.TheVariants.{Allowed, Forbidden}
use Rattle.exercise_check.specs.declared.certificate.Step.{Step}
use Rattle.exercise_check.specs.declared.cursors.Cursors.{Cursors}
use Rattle.exercise_check.specs.Sequence.{sequence_of, link_of}
use Rattle.exercise_check.specs.Goodness.{IsReady}
use Rattle.exercise_check.specs.Course.{IsCourse, Judges}
use Rattle.exercise_check.specs.Cursors.{AreCursors}

-- the judgement for this cause, if there is any, or else for this link
abbrev pub judged : Option Cause → Option ℕ → Judgement
judged (Some cause) link = Forbidden cause
judged None link = Allowed link

-- the cause is that a received datagram was never sent
abbrev pub is_never_sent : Cause → Bool
is_never_sent NeverSent = true
is_never_sent cause = false

abbrev pub is_unsent : Judgement → Bool
is_unsent (Allowed link) = false
is_unsent (Forbidden cause) = is_never_sent cause

-- the steps have taken entry e: they have taken more entries of its station than there are before it
unfoldable pub was_taken : PlainRecording → List Step → ℕ → Bool
was_taken r steps e =
    option_map_or (λ x. nat_lt (length (log_before r (station_of (event_of x)) e)) (length (log_at (station_of (event_of x)) (sequence_of r steps))))
    (slice_get r.entries e) false

-- the entry, if it was taken
abbrev pub if_taken : PlainRecording → List Step → Option ℕ → Option ℕ
if_taken r steps o = option_and_then (λ e. if was_taken r steps e then Some e else None) o

-- the judgement of a received datagram that must have been sent before, given the entry that sent it first, if that
-- was taken
abbrev pub source_judgement : Option ℕ → Judgement
source_judgement (Some source) = Allowed (Some source)
source_judgement None = Forbidden NeverSent

-- the judgement is that of this entry after these steps
abbrev pub JudgesNext : PlainRecording → List Step → ℕ → Judgement → Type 0
JudgesNext r steps place given = IfSome (slice_get r.entries place) (λ e. Judges (cause_of r.setting (sequence_of r steps) (event_of e))
    (link_of r steps place (event_of e)) (length r.entries) given)

-- The steps have taken exactly the entries of its station before this entry.
abbrev pub IsReadyAt : PlainRecording → List Step → ℕ → Type 0
IsReadyAt r steps place = IfSome (slice_get r.entries place) (λ e. IsReady r steps place (event_of e))

-- INVARIANT OF A COURSE: its recording and steps are those of a course, and the cursors have the next entry of each
-- station
pub record Keeps (r : PlainRecording) (steps : List Step) (cursors : Cursors) : Type 0 where
  pub course : IsCourse (record { recording = r; steps = steps })
  pub next : AreCursors r steps cursors
