-- The contradiction of a certificate's step: the other side of the first cause against it (profile).
use Rattle.std.specs.Prelude.{ℕ, List, length, take, Bool, true, false, ◌&&◌, ◌==◌, nat_lt, Option, Some, None, is_some, option_map, option_and_then, slice_get, if◌then◌else◌}
use Rattle.std.specs.Option.{option_map_or}
use Rattle.std.specs.List.{count_by}
use Rattle.exercise_model.specs.declared.cause.Cause.{Cause}
use Rattle.exercise_model.specs.declared.cause.Cause.TheVariants as causes
use Rattle.exercise_model.specs.Entry.{Entry}
use Rattle.exercise_model.specs.Recording.{PlainRecording}
use Rattle.exercise_model.specs.History.{event_of, station_of, log_at}
use Rattle.exercise_model.specs.Place.{own_event, log_before, first_below}
use Rattle.exercise_check.specs.declared.certificate.TheConstants.{NO_LINK}
use Rattle.exercise_check.specs.declared.certificate.Step.{Step}
use Rattle.exercise_check.specs.Sequence.{sequence_of, link_of}
use Rattle.exercise_conflict.specs.declared.clash.Clash.{Clash}
use Rattle.exercise_conflict.specs.declared.clash.Clash.TheVariants as clashes
use Rattle.exercise_conflict.specs.declared.step_clash.StepClash.{StepClash}
use Rattle.exercise_conflict.specs.declared.step_clash.StepClash.TheVariants as told
use Rattle.exercise_conflict.specs.Clash.{clash_of}

-- ---- a wrong count

-- how many steps name entry i
abbrev pub times_taken : List Step → ℕ → ℕ
times_taken steps i = count_by (λ (step : Step). step.place == i) steps

abbrev pub is_left_out : List Step → ℕ → Bool
is_left_out steps i = times_taken steps i == 0

abbrev pub is_taken_again : List Step → ℕ → Bool
is_taken_again steps i = nat_lt 1 (times_taken steps i)

-- A WRONG COUNT, with n entries: the lowest of them that no step names, and the lowest that two steps name
abbrev pub count_clash : List Step → ℕ → StepClash
count_clash steps n = told.CountDiffers (length steps) n (first_below (is_left_out steps) n) (first_below (is_taken_again steps) n)

-- ---- an entry out of order

-- step j names entry i
abbrev pub takes : List Step → ℕ → ℕ → Bool
takes steps i j = option_map_or (λ (step : Step). step.place == i) (slice_get steps j) false

-- entry i belongs to station s, and is preceded by k of its entries
abbrev pub has_rank : PlainRecording → ℕ → ℕ → ℕ → Bool
has_rank r s k i = is_some (own_event r s i) && (length (log_before r s i) == k)

-- the next entry of station s after these steps: as many of its entries precede it as the steps took
abbrev pub next_entry_after : PlainRecording → List Step → ℕ → Option ℕ
next_entry_after r before s = first_below (has_rank r s (length (log_at s (sequence_of r before)))) (length r.entries)

-- AN ENTRY OUT OF ORDER, which step k names: the first earlier step that names it too, and the next entry of its station
abbrev pub out_of_order_by : PlainRecording → List Step → ℕ → ℕ → Entry → StepClash
out_of_order_by r steps k place e = told.OutOfOrder place (first_below (takes steps place) k) (next_entry_after r (take k steps) (station_of (event_of e)))

abbrev pub out_of_order_clash : PlainRecording → List Step → ℕ → ℕ → Option StepClash
out_of_order_clash r steps k place = option_map (out_of_order_by r steps k place) (slice_get r.entries place)

-- ---- a bad link

-- the link that a step gives, if it gives one
abbrev pub step_link : ℕ → Option ℕ
step_link link = if link == NO_LINK then None else Some link

-- the right link of a step that names this entry after the steps before it
unfoldable pub right_link : PlainRecording → List Step → ℕ → Option ℕ
right_link r before place = option_and_then (λ e. link_of r before place (event_of e)) (slice_get r.entries place)

-- A BAD LINK of step k: the given one, and the right one
abbrev pub bad_link_clash : PlainRecording → List Step → ℕ → Step → StepClash
bad_link_clash r steps k step = told.BadLink step.place (step_link step.link) (right_link r (take k steps) step.place)

-- ---- an event that cannot happen

-- the first step that takes the source of a datagram that was not sent yet
abbrev pub late_step : List Step → Clash → Option ℕ
late_step steps (clashes.NeverSent from sent near differs) = option_and_then (λ i. first_below (takes steps i) (length steps)) sent
late_step steps clash = None

-- AN EVENT THAT CANNOT HAPPEN: the contradiction of its entry
abbrev pub event_clash_by : List Step → ℕ → Clash → StepClash
event_clash_by steps place clash = told.Event place clash (late_step steps clash)

abbrev pub event_clash : PlainRecording → List Step → ℕ → Option StepClash
event_clash r steps place = option_map (event_clash_by steps place) (clash_of r place)

-- ---- a step

abbrev pub step_clash : PlainRecording → List Step → ℕ → Cause → Step → Option StepClash
step_clash r steps k causes.NoSuchRecord step = Some (told.NoSuchRecord step.place (length r.entries))
step_clash r steps k causes.OutOfOrder step = out_of_order_clash r steps k step.place
step_clash r steps k causes.BadLink step = Some (bad_link_clash r steps k step)
step_clash r steps k cause step = event_clash r steps step.place

-- THE CONTRADICTION OF STEP k, for this first cause against it
unfoldable pub step_clash_of : PlainRecording → List Step → ℕ → Cause → Option StepClash
step_clash_of r steps k causes.CountDiffers = Some (count_clash steps (length r.entries))
step_clash_of r steps k cause = option_and_then (step_clash r steps k cause) (slice_get steps k)

-- ---- a first bad step

-- a cause concerns the event of a step, and not the certificate
abbrev pub is_of_event : Cause → Bool
is_of_event causes.CountDiffers = false
is_of_event causes.NoSuchRecord = false
is_of_event causes.OutOfOrder = false
is_of_event causes.BadLink = false
is_of_event cause = true
