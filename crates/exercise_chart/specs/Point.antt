-- The step of an entry in a certificate, and its station (profile).
use Rattle.std.specs.Prelude.{◌≡◌, ◌<◌, ℕ, List, length, Bool, ◌==◌, nat_lt, Option, None, option_map, unwrap_or, slice_get, slice_index_or, if◌then◌else◌}
use Rattle.std.specs.Option.{option_map_or}
use Rattle.exercise_model.specs.Recording.{PlainRecording}
use Rattle.exercise_model.specs.History.{event_of, station_of}
use Rattle.exercise_model.specs.Place.{first_below}
use Rattle.exercise_check.specs.declared.certificate.Step.{Step}
use Rattle.exercise_check.specs.Links.{step_at}
use Rattle.exercise_chart.specs.declared.point.Point.{Point}

-- step k takes entry i
abbrev pub takes : List Step → ℕ → ℕ → Bool
takes steps i k = (step_at steps k).place == i

-- the first step that takes entry i of a recording, if one does
unfoldable pub first_step : PlainRecording → List Step → ℕ → Option ℕ
first_step r steps i = if nat_lt i (length r.entries) then first_below (takes steps i) (length steps) else None

-- THE STEP OF ENTRY i: the first that takes it; past the last step if none does
abbrev pub step_of : PlainRecording → List Step → ℕ → ℕ
step_of r steps i = unwrap_or (first_step r steps i) (length steps)

-- the station of an entry; 0 if the recording does not have the entry
abbrev pub station_of_entry : PlainRecording → ℕ → ℕ
station_of_entry r i = option_map_or (λ e. station_of (event_of e)) (slice_get r.entries i) 0

-- THE POINT OF ENTRY i
abbrev pub point_of : PlainRecording → List Step → ℕ → Point
point_of r steps i = record { entry = i; step = step_of r steps i; station = station_of_entry r i }

-- the entry that step k takes, if the certificate has that step
abbrev pub place_at : List Step → ℕ → Option ℕ
place_at steps k = option_map (λ (step : Step). step.place) (slice_get steps k)

-- ---- the table of steps

-- each entry's first step, among the first n steps, that takes it
pub record AreTaken (steps : List Step) (n entries : ℕ) (taken : List (Option ℕ)) : Type 0 where
  pub count : length taken ≡ entries
  pub each : (i : ℕ) → i < entries → slice_index_or taken i None ≡ first_below (takes steps i) n
