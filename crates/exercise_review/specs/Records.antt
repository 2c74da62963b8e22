-- The number of entries of each station (profile).
use Rattle.std.specs.Prelude.{◌≡◌, ◌<◌, ℕ, List, length, Option, option_map, slice_get, slice_index_or}
use Rattle.exercise_model.specs.Recording.{PlainRecording}
use Rattle.exercise_model.specs.History.{event_of, station_of}
use Rattle.exercise_review.specs.Counted.{count_at}

-- the station of each entry
unfoldable pub entry_places : PlainRecording → ℕ → Option ℕ
entry_places r i = option_map (λ e. station_of (event_of e)) (slice_get r.entries i)

-- THE NUMBER OF ENTRIES below n that each station has
pub record AreRecords (r : PlainRecording) (n : ℕ) (records : List ℕ) : Type 0 where
  pub stations : length records ≡ length r.setting.stations
  pub each : (s : ℕ) → s < length r.setting.stations → slice_index_or records s 0 ≡ count_at (entry_places r) s n
