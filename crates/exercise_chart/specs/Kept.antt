-- The columns of a picture: those of the stations that are kept, by rising index, from the left (profile).
use Rattle.std.specs.Prelude.{◌≡◌, ℕ, zero, suc, ◌+◌, List, [], ◌∷◌, length, Bool, true, false, ◌||◌, Option, Some, None, if◌then◌else◌}
use Rattle.dis_records.specs.declared.address.SiteApplication.{SiteApplication}
use Rattle.exercise_chart.specs.declared.kept.KeptColumns.{KeptColumns}
use Rattle.exercise_model.specs.Account.{values_below}
use Rattle.exercise_model.specs.History.{station_at}
use Rattle.exercise_model.specs.Recording.{PlainRecording}
use Rattle.exercise_review.specs.Filter.{same_address}

-- an address is among these
abbrev pub has_address : List SiteApplication → SiteApplication → Bool
has_address [] p = false
has_address (q ∷ qs) p = same_address q p || has_address qs p

-- a station with this address is kept: the address is among these, or these are none
abbrev pub keeps : List SiteApplication → SiteApplication → Bool
keeps [] p = true
keeps (q ∷ qs) p = has_address (q ∷ qs) p

-- STATION s IS KEPT
abbrev pub is_kept : PlainRecording → (stations : List SiteApplication) → (s : ℕ) → Bool
is_kept r stations s = keeps stations (station_at r s).address

-- how many of the first n stations are kept
unfoldable pub kept_below : PlainRecording → (stations : List SiteApplication) → (n : ℕ) → ℕ
kept_below r stations zero = 0
kept_below r stations (suc n) = if is_kept r stations n then kept_below r stations n + 1 else kept_below r stations n

-- THE COLUMN OF STATION s, if it is kept: the number of kept stations before it
abbrev pub column_of : PlainRecording → (stations : List SiteApplication) → (s : ℕ) → Option ℕ
column_of r stations s = if is_kept r stations s then Some (kept_below r stations s) else None

-- the columns of all stations
abbrev pub columns_of : PlainRecording → (stations : List SiteApplication) → List (Option ℕ)
columns_of r stations = values_below (column_of r stations) (length r.setting.stations)

-- HOW MANY COLUMNS there are
abbrev pub kept_of : PlainRecording → (stations : List SiteApplication) → ℕ
kept_of r stations = kept_below r stations (length r.setting.stations)

-- these are the columns of the kept stations
pub record AreKept (r : PlainRecording) (stations : List SiteApplication) (made : KeptColumns) : Type 0 where
  pub columns : made.columns.items ≡ columns_of r stations
  pub kept : made.kept ≡ kept_of r stations
