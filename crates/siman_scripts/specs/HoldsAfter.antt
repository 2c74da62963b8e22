-- The meaning of a reason for the lines before its line (profile).
use Rattle.std.specs.Prelude.{◌≡◌, ℕ, ◌≤◌, true, false, length, slice_get, Option, Some, None}
use Rattle.std.specs.Option.{IfSome}
use Rattle.dis_records.specs.declared.address.SiteApplication.{SiteApplication}
use Rattle.exercise_model.specs.Station.{is_below}
use Rattle.siman_scripts.specs.declared.statement.Statement.{Statement}
use Rattle.siman_scripts.specs.declared.statement.Statement.TheVariants as says
use Rattle.siman_scripts.specs.declared.why.Why.{Why}
use Rattle.siman_scripts.specs.declared.why.Why.TheVariants as whys
use Rattle.siman_scripts.specs.Stations.{WorldStationData}
use Rattle.siman_scripts.specs.Draft.{DraftData, wants_exercise, takes_stations, takes_outfits, last_address, index_of, last_number, opened_with}
use Rattle.siman_scripts.specs.Reason.{draft_reason}

-- the station that a line names, if any
abbrev pub station_named : Statement → Option SiteApplication
station_named says.Nothing = None
station_named (says.Exercise x) = None
station_named (says.Station a rules) = Some a
station_named (says.Opening a e y) = Some a
station_named (says.Fixed a datum) = Some a
station_named (says.Action a id) = Some a
station_named (says.At now) = None
station_named (says.Does a act) = Some a

-- no station has the address that the line names, which has this site and application
abbrev pub IsUnknown : DraftData → Statement → ℕ → ℕ → Type 0
IsUnknown d s site application = (a : SiteApplication) × (station_named s ≡ Some a) × (site ≡ a.site) × (application ≡ a.application) × (index_of a d.stations ≡ None)

-- the last station, which has this site and application, is not below the one that the line names
abbrev pub IsNotAbove : DraftData → Statement → ℕ → ℕ → Type 0
IsNotAbove d s site application =
    (before : SiteApplication) × (a : SiteApplication) × (last_address d.stations ≡ Some before) × (station_named s ≡ Some a) × (site ≡ before.site) × (application ≡ before.application) × (is_below before a ≡ false)

-- the station that an opening names has an entity of this number last, and cannot open with this one besides
abbrev pub IsNotNext : DraftData → Statement → ℕ → Type 0
IsNotNext d (says.Opening a e y) number =
    (i : ℕ) × (w : WorldStationData) × (index_of a d.stations ≡ Some i) × (slice_get d.stations i ≡ Some w) × (number ≡ last_number 0 w.station.opening) × (opened_with e y w ≡ None)
IsNotNext d _ number = ⊥

-- the reason of a statement is true of the lines before
abbrev pub IsSoAfter : DraftData → Statement → Why → Type 0
IsSoAfter d s (whys.Line why) = ⊥
IsSoAfter d s whys.SecondExercise = wants_exercise d.part ≡ false
IsSoAfter d s whys.BeforeExercise = wants_exercise d.part ≡ true
IsSoAfter d s whys.LateStation = takes_stations d.part ≡ false
IsSoAfter d s whys.LateOutfit = takes_outfits d.part ≡ false
IsSoAfter d s whys.TooManyStations = 256 ≤ length d.stations
IsSoAfter d s (whys.StationNotAbove site application) = IsNotAbove d s site application
IsSoAfter d s (whys.EntityNotAbove number) = IsNotNext d s number
IsSoAfter d s (whys.UnknownStation site application) = IsUnknown d s site application
IsSoAfter d s whys.NoExercise = ⊥
IsSoAfter d s whys.NoStation = ⊥
IsSoAfter d s whys.TooLong = ⊥

-- THE REASON OF A STATEMENT IS TRUE OF THE LINES BEFORE
abbrev pub HoldsAfter : DraftData → Statement → Type 0
HoldsAfter d s = IfSome (draft_reason d s) (λ r. IsSoAfter d s r.1)
