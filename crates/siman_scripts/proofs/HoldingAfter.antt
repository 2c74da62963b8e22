-- What a reason says of the lines before its line is so.
use Rattle.std.proofs.Common.{◌≡◌, ℕ, Bool, true, false, cond, nat_lt, length, Option, Some, None, refl, arith}
use Rattle.std.specs.List.{slice_get}
use Rattle.std.specs.Option.{IfSome, is_some}
use Rattle.std.proofs.lemmas.Bool.Decides.{nat_tests}
use Rattle.dis_records.specs.declared.address.SiteApplication.{SiteApplication}
use Rattle.dis_records.specs.declared.entity_state.EntityState.{EntityState}
use Rattle.exercise_model.specs.Station.{is_below}
use Rattle.siman_scripts.specs.declared.part.ScriptPart.{ScriptPart}
use Rattle.siman_scripts.specs.declared.part.ScriptPart.TheVariants as parts
use Rattle.siman_scripts.specs.declared.statement.Statement.{Statement}
use Rattle.siman_scripts.specs.declared.statement.Statement.TheVariants as says
use Rattle.siman_scripts.specs.declared.why.Why.{Why}
use Rattle.siman_scripts.specs.declared.why.Why.TheVariants as whys
use Rattle.siman_scripts.specs.Stations.{WorldStationData}
use Rattle.siman_scripts.specs.Draft.{DraftData, wants_exercise, takes_stations, takes_outfits, takes_moves, last_address, index_of, last_number, opened_with}
use Rattle.siman_scripts.specs.Reason.{Refused, part_why, rising_reason, station_reason, opening_reason, known_reason, station_place}
use Rattle.siman_scripts.specs.HoldsAfter.{station_named, IsSoAfter, HoldsAfter}
use Rattle.siman_scripts.proofs.ScriptReasons.{found_station}

-- each reason that is told is so
abbrev So : DraftData → Statement → Refused → Type 0
So d s reason = IfSome reason (λ r. IsSoAfter d s r.1)

early_or_late : (d : DraftData) (s : Statement) (late : Why) (wants : Bool) → wants_exercise d.part ≡ wants → (wants ≡ false → IsSoAfter d s late) → IsSoAfter d s (cond wants whys.BeforeExercise late)
early_or_late d s late true e l = e
early_or_late d s late false e l = l refl

in_part_so : (d : DraftData) (s : Statement) (late : Why) (takes : Bool) (reason : Refused) → (takes ≡ false → wants_exercise d.part ≡ false → IsSoAfter d s late) → So d s reason
    → So d s (cond takes reason (Some (0, part_why d.part late)))
in_part_so d s late true reason l h = h
in_part_so d s late false reason l h = early_or_late d s late (wants_exercise d.part) refl (l refl)

exercise_so : (d : DraftData) (s : Statement) (wants : Bool) → wants_exercise d.part ≡ wants → So d s (cond wants None (Some (0, whys.SecondExercise)))
exercise_so d s true e = tt
exercise_so d s false e = e

below_so : (d : DraftData) (s : Statement) (before a : SiteApplication) (below : Bool) → is_below before a ≡ below → last_address d.stations ≡ Some before → station_named s ≡ Some a
    → So d s (cond below None (Some (1, whys.StationNotAbove before.site before.application)))
below_so d s before a true e l n = tt
below_so d s before a false e l n = (before, a, l, n, refl, refl, e)

rising_so : (d : DraftData) (s : Statement) (a : SiteApplication) (o : Option SiteApplication) → last_address d.stations ≡ o → station_named s ≡ Some a → So d s (rising_reason o a)
rising_so d s a None l n = tt
rising_so d s a (Some before) l n = below_so d s before a (is_below before a) refl l n

station_so : (d : DraftData) (s : Statement) (a : SiteApplication) (room : Bool) → nat_lt (length d.stations) 256 ≡ room → station_named s ≡ Some a
    → So d s (cond room (rising_reason (last_address d.stations) a) (Some (0, whys.TooManyStations)))
station_so d s a true e n = rising_so d s a (last_address d.stations) refl n
station_so d s a false e n = grind (arith, nat_tests)

known_so : (d : DraftData) (s : Statement) (a : SiteApplication) (place : ℕ) (next : ℕ → Refused) (o : Option ℕ) → index_of a d.stations ≡ o → station_named s ≡ Some a
    → ((i : ℕ) → index_of a d.stations ≡ Some i → So d s (next i)) → So d s (known_reason place a next o)
known_so d s a place next None e n h = (a, n, refl, refl, e)
known_so d s a place next (Some i) e n h = h i e

opened_so : (d : DraftData) (a : SiteApplication) (e : ℕ) (y : EntityState) (i : ℕ) (w : WorldStationData) (o : Option WorldStationData) → index_of a d.stations ≡ Some i → slice_get d.stations i ≡ Some w → opened_with e y w ≡ o
    → So d (says.Opening a e y) (cond (is_some o) None (Some (2, whys.EntityNotAbove (last_number 0 w.station.opening))))
opened_so d a e y i w (Some v) n at o = tt
opened_so d a e y i w None n at o = (i, w, n, at, refl, o)

opening_so : (d : DraftData) (a : SiteApplication) (e : ℕ) (y : EntityState) (i : ℕ) → index_of a d.stations ≡ Some i → So d (says.Opening a e y) (opening_reason e y (slice_get d.stations i))
opening_so d a e y i n =
    let found = found_station a d.stations i n in
    rw found.1 (opened_so d a e y i found.0 (opened_with e y found.0) n found.1 refl)

-- moves may come in each part but the first
moves_at : (part : ScriptPart) → takes_moves part ≡ false → wants_exercise part ≡ true
moves_at parts.Exercise t = refl
moves_at parts.Stations t = cc
moves_at parts.Outfits t = cc
moves_at parts.Moves t = cc

-- WHAT A REASON SAYS OF THE LINES BEFORE IS SO
pub draft_reason-holds : (d : DraftData) (s : Statement) → HoldsAfter d s
draft_reason-holds d says.Nothing = tt
draft_reason-holds d (says.Exercise x) = exercise_so d (says.Exercise x) (wants_exercise d.part) refl
draft_reason-holds d (says.Station a rules) =
    in_part_so d (says.Station a rules) whys.LateStation (takes_stations d.part) (station_reason d.stations a) (λ t w. t) (station_so d (says.Station a rules) a (nat_lt (length d.stations) 256) refl refl)
draft_reason-holds d (says.Opening a e y) =
    in_part_so d (says.Opening a e y) whys.LateOutfit (takes_outfits d.part) _ (λ t w. t)
    (known_so d (says.Opening a e y) a 1 (λ i. opening_reason e y (slice_get d.stations i)) (index_of a d.stations) refl refl (opening_so d a e y))
draft_reason-holds d (says.Fixed a datum) =
    in_part_so d (says.Fixed a datum) whys.LateOutfit (takes_outfits d.part) _ (λ t w. t) (known_so d (says.Fixed a datum) a 1 (λ i. None) (index_of a d.stations) refl refl (λ i n. tt))
draft_reason-holds d (says.Action a id) =
    in_part_so d (says.Action a id) whys.LateOutfit (takes_outfits d.part) _ (λ t w. t) (known_so d (says.Action a id) a 1 (λ i. None) (index_of a d.stations) refl refl (λ i n. tt))
draft_reason-holds d (says.At now) = in_part_so d (says.At now) whys.BeforeExercise (takes_moves d.part) None (λ t w. moves_at d.part t) tt
draft_reason-holds d (says.Does a act) =
    in_part_so d (says.Does a act) whys.BeforeExercise (takes_moves d.part) _ (λ t w. moves_at d.part t)
    (known_so d (says.Does a act) a (station_place act) (λ i. None) (index_of a d.stations) refl refl (λ i n. tt))
