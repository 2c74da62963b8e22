-- The draft of the lines of a script so far, and the effect of one more line on it (profile).
use Rattle.std.specs.Prelude.{◌≡◌, ℕ, ◌-◌, Bool, true, false, ◌==◌, ◌&&◌, nat_lt, List, [], ◌∷◌, ◌++◌, length, position, slice_get, slice_set, Option, Some, None, Result, Ok, Err, if◌then◌else◌}
use Rattle.std.specs.Option.{option_map, option_and_then}
use Rattle.dis_records.specs.declared.address.SiteApplication.{SiteApplication}
use Rattle.dis_records.specs.declared.datum.FixedDatum.{FixedDatum}
use Rattle.dis_records.specs.declared.entity_state.EntityState.{EntityState}
use Rattle.exercise_model.specs.Station.{is_above, is_opening}
use Rattle.siman_scripts.specs.declared.act.Act.{Act}
use Rattle.siman_scripts.specs.declared.act.Move.{Move}
use Rattle.siman_scripts.specs.declared.line_fault.ScriptLineFault.{ScriptLineFault}
use Rattle.siman_scripts.specs.declared.line_fault.ScriptLineFault.TheVariants.{Bad, Unknown, Memory}
use Rattle.siman_scripts.specs.declared.part.ScriptPart.{ScriptPart}
use Rattle.siman_scripts.specs.declared.part.ScriptPart.TheVariants as parts
use Rattle.siman_scripts.specs.declared.statement.ManagerRules.{ManagerRules}
use Rattle.siman_scripts.specs.declared.statement.Statement.{Statement}
use Rattle.siman_scripts.specs.declared.statement.Statement.TheVariants as says
use Rattle.siman_scripts.specs.Stations.{WorldStationData}

-- the part to which the next line may belong, if not to a later one; the exercise, stations and moves so far; and
-- the time of the clocks
pub record DraftData : Type 0 where
  pub part : ScriptPart
  pub exercise : ℕ
  pub stations : List WorldStationData
  pub moves : List Move
  pub clock : ℕ

-- before the first line
abbrev pub blank : DraftData
blank = record { part = parts.Exercise; exercise = 0; stations = []; moves = []; clock = 0 }

-- THE ORDER OF PARTS: the exercise line once and first; stations; their outfits, which are the entities that they
-- open with, their datums and actions; moves.

abbrev pub wants_exercise : ScriptPart → Bool
wants_exercise parts.Exercise = true
wants_exercise parts.Stations = false
wants_exercise parts.Outfits = false
wants_exercise parts.Moves = false

abbrev pub takes_stations : ScriptPart → Bool
takes_stations parts.Exercise = false
takes_stations parts.Stations = true
takes_stations parts.Outfits = false
takes_stations parts.Moves = false

abbrev pub takes_outfits : ScriptPart → Bool
takes_outfits parts.Exercise = false
takes_outfits parts.Stations = true
takes_outfits parts.Outfits = true
takes_outfits parts.Moves = false

abbrev pub takes_moves : ScriptPart → Bool
takes_moves parts.Exercise = false
takes_moves parts.Stations = true
takes_moves parts.Outfits = true
takes_moves parts.Moves = true

-- Stations.

-- a station as its own line describes it: it opens with no entity, holds no datum, and knows no action
abbrev pub new_station : SiteApplication → ManagerRules → WorldStationData
new_station a rules = record {
  station = record { address = a; opening = [] };
  first_id = rules.first_id;
  tries = rules.tries;
  wait = rules.wait;
  datums = record { fixed = []; variable = [] };
  actions = [];
}

-- the address of the last station, if any
abbrev pub last_address : List WorldStationData → Option SiteApplication
last_address ws = option_map (λ w. w.station.address) (slice_get ws (length ws - 1))

abbrev pub is_at : SiteApplication → WorldStationData → Bool
is_at a w = (w.station.address.site == a.site) && (w.station.address.application == a.application)

-- the index of the station at an address, if any
abbrev pub index_of : SiteApplication → List WorldStationData → Option ℕ
index_of a ws = position (is_at a) ws

-- the number of the last entity, or this one if there is none
abbrev pub last_number : ℕ → List (ℕ × EntityState) → ℕ
last_number n [] = n
last_number n (x ∷ xs) = last_number x.0 xs

-- a station with one more entity that it opens with, if its number is above those before
abbrev pub opened_with : ℕ → EntityState → WorldStationData → Option WorldStationData
opened_with e y w =
    if is_opening (w.station.opening ++ (e, y) ∷ [])
    then Some (record w { station = record { address = w.station.address; opening = w.station.opening ++ (e, y) ∷ [] } })
    else None

abbrev pub holding : FixedDatum → WorldStationData → WorldStationData
holding d w = record w { datums = record { fixed = w.datums.fixed ++ d ∷ []; variable = w.datums.variable } }

abbrev pub knowing : ℕ → WorldStationData → WorldStationData
knowing id w = record w { actions = w.actions ++ id ∷ [] }

-- One more line.

abbrev pub with_station : DraftData → SiteApplication → ManagerRules → DraftData
with_station d a rules = record d { stations = d.stations ++ new_station a rules ∷ [] }

abbrev pub with_changed : DraftData → ℕ → Option WorldStationData → Result DraftData ScriptLineFault
with_changed d i None = Err Bad
with_changed d i (Some w) = Ok (record d { part = parts.Outfits; stations = slice_set d.stations i w })

-- a line of an outfit changes the station that it names, if it is known
abbrev pub with_outfit : DraftData → (WorldStationData → Option WorldStationData) → Option ℕ → Result DraftData ScriptLineFault
with_outfit d change None = Err Unknown
with_outfit d change (Some i) = with_changed d i (option_and_then change (slice_get d.stations i))

-- a move of the station with this index, if it is known
abbrev pub with_move : DraftData → Act → Option ℕ → Result DraftData ScriptLineFault
with_move d act None = Err Unknown
with_move d act (Some i) = Ok (record d { part = parts.Moves; moves = d.moves ++ record { now = d.clock; station = i; act = act } ∷ [] })

-- the effect of a line, if it is in its part
abbrev pub in_part : Bool → Result DraftData ScriptLineFault → Result DraftData ScriptLineFault
in_part test after = if test then after else Err Bad

-- the draft where only moves may follow, if a move may follow
abbrev pub moving : DraftData → DraftData
moving d = if takes_moves d.part then record d { part = parts.Moves } else d

-- THE EFFECT OF A STATEMENT on the draft of the lines before it, or why it is refused
abbrev pub after : DraftData → Statement → Result DraftData ScriptLineFault
after d says.Nothing = Ok d
after d (says.Exercise x) = in_part (wants_exercise d.part) (Ok (record d { part = parts.Stations; exercise = x }))
-- at most 256 stations, their addresses rising
after d (says.Station a rules) =
    in_part (takes_stations d.part) (if nat_lt (length d.stations) 256 && is_above (last_address d.stations) a then Ok (with_station d a rules) else Err Bad)
after d (says.Opening a e y) = in_part (takes_outfits d.part) (with_outfit d (opened_with e y) (index_of a d.stations))
after d (says.Fixed a datum) = in_part (takes_outfits d.part) (with_outfit d (λ w. Some (holding datum w)) (index_of a d.stations))
after d (says.Action a id) = in_part (takes_outfits d.part) (with_outfit d (λ w. Some (knowing id w)) (index_of a d.stations))
after d (says.At now) = in_part (takes_moves d.part) (Ok (record d { part = parts.Moves; clock = now }))
after d (says.Does a act) = in_part (takes_moves d.part) (with_move d act (index_of a d.stations))

-- the fault of a call is that of this effect; lack of memory may happen with any
abbrev pub Tells : ScriptLineFault → Result DraftData ScriptLineFault → Type 0
Tells Bad wanted = wanted ≡ Err Bad
Tells Unknown wanted = wanted ≡ Err Unknown
Tells Memory wanted = Unit {0}

abbrev pub Leaves : {A : Type 0} → Result A ScriptLineFault → DraftData → Result DraftData ScriptLineFault → Type 0
Leaves (Ok x) new wanted = wanted ≡ Ok new
Leaves (Err fault) new wanted = Tells fault wanted

-- the index of the station that a line names, if the line is in its part; or why the line is refused
abbrev pub Finds : Bool → Option ℕ → Result ℕ ScriptLineFault → Type 0
Finds takes index (Ok i) = (takes ≡ true) × (index ≡ Some i)
Finds takes index (Err Bad) = takes ≡ false
Finds takes index (Err Unknown) = (takes ≡ true) × (index ≡ None)
Finds takes index (Err Memory) = ⊥
