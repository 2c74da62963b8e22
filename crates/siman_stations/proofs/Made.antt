-- Moves that can be made, each after those before it.
use Rattle.std.proofs.Common.{◌≡◌, ℕ, ◌+◌, ◌<◌, List, [], ◌∷◌, length, refl}
use Rattle.std.specs.Prelude.{Bool, true, false, nat_lt, nat_le, Option, Some, None, if◌then◌else◌}
use Rattle.std.specs.Option.{option_map, option_or}
use Rattle.std.proofs.lemmas.Bool.{ltb-true}
use Rattle.exercise_model.specs.declared.recording.TheConstants.{MOST_ENTRIES}
use Rattle.siman_pdus.specs.Role.{is_request_body}
use Rattle.siman_manager.specs.declared.fault.OrderFault.{OrderFault}
use Rattle.siman_manager.specs.declared.order.Order.{Order}
use Rattle.siman_manager.specs.Book.{refusal}
use Rattle.siman_manager.specs.Calls.{count_made}
use Rattle.siman_scripts.specs.declared.act.Act.TheVariants.{Command}
use Rattle.siman_scripts.specs.declared.act.Move.{Move}
use Rattle.siman_stations.specs.StationTurn.{stamp_of}
use Rattle.siman_stations.specs.declared.world_fault.MoveFault.{MoveFault}
use Rattle.siman_stations.specs.declared.world_fault.MoveFault.TheVariants as faults
use Rattle.siman_stations.specs.declared.world_fault.WorldFault.TheVariants as world_faults
use Rattle.siman_stations.specs.World.{WorldData, Course, settings_of, act_fault, move_fault, first_fault, course_of}
use Rattle.siman_stations.specs.WorldLaw.{IsActInRange, AreMovesInRange}

-- a move that can be made after what happened, its numbers in their ranges
pub record IsMade (w : WorldData) (c : Course) (m : Move) : Type 0 where
  pub within : m.station < length w.stations
  pub can : act_fault w c m.station m.now m.act ≡ None
  pub range : IsActInRange m.act

abbrev pub AreMade : WorldData → List Move → Type 0
AreMade w [] = Unit {0}
AreMade w (m ∷ earlier) = IsMade w (course_of w earlier) m × AreMade w earlier

no_fault : (fits there : Bool) (act : Option MoveFault)
    → (if fits then (if there then act else Some faults.NoSuchStation) else Some faults.Records) ≡ None → (there ≡ true) × (act ≡ None)
no_fault true true act e = (refl, e)
no_fault true false act e = absurd cc
no_fault false there act e = absurd cc

pub neither : {X Y : Type 0} (o : Option Y) (f : X → Y) (p : Option X) → option_or o (option_map f p) ≡ None → (o ≡ None) × (p ≡ None)
neither None f None e = (refl, refl)
neither None f (Some x) e = absurd cc
neither (Some y) f p e = absurd cc

-- without a fault each move can be made
pub all_made : (w : WorldData) (moves : List Move) → AreMovesInRange moves → first_fault w moves ≡ None → AreMade w moves
all_made w [] ranges none = tt
all_made w (m ∷ earlier) ranges none =
    let parts = neither (first_fault w earlier) (world_faults.Move (length earlier)) (move_fault w (course_of w earlier) m) none in
    let fits = no_fault (nat_le (length (course_of w earlier).entries + 2) MOST_ENTRIES) (nat_lt m.station (length w.stations))
    (act_fault w (course_of w earlier) m.station m.now m.act) parts.1 in
    (record { within = ltb-true m.station (length w.stations) fits.0; can = fits.1; range = ranges.0 }, all_made w earlier ranges.1 parts.0)

pub can_order : (request : Bool) (r : Option OrderFault) → (if request then option_map faults.Order r else Some faults.NotARequest) ≡ None
    → (request ≡ true) × (r ≡ None)
can_order true None e = (refl, refl)
can_order true (Some fault) e = absurd cc
can_order false r e = absurd cc

-- an order that can be made is of a request, and is not refused
pub can_command : (w : WorldData) (c : Course) (s now : ℕ) (order : Order) → act_fault w c s now (Command order) ≡ None
    → (is_request_body order.body ≡ true)
    × (refusal (settings_of w s) (count_made (settings_of w s) (c.calls s)) order (stamp_of now) ≡ None)
can_command w c s now order can =
    can_order (is_request_body order.body) (refusal (settings_of w s) (count_made (settings_of w s) (c.calls s)) order (stamp_of now)) can
