-- Warning of a script that has an order for a station that it lacks (profile).
use Rattle.std.specs.Prelude.{◌≡◌, ℕ, ◌==◌, Bool, ◌||◌, List, is_some, slice_get, Option, Some, None, if◌then◌else◌}
use Rattle.std.specs.List.{list_any}
use Rattle.dis_records.specs.declared.address.SiteApplication.{SiteApplication}
use Rattle.dis_records.specs.Entity.{site_application_of}
use Rattle.siman_scripts.specs.declared.act.Act.{Act}
use Rattle.siman_scripts.specs.declared.act.Act.TheVariants.{Command, Deliver, Tick, Tell}
use Rattle.siman_scripts.specs.declared.act.Move.{Move}
use Rattle.siman_scripts.specs.MoveLine.{line_of_move}
use Rattle.siman_scripts.specs.Script.{ScriptData}
use Rattle.siman_scripts.specs.Stations.{WorldStationData}
use Rattle.siman_operator.specs.Receiver.{gets}
use Rattle.siman_outside.specs.declared.notes.Warning.{Warning}
use Rattle.siman_outside.specs.declared.notes.Warning.TheVariants.{NoSuchStation}
use Rattle.siman_exercise_commands.specs.declared.warned.TheConstants.{EVERY}

-- one of these stations receives what is sent to this site and application
abbrev pub is_got : List WorldStationData → (to : SiteApplication) → Bool
is_got stations to = list_any (λ s. gets to s.station.address) stations

-- THE RECEIVER OF AN ORDER THAT NOBODY RECEIVES: its site and application, if none of these stations is there;
-- something sent to every site is always received
abbrev pub absent_receiver : List WorldStationData → Act → Option SiteApplication
absent_receiver stations (Command order) =
    if (order.target.site == EVERY) || is_got stations (site_application_of order.target) then None
    else Some (site_application_of order.target)
absent_receiver stations (Deliver k) = None
absent_receiver stations Tick = None
absent_receiver stations (Tell e) = None

-- nobody receives the order of a move
abbrev pub is_lost : List WorldStationData → Move → Bool
is_lost stations m = is_some (absent_receiver stations m.act)

-- A WARNING IS TRUE of a script, given its text: the order of that line is for this station, and nobody receives it
pub record WarnsOf (text : List ℕ) (s : ScriptData) (warning : Warning) : Type 0 where
  pub number : ℕ
  pub move : Move
  pub there : slice_get s.moves number ≡ Some move
  pub nobody : SiteApplication
  pub receiver : absent_receiver s.stations move.act ≡ Some nobody
  pub line : ℕ
  pub line_is : line_of_move text number ≡ Some line
  pub warning_is : warning ≡ NoSuchStation line nobody.site nobody.application
