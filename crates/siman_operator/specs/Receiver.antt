-- Receiver of an order for which its script may have no station (profile).
use Rattle.std.specs.Prelude.{◌≡◌, ◌⊎◌, ℕ, ◌==◌, Bool, ◌||◌, ◌&&◌, List, [], ◌++◌, codes, decimal, Option, Some, None, Result, Ok, Err, if◌then◌else◌}
use Rattle.std.specs.List.{list_any}
use Rattle.dis_records.specs.declared.address.SiteApplication.{SiteApplication}
use Rattle.dis_records.specs.Entity.{site_application_of}
use Rattle.byte_files.specs.Pieces.{behind, five}
use Rattle.siman_print.specs.Records.{line_end}
use Rattle.siman_scripts.specs.declared.command.Command.{Command}
use Rattle.siman_scripts.specs.declared.command.Command.TheVariants as commands
use Rattle.siman_scripts.specs.declared.command.StationTask.TheVariants as tasks
use Rattle.siman_operator.specs.declared.obeying.Rejection.{Rejection}
use Rattle.siman_operator.specs.declared.receiver.TheConstants.{EVERY}

-- a station receives what is sent to this site and application: it has that address, or the application means all
-- of its site
abbrev pub gets : (to : SiteApplication) → (station : SiteApplication) → Bool
gets to station = (station.site == to.site) && ((to.application == EVERY) || (station.application == to.application))

-- one of these stations receives it
abbrev pub is_got : List SiteApplication → (to : SiteApplication) → Bool
is_got stations to = list_any (gets to) stations

-- the site and application, if none of these stations receives it; something sent to every site is always received
abbrev pub missing : List SiteApplication → (to : SiteApplication) → Option SiteApplication
missing stations to = if (to.site == EVERY) || is_got stations to then None else Some to

-- THE RECEIVER OF AN ORDER THAT NOBODY RECEIVES: its site and application
abbrev pub absent_receiver : List SiteApplication → Option Command → Option SiteApplication
absent_receiver stations (Some (commands.Asks a (tasks.Order order))) = missing stations (site_application_of order.target)
absent_receiver stations other = None

-- THE RECEIVER THAT A WARNING NAMES, of a line that was done; none, if memory ran out; always none of a line that
-- was not done
abbrev pub WarnsOf : List SiteApplication → Option Command → Result (Unit {0}) Rejection → Option SiteApplication → Type 0
WarnsOf stations said (Ok x) nobody = (nobody ≡ absent_receiver stations said) ⊎ (nobody ≡ None)
WarnsOf stations said (Err why) nobody = nobody ≡ None

-- : the script has no station S:A: add it there, or see whether the address is right
abbrev pub nobody_text : (site application : ℕ) → List ℕ
nobody_text site application =
    five (codes ": the script has no station ") (decimal site ++ behind (codes ":") application) (codes ": add it there, or see whether the address is right" ++ line_end) [] []
