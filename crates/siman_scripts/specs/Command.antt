-- Commands that lines of text give to a station, in the forms of the moves of a script (profile).
use Rattle.std.specs.Prelude.{ℕ, List, Option, Some, None}
use Rattle.std.specs.Option.{option_and_then}
use Rattle.dis_records.specs.declared.address.SiteApplication.{SiteApplication}
use Rattle.siman_scripts.specs.declared.act.Act.{Act}
use Rattle.siman_scripts.specs.declared.act.Act.TheVariants as acts
use Rattle.siman_scripts.specs.declared.command.Command.{Command}
use Rattle.siman_scripts.specs.declared.command.Command.TheVariants as commands
use Rattle.siman_scripts.specs.declared.command.StationTask.{StationTask}
use Rattle.siman_scripts.specs.declared.command.StationTask.TheVariants as tasks
use Rattle.siman_scripts.specs.declared.statement.Statement.{Statement}
use Rattle.siman_scripts.specs.declared.statement.Statement.TheVariants as says
use Rattle.siman_scripts.specs.Statement.{statement_of}

-- the task of a move: none of a delivery, since the links deliver
abbrev pub task_of : Act → Option StationTask
task_of (acts.Command order) = Some (tasks.Order order)
task_of (acts.Deliver place) = None
task_of acts.Tick = Some tasks.Repeat
task_of (acts.Tell e) = Some (tasks.Tell e)

abbrev pub asked : SiteApplication → Option StationTask → Option Command
asked a None = None
asked a (Some task) = Some (commands.Asks a task)

-- the command of a statement: nothing, a time of the clock, or a task
abbrev pub command_said : Statement → Option Command
command_said says.Nothing = Some commands.Nothing
command_said (says.At now) = Some (commands.At now)
command_said (says.Does a act) = asked a (task_of act)
command_said (says.Exercise x) = None
command_said (says.Station a rules) = None
command_said (says.Opening a e y) = None
command_said (says.Fixed a datum) = None
command_said (says.Action a id) = None

-- THE COMMAND OF A LINE, if it is ignored, or has the form of an `at` or of a move that is no `deliver`
abbrev pub command_of : List ℕ → Option Command
command_of line = option_and_then command_said (statement_of line)
