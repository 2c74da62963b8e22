-- The station was set up, or not.
use Rattle.std.proofs.Common.{refl, subst, sym}
use Rattle.std.specs.Prelude.{Ok}
use Rattle.siman_outside.specs.declared.fault.Fault.{Fault}
use Rattle.siman_exercise_commands.specs.Explained.{GivesWhy}
use Rattle.siman_exercise_commands.specs.Station.{SetsUpNone}
use Rattle.siman_exercise_commands.proofs.Stood.{no_why, none_set_up}
use Rattle.siman_exercise_commands.proofs.station.set_up_script.Goals as goal

pub returns-in-Ok-clause-sets_up : goal.returns-in-Ok-clause-sets_up
returns-in-Ok-clause-sets_up c = (c.args.script, refl, c.in-Ok.ensures)

pub returns-in-Err-clause-sets_up : goal.returns-in-Err-clause-sets_up
returns-in-Err-clause-sets_up c =
    subst (λ (fault : Fault). SetsUpNone (Ok c.args.script) c.args.address c.args.unit fault) (sym c.of_set_up.ensures)
    (none_set_up c.args.script c.args.address c.args.unit c.in-Err.fault c.in-Err.ensures)

pub returns-in-Err-clause-why : goal.returns-in-Err-clause-why
returns-in-Err-clause-why c = λ t. subst (GivesWhy t) (sym c.of_set_up.ensures) (no_why t c.in-Err.fault)
