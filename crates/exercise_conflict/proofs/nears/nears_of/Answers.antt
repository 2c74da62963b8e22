use Rattle.exercise_conflict.proofs.Likeness.{no_nears}
use Rattle.exercise_conflict.proofs.nears.nears_of.Goals as goal

pub loop-entry-init : goal.loop-entry-init
loop-entry-init g c = no_nears c.args.findings.now c.no_nears-nears.result c.no_nears-nears.ensures
