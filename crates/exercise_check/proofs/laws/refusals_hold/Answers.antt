use Rattle.exercise_check.proofs.Refusals.{refused}
use Rattle.exercise_check.proofs.laws.refusals_hold.Goals as goal

pub returns : goal.returns
returns c limit bytes fault fits e = refused limit bytes fault fits e
