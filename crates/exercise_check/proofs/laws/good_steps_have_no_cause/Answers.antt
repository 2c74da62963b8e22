use Rattle.exercise_check.proofs.Goodness.{good_step, cause_none}
use Rattle.exercise_check.proofs.Links.{good_link}
use Rattle.exercise_check.proofs.Explained.{good_explains}
use Rattle.exercise_check.proofs.laws.good_steps_have_no_cause.Goals as goal

pub returns : goal.returns
returns c = record { good = good_step; none = cause_none; links = good_link; explains = λ r steps limits good. good_explains r limits steps good }
