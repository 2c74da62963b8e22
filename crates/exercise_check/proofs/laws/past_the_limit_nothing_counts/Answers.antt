use Rattle.exercise_check.proofs.Limits.{read_cut}
use Rattle.exercise_check.proofs.laws.past_the_limit_nothing_counts.Goals as goal

pub returns : goal.returns
returns c = read_cut
