use Rattle.exercise_review.specs.Filter.{holds_under}
use Rattle.std.proofs.Common.{arith}
use Rattle.std.proofs.lemmas.Grind.{common_steps}
use Rattle.exercise_review.proofs.filter.holds_under.Goals as goal

pub loop-filter-preserved : goal.loop-filter-preserved
unfolding holds_under
loop-filter-preserved g c = grind (arith, common_steps)

pub returns-then-not-any : goal.returns-then-not-any
unfolding holds_under
returns-then-not-any g c = grind (arith, common_steps)

pub returns-else-not-any : goal.returns-else-not-any
unfolding holds_under
returns-else-not-any g c = grind (arith, common_steps)
