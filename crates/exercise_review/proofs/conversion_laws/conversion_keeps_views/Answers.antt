use Rattle.exercise_review.proofs.Conversions.{reviewed_alike, same_review}
use Rattle.exercise_review.proofs.conversion_laws.conversion_keeps_views.Goals as goal

pub returns-clause-alike : goal.returns-clause-alike
returns-clause-alike c = reviewed_alike

pub returns-clause-reviews : goal.returns-clause-reviews
returns-clause-reviews c = same_review
