use Rattle.exercise_check.proofs.Conversions.{step_alike, good_alike, refused_alike, one_refusal, never_refused, told_alike}
use Rattle.exercise_check.proofs.laws.conversion_keeps_checks.Goals as goal

pub returns : goal.returns
returns c = record { causes = step_alike; good = good_alike; bad = refused_alike; one = one_refusal; never = never_refused; account = told_alike }
