use Rattle.exercise_audit.proofs.Conversions.{blocked_alike, answered_alike, one_explained, other_explained}
use Rattle.exercise_audit.proofs.laws.conversion_keeps_searches.Goals as goal

pub returns : goal.returns
returns c = record { blocked = blocked_alike; answers = answered_alike; one = one_explained; other = other_explained }
