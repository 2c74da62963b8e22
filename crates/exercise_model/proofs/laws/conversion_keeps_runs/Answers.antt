use Rattle.exercise_model.proofs.Conversions.{same_when_closed, explained_alike, stuck_alike, read_alike, limits_kept}
use Rattle.exercise_model.proofs.laws.conversion_keeps_runs.Goals as goal

pub returns : goal.returns
returns c = record { explained = explained_alike; stuck = stuck_alike; causes = same_when_closed; read = read_alike; limits = limits_kept }
