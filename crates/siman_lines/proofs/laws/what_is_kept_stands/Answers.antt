use Rattle.exercise_model.specs.History.{past}
use Rattle.siman_stations.proofs.Offered.{all_run}
use Rattle.siman_lines.proofs.Coming.{requests_kept, deeds_kept, one_kept, run_kept}
use Rattle.siman_lines.proofs.Stations.{beginning}
use Rattle.siman_lines.proofs.laws.what_is_kept_stands.Goals as goal

pub returns-clause-text : goal.returns-clause-text
returns-clause-text c = beginning

pub returns-clause-requests : goal.returns-clause-requests
returns-clause-requests c = requests_kept

pub returns-clause-deeds : goal.returns-clause-deeds
returns-clause-deeds c = deeds_kept

pub returns-clause-run : goal.returns-clause-run
returns-clause-run c = λ w es. all_run w (past es)

pub returns-clause-one_order : goal.returns-clause-one_order
returns-clause-one_order c = one_kept

pub returns-clause-own_run : goal.returns-clause-own_run
returns-clause-own_run c = run_kept
