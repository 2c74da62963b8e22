use Rattle.std.proofs.Common.{◌≡◌, true}
use Rattle.siman_stations.proofs.Deeds.{requests_ordered, deeds_stand, state_follows}
use Rattle.siman_stations.proofs.Runs.{all_run}
use Rattle.siman_stations.proofs.laws.deeds_have_no_cause.Goals as goal

pub returns-clause-requests : goal.returns-clause-requests
returns-clause-requests c = λ wants s a ds k log closed is. requests_ordered s a ds k log (closed ≡ true) is

pub returns-clause-deeds : goal.returns-clause-deeds
returns-clause-deeds c = λ wants s a ds k log closed is at clear. deeds_stand s a ds k log (closed ≡ true) is at clear

pub returns-clause-states : goal.returns-clause-states
returns-clause-states c = λ wants s a ds k log closed is none clear e. state_follows s a ds k log (closed ≡ true) is none clear e

pub returns-clause-run : goal.returns-clause-run
returns-clause-run c = λ w h. all_run w h
