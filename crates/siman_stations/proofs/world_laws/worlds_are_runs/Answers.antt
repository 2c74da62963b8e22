use Rattle.siman_stations.proofs.Closure.{state_is_told, entries_are_run}
use Rattle.siman_stations.proofs.world_laws.worlds_are_runs.Goals as goal

pub returns : goal.returns
returns c = record { run = entries_are_run; states = state_is_told }
