use Rattle.siman_application.proofs.Logs.{answers_stand, states_stand}
use Rattle.siman_application.proofs.laws.own_logs_stand.Goals as goal

pub returns : goal.returns
returns c = record { answers = answers_stand; states = states_stand }
