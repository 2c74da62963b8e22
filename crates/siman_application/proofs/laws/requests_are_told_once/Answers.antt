use Rattle.siman_application.proofs.Logs.{steps_on, replies_on, again_same, once_same}
use Rattle.siman_application.proofs.laws.requests_are_told_once.Goals as goal

pub returns : goal.returns
returns c = record { steps = steps_on; reply = replies_on; repeated = again_same; once = once_same }
