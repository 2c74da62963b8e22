use Rattle.siman_trials.proofs.Handed.{hands}
use Rattle.siman_trials.proofs.wire.WireLineLine.receive.Goals as goal

pub returns-in-Ok-clause-within : goal.returns-in-Ok-clause-within
returns-in-Ok-clause-within c = hands c.in-Ok.taken _ c.in-Ok.ensures.within
