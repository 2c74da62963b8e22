-- Nothing is done, if the clock is the system's.
use Rattle.siman_operator.proofs.Going.{goes_none}
use Rattle.siman_operator.proofs.post.Post.obey_at.Goals as goal

pub returns-in-System-clause-goes : goal.returns-in-System-clause-goes
returns-in-System-clause-goes g c = goes_none _
