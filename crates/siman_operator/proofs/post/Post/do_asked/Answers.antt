use Rattle.siman_operator.proofs.Going.{goes_none}
use Rattle.siman_operator.proofs.post.Post.do_asked.Goals as goal

pub returns-then-ne-clause-goes : goal.returns-then-ne-clause-goes
returns-then-ne-clause-goes g c = goes_none _
