-- Nothing more is done where an entry was not recorded.
use Rattle.siman_operator.proofs.Going.{goes_none}
use Rattle.siman_operator.proofs.post.Post.serve_behind.Goals as goal

pub returns-then-is_unrecorded-clause-goes : goal.returns-then-is_unrecorded-clause-goes
returns-then-is_unrecorded-clause-goes g c = goes_none _
