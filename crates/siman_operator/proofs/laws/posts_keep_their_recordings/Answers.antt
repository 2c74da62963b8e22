use Rattle.siman_operator.proofs.Leaving.{go_on, leaves}
use Rattle.siman_operator.proofs.Single.{single}
use Rattle.siman_operator.proofs.laws.posts_keep_their_recordings.Goals as goal

pub returns-clause-lines : goal.returns-clause-lines
returns-clause-lines g c = go_on

pub returns-clause-leaves : goal.returns-clause-leaves
returns-clause-leaves g c = leaves

pub returns-clause-one : goal.returns-clause-one
returns-clause-one g c = single c.text_and_reading_agree.ensures.read
