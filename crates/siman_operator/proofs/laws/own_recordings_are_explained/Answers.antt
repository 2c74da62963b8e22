use Rattle.siman_operator.proofs.Explaining.{own_explained}
use Rattle.siman_operator.proofs.laws.own_recordings_are_explained.Goals as goal

pub returns : goal.returns
returns c = own_explained
