use Rattle.exercise_model.proofs.Parted.{part_explained}
use Rattle.exercise_model.proofs.laws.parts_are_explained.Goals as goal

pub returns : goal.returns
returns c = part_explained
