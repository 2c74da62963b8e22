use Rattle.exercise_model.proofs.Standing.{always_as_said}
use Rattle.exercise_model.proofs.laws.entries_have_one_place.Goals as goal

pub returns : goal.returns
returns c = λ r h explains. always_as_said r h explains
