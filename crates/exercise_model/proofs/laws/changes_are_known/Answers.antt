use Rattle.exercise_model.proofs.Knowledge.{change_known, able_known, entries_known}
use Rattle.exercise_model.proofs.laws.changes_are_known.Goals as goal

pub returns : goal.returns
returns c = record { known = change_known; there = able_known; entries = entries_known }
