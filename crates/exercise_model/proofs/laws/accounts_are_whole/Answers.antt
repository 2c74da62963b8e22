use Rattle.exercise_model.proofs.Wholes.{answer_paired, pair_of_answer, able_changed, change_of_able}
use Rattle.exercise_model.proofs.laws.accounts_are_whole.Goals as goal

pub returns : goal.returns
returns c = record { pairs = answer_paired; no_other_pairs = pair_of_answer; changes = able_changed; no_other_changes = change_of_able }
