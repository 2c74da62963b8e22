use Rattle.std.proofs.Common.{sym, ap, ◌∙◌}
use Rattle.std.specs.Prelude.{is_some}
use Rattle.exercise_review.proofs.KeyList.{found_at}
use Rattle.exercise_review.proofs.Registered.{none_sought}
use Rattle.exercise_review.proofs.entry_chains.place_in_table.Goals as goal

pub returns-in-Some-clause-at : goal.returns-in-Some-clause-at
returns-in-Some-clause-at c = found_at c.args.ways.now.keys.keys c.args.key c.in-Some.place (sym c.get_index_of.ensures.index ∙ c.in-Some.is)

pub returns-in-None-clause-none : goal.returns-in-None-clause-none
returns-in-None-clause-none c _ keys n tied =
    none_sought keys n c.args.key c.args.ways.now tied (sym c.get_index_of.ensures.found ∙ ap is_some c.in-None.is)
