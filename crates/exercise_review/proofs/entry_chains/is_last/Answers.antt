use Rattle.std.proofs.Common.{Some, sym, ap, ◌∙◌}
use Rattle.std.proofs.lemmas.Bool.{eqb-true}
use Rattle.exercise_review.proofs.Registered.{last_of_key}
use Rattle.exercise_review.proofs.entry_chains.is_last.Goals as goal

pub returns-in-Some-last_in : goal.returns-in-Some-last_in
returns-in-Some-last_in c keys n k tied within is has =
    sym (last_of_key keys n c.in-Some.place k c.args.entry c.args.ways.now tied within has (sym c.place_at.ensures ∙ c.in-Some.is))
    ∙ sym c.last_in.ensures ∙ c.in-Some-last_in.is ∙ ap Some (eqb-true c.in-Some-last_in.last c.args.entry is)
