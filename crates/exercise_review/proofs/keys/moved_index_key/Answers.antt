use Rattle.std.proofs.Common.{ap, ◌∙◌}
use Rattle.exercise_review.specs.Register.{order_key}
use Rattle.exercise_review.proofs.keys.moved_index_key.Goals as goal

pub returns-then-from-to : goal.returns-then-from-to
returns-then-from-to c keys n p tied within is = c.indexed_key_place.ensures keys n tied within ∙ is ∙ ap (λ s. order_key s p) c.if-from-to.true

pub returns : goal.returns
returns c keys n p tied within is = c.index_key_of.ensures c.args.ways.now.keys ∙ c.key_at_station.ensures p (c.key_of_entry.ensures keys n tied within ∙ is)
