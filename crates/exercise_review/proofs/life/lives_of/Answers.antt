use Rattle.std.proofs.Common.{sym, ◌∙◌}
use Rattle.exercise_review.proofs.Spans.{lives_none}
use Rattle.exercise_review.proofs.life.lives_of.Goals as goal

pub returns-else-is_entity : goal.returns-else-is_entity
returns-else-is_entity g c =
    lives_none c.args.findings.now c.args.station c.args.entity c.new.result.items (sym c.is_entity.ensures ∙ c.if-is_entity.false) c.new.ensures.items
