use Rattle.std.proofs.Common.{sym, ap, ◌∙◌}
use Rattle.exercise_check.specs.Judging.{source_judgement}
use Rattle.exercise_check.proofs.judgement.judge_received.Goals as goal

pub returns-in-Some : goal.returns-in-Some
returns-in-Some g c steps tied = ap source_judgement (sym c.in-Some.is ∙ c.source_taken.ensures steps tied)

pub returns-in-None : goal.returns-in-None
returns-in-None g c steps tied = ap source_judgement (sym c.in-None.is ∙ c.source_taken.ensures steps tied)
