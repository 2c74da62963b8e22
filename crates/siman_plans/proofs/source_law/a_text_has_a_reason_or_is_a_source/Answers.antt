use Rattle.siman_plans.proofs.SourceLaws.{explained}
use Rattle.siman_plans.proofs.source_law.a_text_has_a_reason_or_is_a_source.Goals as goal

pub returns : goal.returns
returns c = explained c.args.text.now
