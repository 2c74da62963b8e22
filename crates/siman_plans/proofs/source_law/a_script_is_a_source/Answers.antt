use Rattle.siman_plans.proofs.SourceLaws.{source_too}
use Rattle.siman_plans.proofs.source_law.a_script_is_a_source.Goals as goal

pub returns : goal.returns
returns c = source_too c.args.text.now
