use Rattle.siman_plans.proofs.PlainLaws.{plain_is}
use Rattle.siman_plans.proofs.plain_law.plain_scripts_are_scripts.Goals as goal

pub returns : goal.returns
returns c spelling = plain_is spelling c.args.text.now
