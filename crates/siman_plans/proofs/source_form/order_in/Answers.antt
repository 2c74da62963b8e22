use Rattle.std.proofs.Common.{arith}
use Rattle.siman_plans.proofs.SourceForms.{order_short}
use Rattle.siman_plans.proofs.source_form.order_in.Goals as goal

pub returns-in_default : goal.returns-in_default
returns-in_default c = rw (order_short c.args.words.now (omega arith)) c.statement_in.ensures
