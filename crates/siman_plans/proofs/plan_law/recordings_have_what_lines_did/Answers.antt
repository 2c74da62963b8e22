use Rattle.siman_plans.specs.Source.{read_at}
use Rattle.siman_plans.proofs.Said.{text_recorded}
use Rattle.siman_plans.proofs.plan_law.recordings_have_what_lines_did.Goals as goal

pub returns : goal.returns
returns c = text_recorded (read_at c.args.text.now)
