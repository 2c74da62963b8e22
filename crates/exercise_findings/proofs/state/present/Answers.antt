use Rattle.std.proofs.Common.{sym, ◌∙◌}
use Rattle.exercise_findings.proofs.Reported.{present-none}
use Rattle.exercise_findings.proofs.state.present.Goals as goal

pub loop-page-init : goal.loop-page-init
loop-page-init c = c.new-entities.ensures.items ∙ sym (present-none _)
