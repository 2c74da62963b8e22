-- What was fetched of a source is planned as all that there was would be.
use Rattle.std.proofs.Common.{subst}
use Rattle.std.specs.Prelude.{Err}
use Rattle.siman_outside.specs.declared.input.InputFault.{InputFault}
use Rattle.siman_outside.specs.declared.input.InputFault.TheVariants as inputs
use Rattle.siman_outside.specs.Ending.{of_unread_script}
use Rattle.siman_outside.proofs.Offered.{at_fault, of_any}
use Rattle.siman_plans.specs.PlanText.{said_at}
use Rattle.siman_exercise_commands.specs.Plan.{Said, Plans}
use Rattle.siman_exercise_commands.proofs.Sources.{of_source}
use Rattle.siman_exercise_commands.proofs.plan.read_plan.Goals as goal

not_read : (said : Said) (fault : InputFault) → Plans said (Err (of_unread_script fault))
not_read said (inputs.Unread failed) = tt
not_read said inputs.Memory = tt

pub returns-in_err-text : goal.returns-in_err-text
returns-in_err-text g c =
    of_any (λ text. Plans (said_at c.args.spelling text) c.from_residual.result) (g.R.Read.remaining c.args.source)
    (λ text. at_fault (Plans (said_at c.args.spelling text)) (of_unread_script c.in_err-text.field-0.0) _ c.from_residual.ensures.1
    (not_read (said_at c.args.spelling text) c.in_err-text.field-0.0))

pub returns : goal.returns
returns g c =
    of_source c.args.spelling (λ said. Plans said c.plan_text.result) (g.R.Read.remaining c.args.source) c.in_ok-text.text.items c.in_ok-text.ensures.text
    (subst (λ text. Plans (said_at c.args.spelling text) c.plan_text.result) c.deref.ensures.value c.plan_text.ensures)
