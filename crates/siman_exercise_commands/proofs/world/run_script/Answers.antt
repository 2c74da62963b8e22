-- What was fetched is run as all that there was would be.
use Rattle.std.proofs.Common.{subst}
use Rattle.siman_outside.specs.declared.input.InputFault.{InputFault}
use Rattle.siman_outside.specs.declared.input.InputFault.TheVariants as inputs
use Rattle.siman_exercise_commands.specs.Explained.{TextRead, text_read}
use Rattle.siman_exercise_commands.specs.World.{RunsText}
use Rattle.std.specs.Prelude.{Err}
use Rattle.siman_outside.specs.Ending.{of_unread_script}
use Rattle.siman_outside.proofs.Offered.{at_fault, of_any}
use Rattle.siman_exercise_commands.proofs.Scripts.{of_text}
use Rattle.siman_exercise_commands.proofs.world.run_script.Goals as goal

not_read : (t : TextRead) (fault : InputFault) → RunsText t (Err (of_unread_script fault))
not_read t (inputs.Unread failed) = (tt, tt)
not_read t inputs.Memory = (tt, tt)

pub returns-in_err-text : goal.returns-in_err-text
returns-in_err-text g c =
    of_any (λ text. RunsText (text_read text) c.from_residual.result) (g.R.Read.remaining c.args.script)
    (λ text. at_fault (RunsText (text_read text)) (of_unread_script c.in_err-text.field-0.0) _ c.from_residual.ensures.1
    (not_read (text_read text) c.in_err-text.field-0.0))

pub returns : goal.returns
returns g c =
    of_text (λ t. RunsText t c.run_text.result) (g.R.Read.remaining c.args.script) c.in_ok-text.text.items c.in_ok-text.ensures.text
    (subst (λ text. RunsText (text_read text) c.run_text.result) c.deref.ensures.value c.run_text.ensures)
