-- What was fetched is tried as all that there was would be.
use Rattle.std.proofs.KnownBytes.{Keeps-refl}
use Rattle.std.proofs.Common.{ℕ, List, Option, Err, subst}
use Rattle.siman_scripts.specs.Script.{script_at}
use Rattle.siman_outside.specs.declared.input.InputFault.{InputFault}
use Rattle.siman_outside.specs.declared.input.InputFault.TheVariants as inputs
use Rattle.siman_exercise_commands.specs.Explained.{Scripted}
use Rattle.siman_exercise_commands.specs.ScriptTrial.{Tries}
use Rattle.siman_exercise_commands.specs.TrialFaults.{unread}
use Rattle.siman_outside.proofs.Offered.{at_fault, of_any}
use Rattle.siman_exercise_commands.proofs.Scripts.{of_script}
use Rattle.siman_exercise_commands.proofs.script_trial.trial.Goals as goal

not_read : (scripted : Scripted) (fault : InputFault) (kept : Option (List ℕ)) → Tries scripted (Err (unread fault)) kept kept
not_read scripted (inputs.Unread failed) kept = Keeps-refl kept
not_read scripted inputs.Memory kept = Keeps-refl kept

pub returns-in_err-text : goal.returns-in_err-text
returns-in_err-text g c =
    let kept = g.W.Write.contents c.args.out.now in
    of_any (λ text. Tries (script_at text) c.from_residual.result kept kept) (g.R.Read.remaining c.args.input)
    (λ text. at_fault (λ r. Tries (script_at text) r kept kept) (unread c.in_err-text.field-0.0) _ c.from_residual.ensures.1
    (not_read (script_at text) c.in_err-text.field-0.0 kept))

pub returns : goal.returns
returns g c =
    let w = g.W.Write.contents in
    of_script (λ scripted. Tries scripted c.try_text.result (w c.args.out.now) (w c.try_text.new.out)) (g.R.Read.remaining c.args.input)
    c.in_ok-text.text.items c.in_ok-text.ensures.text
    (subst (λ text. Tries (script_at text) c.try_text.result (w c.args.out.now) (w c.try_text.new.out)) c.deref.ensures.value c.try_text.ensures)
