-- What was fetched is begun as all that there was would be.
use Rattle.std.proofs.Common.{◌≡◌, List, ℕ, subst, sym, ap}
use Rattle.std.specs.Prelude.{Ok, Err}
use Rattle.siman_scripts.specs.Script.{ScriptData, script_at}
use Rattle.siman_outside.specs.declared.input.InputFault.{InputFault}
use Rattle.siman_outside.specs.declared.input.InputFault.TheVariants as inputs
use Rattle.siman_exercise_commands.specs.declared.live.BegunText.{BegunText}
use Rattle.siman_exercise_commands.specs.Explained.{Scripted, TextRead, text_read, lines_if}
use Rattle.siman_exercise_commands.specs.Live.{IsBegun, BeginsText}
use Rattle.siman_outside.specs.Ending.{of_unread_script}
use Rattle.siman_outside.proofs.Offered.{at_fault, of_any}
use Rattle.siman_exercise_commands.proofs.Scripts.{of_text}
use Rattle.siman_exercise_commands.proofs.live.begin_script.Goals as goal

not_read : (t : TextRead) (fault : InputFault) → BeginsText t (Err (of_unread_script fault))
not_read t (inputs.Unread failed) = (tt, tt)
not_read t inputs.Memory = (tt, tt)

lines_of_script : (scripted : Scripted) (s : ScriptData) (text : List ℕ) → scripted ≡ Ok s → text ≡ lines_if scripted text
lines_of_script scripted s text is = sym (ap (λ (x : Scripted). lines_if x text) is)

pub returns-in_err-text : goal.returns-in_err-text
returns-in_err-text g c =
    of_any (λ text. BeginsText (text_read text) c.from_residual.result) (g.R.Read.remaining c.args.script)
    (λ text. at_fault (BeginsText (text_read text)) (of_unread_script c.in_err-text.field-0.0) _ c.from_residual.ensures.1
    (not_read (text_read text) c.in_err-text.field-0.0))

pub returns-in-Ok : goal.returns-in-Ok
returns-in-Ok g c =
    let items = c.in_ok-text.text.items in
    let kept : BegunText = record { begun = c.in-Ok.begun; text = c.in_ok-text.text } in
    let begun : IsBegun (script_at items) c.in-Ok.begun = subst (λ (text : List ℕ). IsBegun (script_at text) c.in-Ok.begun) c.deref.ensures.value c.in-Ok.ensures.begins in
    of_text (λ t. BeginsText t (Ok kept)) (g.R.Read.remaining c.args.script) items c.in_ok-text.ensures.text
    (begun, lines_of_script (script_at items) begun.script items begun.read)

pub returns : goal.returns
returns g c =
    let fault = c.in-Err.fault in
    let none = subst (λ (text : List ℕ). BeginsText (text_read text) (Err fault)) c.deref.ensures.value (c.in-Err.ensures.begins, c.in-Err.ensures.why) in
    of_text (λ t. BeginsText t (Err fault)) (g.R.Read.remaining c.args.script) c.in_ok-text.text.items c.in_ok-text.ensures.text none
