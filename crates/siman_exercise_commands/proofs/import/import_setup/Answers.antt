-- What was fetched of the setup is taken as all that there was would be.
use Rattle.std.proofs.Common.{ℕ, List, Option, subst}
use Rattle.std.specs.Prelude.{Err}
use Rattle.siman_outside.specs.declared.input.InputFault.{InputFault}
use Rattle.siman_outside.specs.declared.input.InputFault.TheVariants as inputs
use Rattle.siman_outside.specs.Ending.{of_unread_script}
use Rattle.siman_outside.proofs.Offered.{at_fault, of_any}
use Rattle.siman_exercise_commands.specs.Explained.{TextRead, text_read}
use Rattle.siman_exercise_commands.specs.Import.{ImportingData, importing_of, ImportsText}
use Rattle.siman_exercise_commands.proofs.Scripts.{of_text}
use Rattle.siman_exercise_commands.proofs.import.import_setup.Goals as goal

not_read : (i : ImportingData) (t : TextRead) (capture : Option (List ℕ)) (fault : InputFault) → ImportsText i t capture (Err (of_unread_script fault))
not_read i t capture (inputs.Unread failed) = (tt, tt)
not_read i t capture inputs.Memory = (tt, tt)

pub returns-in_err-text : goal.returns-in_err-text
returns-in_err-text g c =
    let i = importing_of c.args.importing.now in
    let capture = g.C.Read.remaining c.args.capture in
    of_any (λ text. ImportsText i (text_read text) capture c.from_residual.result) (g.R.Read.remaining c.args.setup)
    (λ text. at_fault (ImportsText i (text_read text) capture) (of_unread_script c.in_err-text.field-0.0) _ c.from_residual.ensures.1
    (not_read i (text_read text) capture c.in_err-text.field-0.0))

pub returns : goal.returns
returns g c =
    let i = importing_of c.args.importing.now in
    let capture = g.C.Read.remaining c.args.capture in
    of_text (λ t. ImportsText i t capture c.import_text.result) (g.R.Read.remaining c.args.setup) c.in_ok-text.text.items c.in_ok-text.ensures.text
    (subst (λ text. ImportsText i (text_read text) capture c.import_text.result) c.deref.ensures.value c.import_text.ensures)
