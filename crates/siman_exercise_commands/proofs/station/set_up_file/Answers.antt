-- What was fetched is set up as all that there was would be.
use Rattle.std.proofs.Common.{ℕ, List, subst, arith}
use Rattle.std.specs.Prelude.{Err}
use Rattle.dis_records.specs.declared.address.SiteApplication.{SiteApplication}
use Rattle.siman_outside.specs.declared.input.InputFault.{InputFault}
use Rattle.siman_outside.specs.declared.input.InputFault.TheVariants as inputs
use Rattle.siman_exercise_commands.specs.Explained.{TextRead, text_read}
use Rattle.siman_exercise_commands.specs.Station.{SetsUpRead}
use Rattle.siman_outside.specs.Ending.{of_unread_script}
use Rattle.siman_operator.specs.Clocks.{unit_by}
use Rattle.siman_operator.specs.declared.clock.WaitUnit.{WaitUnit}
use Rattle.siman_operator.specs.ShortForm.{is_short_form}
use Rattle.byte_files.specs.Fetching.{fetched}
use Rattle.siman_scripts.specs.declared.script.TheConstants.{LARGEST_SCRIPT}
use Rattle.siman_outside.proofs.Offered.{at_fault, of_any}
use Rattle.siman_exercise_commands.proofs.Scripts.{of_piece}
use Rattle.siman_exercise_commands.proofs.station.set_up_file.Goals as goal

not_read : (t : TextRead) (address : SiteApplication) (unit : WaitUnit) (fault : InputFault) → SetsUpRead t address unit (Err (of_unread_script fault))
not_read t address unit (inputs.Unread failed) = (tt, tt)
not_read t address unit inputs.Memory = (tt, tt)

pub returns-in_err-text : goal.returns-in_err-text
returns-in_err-text g c =
    of_any (λ text. SetsUpRead (text_read text) c.args.address (unit_by c.args.by_system (is_short_form c.args.address (fetched LARGEST_SCRIPT text))) c.from_residual.result) (g.R.Read.remaining c.args.script)
    (λ text. at_fault (SetsUpRead (text_read text) c.args.address (unit_by c.args.by_system (is_short_form c.args.address (fetched LARGEST_SCRIPT text)))) (of_unread_script c.in_err-text.field-0.0) _ c.from_residual.ensures.1
    (not_read (text_read text) c.args.address _ c.in_err-text.field-0.0))

pub returns : goal.returns
returns g c =
    of_piece (λ t piece. SetsUpRead t c.args.address (unit_by c.args.by_system (is_short_form c.args.address piece)) c.set_up_text.result) (g.R.Read.remaining c.args.script)
    c.in_ok-text.text.items c.in_ok-text.ensures.text (omega (arith, c.in_ok-text.ensures.limit))
    (subst (λ (text : List ℕ). SetsUpRead (text_read text) c.args.address (unit_by c.args.by_system (is_short_form c.args.address text)) c.set_up_text.result) c.deref.ensures.value
    (c.set_up_text.ensures.sets_up, c.set_up_text.ensures.why))
