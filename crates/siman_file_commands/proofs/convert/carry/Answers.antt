-- A recording was readied, or was not, and its line made.
use Rattle.std.proofs.Common.{inl, inr, refl, ap, ◌∙◌}
use Rattle.siman_file_commands.specs.Convert.{converted_text, Carries}
use Rattle.exercise_recording.specs.Reading.{recording_at}
use Rattle.siman_file_commands.specs.declared.convert.TheConstants.{LARGEST_OLD_RECORDING}
use Rattle.siman_file_commands.proofs.Conversions.{uncarried, readied}
use Rattle.siman_outside.proofs.Offered.{at_fault}
use Rattle.siman_file_commands.proofs.convert.carry.Goals as goal

pub returns-in_err-conversion : goal.returns-in_err-conversion
returns-in_err-conversion g c =
    let why = c.in_err-conversion.ensures in
    let recorded = recording_at LARGEST_OLD_RECORDING why.0 in
    (why.0, why.1, at_fault (Carries recorded) _ _ c.from_residual.ensures.1 (uncarried recorded c.in_err-conversion.field-0.0 why.2))

pub returns-in_err-line : goal.returns-in_err-line
returns-in_err-line g c =
    let ready = c.in_ok-conversion.ensures in
    (ready.0, ready.1, at_fault (Carries (recording_at LARGEST_OLD_RECORDING ready.0)) _ _ c.from_residual-in_err-line.ensures.1 (inl (inr (inr refl))))

pub returns : goal.returns
returns g c =
    let ready = c.in_ok-conversion.ensures in
    (ready.0, ready.1, readied c.in_ok-conversion.conversion _ (c.in_ok-line.ensures ∙ ap converted_text c.entry_count-entries.ensures) _ ready.2)
