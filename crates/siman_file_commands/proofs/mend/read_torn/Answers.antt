-- What of a recording stands whole was readied, or was not, and its line made.
use Rattle.std.proofs.Common.{Result, inl, inr, refl, ap, ◌∙◌}
use Rattle.exercise_recording.specs.declared.format_fault.FormatFault.{FormatFault}
use Rattle.exercise_recording.specs.declared.format_fault.RecordingFault.TheVariants as recordings
use Rattle.exercise_recording.specs.declared.mending.MendFault.{MendFault}
use Rattle.exercise_recording.specs.declared.mending.MendFault.TheVariants as mends
use Rattle.exercise_recording.specs.Mending.{Whole, MendingData, mended_at}
use Rattle.exercise_recording.specs.Mending.{IsUnmended as IsUnread}
use Rattle.siman_outside.specs.declared.limits.TheConstants.{LARGEST_TORN_RECORDING}
use Rattle.siman_outside.specs.Ending.{of_mend}
use Rattle.siman_file_commands.specs.Mend.{mended_text, IsUnmended, Mends}
use Rattle.siman_outside.proofs.Offered.{at_fault}
use Rattle.siman_file_commands.proofs.mend.read_torn.Goals as goal

unmended : (given : Result Whole FormatFault) (fault : MendFault) → IsUnread given fault → IsUnmended given (of_mend fault)
unmended given (mends.Recording (recordings.Format bad)) why = inl (bad, why, refl)
unmended given (mends.Recording recordings.Read) why = inr (inl refl)
unmended given (mends.Recording recordings.Memory) why = absurd why
unmended given mends.Write why = absurd why
unmended given mends.Memory why = inr (inr refl)

pub returns-in_err-mending : goal.returns-in_err-mending
returns-in_err-mending g c =
    let why = c.in_err-mending.ensures in
    let given = mended_at LARGEST_TORN_RECORDING why.0 in
    (why.0, why.1, at_fault (Mends given) _ _ c.from_residual.ensures.1 (unmended given c.in_err-mending.field-0.0 why.2))

pub returns-in_err-line : goal.returns-in_err-line
returns-in_err-line g c =
    let ready = c.in_ok-mending.ensures in
    let given = mended_at LARGEST_TORN_RECORDING ready.0 in
    (ready.0, ready.1, at_fault (Mends given) _ _ c.from_residual-in_err-line.ensures.1 (inr (inr refl)))

pub returns : goal.returns
returns g c =
    let ready = c.in_ok-mending.ensures in
    let whole = ready.2 in
    let told = c.in_ok-line.ensures ∙ ap mended_text (c.told.ensures ∙ ap (λ (d : MendingData). d.told) whole.2) in
    (ready.0, ready.1, (whole.0, whole.1, record { text_is = ap (λ (d : MendingData). d.text) whole.2; line_is = told }))
