-- The bytes were read and judged, or were not.
use Rattle.std.proofs.Common.{◌≡◌, ℕ, List, Ok, subst}
use Rattle.exercise_recording.specs.Reading.{recording_at}
use Rattle.siman_outside.specs.declared.limits.TheConstants.{LARGEST_RECORDING}
use Rattle.siman_outside.specs.declared.product.Product.TheVariants.{File}
use Rattle.siman_outside.specs.Recorded.{recording_by, IsUnsearched}
use Rattle.siman_outside.proofs.Offered.{at_fault}
use Rattle.siman_file_commands.specs.Export.{Exports}
use Rattle.siman_file_commands.proofs.export.ExportCommandOfFile.read.Goals as goal

pub returns-in_err-bytes : goal.returns-in_err-bytes
returns-in_err-bytes g c =
    let read = c.in_err-bytes.ensures.read in
    (read.0, read.1, at_fault (Exports (recording_by c.args.self.reading read.0)) _ _ c.from_residual.ensures.1 read.2)

pub returns-in_err-line : goal.returns-in_err-line
returns-in_err-line g c =
    let read = c.in_ok-bytes.ensures.read in
    let fault = c.in_err-line.field-0.0 in
    let why = subst (λ (bytes : List ℕ). IsUnsearched (recording_at LARGEST_RECORDING bytes) fault) c.deref.ensures.value c.in_err-line.ensures in
    let result = c.from_residual-in_err-line.result in
    let unread = subst (λ recorded. IsUnsearched recorded fault) read.2 why in
    (read.0, read.1, at_fault (Exports (recording_by c.args.self.reading read.0)) fault result c.from_residual-in_err-line.ensures.1 unread)

pub returns : goal.returns
returns g c =
    let bytes = c.in_ok-bytes.bytes in
    let line = c.in_ok-line.line in
    let read = c.in_ok-bytes.ensures.read in
    let given = c.in_ok-line.ensures in
    let is = subst (λ (text : List ℕ). recording_at LARGEST_RECORDING text ≡ Ok given.0) c.deref.ensures.value given.1 in
    let exported : Exports (recording_at LARGEST_RECORDING bytes.items) (Ok (File (record { bytes = bytes; line = line }))) =
    (given.0, is, record { kept_is = is; line_is = given.2 }) in
    (read.0, read.1, subst (λ recorded. Exports recorded (Ok (File (record { bytes = bytes; line = line })))) read.2 exported)
