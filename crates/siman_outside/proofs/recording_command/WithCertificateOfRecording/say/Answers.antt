-- A certificate was fetched and read, or could not be.
use Rattle.std.proofs.Common.{refl, inl, inr}
use Rattle.std.proofs.KnownBytes.{Keeps-refl}
use Rattle.exercise_check.specs.Certificate.{certificate_at}
use Rattle.siman_outside.specs.declared.limits.TheConstants.{LARGEST_CERTIFICATE}
use Rattle.siman_outside.specs.Outside.{stream}
use Rattle.siman_outside.specs.Recorded.{SaysOfCertificate}
use Rattle.siman_outside.proofs.Inputs.{at_fault}
use Rattle.siman_outside.proofs.Searches.{uncertified}
use Rattle.siman_outside.proofs.recording_command.WithCertificateOfRecording.say.Goals as goal

pub returns-in_err-certificate : goal.returns-in_err-certificate
returns-in_err-certificate g c =
    let read = c.in_err-certificate.ensures.read in
    let kept = g.W.Write.contents c.args.out.now in
    let Says = g.C.OfCertificate.says c.args.self.command (g.L.ExerciseLog.recording c.args.log.now) in
    let certified = certificate_at LARGEST_CERTIFICATE read.0 in (
      read.0,
      read.1,
      at_fault (λ answered. SaysOfCertificate Says certified answered (stream kept kept)) _ _ c.from_residual.ensures.1
          (inl (_, uncertified certified c.in_err-certificate.field-0.0 read.2, refl, Keeps-refl kept)),
    )

pub returns : goal.returns
returns g c = let read = c.in_ok-certificate.ensures.read in (read.0, read.1, inr (_, read.2, c.say.ensures))
