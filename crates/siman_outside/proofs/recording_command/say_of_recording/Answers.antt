-- A recording was read, or could not be.
use Rattle.std.proofs.Common.{ℕ, List, subst, refl, inl}
use Rattle.std.proofs.KnownBytes.{Keeps-refl}
use Rattle.exercise_recording.specs.Reading.{recording_at}
use Rattle.siman_outside.specs.declared.limits.TheConstants.{LARGEST_RECORDING}
use Rattle.siman_outside.specs.Outside.{stream}
use Rattle.siman_outside.specs.Recorded.{Recorded, recording_by, SaysOfRecording}
use Rattle.siman_outside.proofs.Inputs.{at_fault}
use Rattle.siman_outside.proofs.recording_command.say_of_recording.Goals as goal

pub returns-in_err-bytes-clause-says : goal.returns-in_err-bytes-clause-says
returns-in_err-bytes-clause-says g c =
    let read = c.in_err-bytes.ensures.read in
    let kept = g.W.Write.contents c.args.out.now in
    let Says = g.C.OfRecording.says c.args.command in (
      read.0,
      read.1,
      at_fault (λ answered. SaysOfRecording Says (recording_by c.args.reading read.0) answered (stream kept kept)) _ _ c.from_residual.ensures.1
          (inl (_, read.2, refl, Keeps-refl kept)),
    )

pub returns-clause-says : goal.returns-clause-says
returns-clause-says g c =
    let w = g.W.Write.contents in
    let Says : Recorded → Type 0 = λ recorded. SaysOfRecording (g.C.OfRecording.says c.args.command) recorded c.say_of_bytes.result (stream (w c.args.out.now) (w c.say_of_bytes.new.out)) in
    let of_text = subst (λ (text : List ℕ). Says (recording_at LARGEST_RECORDING text)) c.deref.ensures.value c.say_of_bytes.ensures.says in
    let read = c.in_ok-bytes.ensures.read in
    (read.0, read.1, subst Says read.2 of_text)
