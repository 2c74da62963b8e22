-- A recording that is exported: read again, and its capture in its file.
use Rattle.std.proofs.Common.{◌≡◌, ℕ, List, Option, Ok, Err, sym, ap, ◌∙◌, inr}
use Rattle.std.proofs.KnownBytes.{Appends-kept}
use Rattle.std.specs.Io.KnownBytes.{Appends}
use Rattle.exercise_model.specs.Recording.{PlainRecording}
use Rattle.siman_outside.specs.Making.{Answered, PutsSettled, PutsBoth}
use Rattle.siman_outside.specs.Outside.{Stream, stream}
use Rattle.siman_outside.specs.Recorded.{Recorded}

recording_or : PlainRecording → Recorded → PlainRecording
recording_or other (Ok r) = r
recording_or other (Err fault) = other

-- what was read is the recording that the bytes are
pub one_recording : (log r : PlainRecording) (recorded : Recorded) → recorded ≡ Ok log → recorded ≡ Ok r → log ≡ r
unfolding recording_or
one_recording log r recorded read is = ap (recording_or r) (sym read ∙ is)

-- A text is whole in its file, which was settled, and then the line was written or not.
pub settled : (text line : List ℕ) (answered : Answered) (file out : Stream) (mid : Option (List ℕ)) → Appends file.old mid text
    → PutsSettled line answered (stream mid file.new) out → PutsBoth text line answered file out
settled text line (Ok status) file out mid whole said = (said.0, Appends-kept _ _ _ _ whole said.1, said.2)
settled text line (Err fault) file out mid whole (failed, kept, part) = (failed, inr (Appends-kept _ _ _ _ whole kept, part))
