-- The text of a recording that is shown, in its parts.
use Rattle.std.proofs.Common.{◌≡◌, List, ℕ, ◌++◌, length, Option, Result, Err, inl, inr, refl}
use Rattle.exercise_recording.specs.Reading.{recording_at}
use Rattle.siman_outside.specs.declared.commands.Reading.TheVariants as readings
use Rattle.siman_outside.specs.declared.fault.Fault.{Fault}
use Rattle.siman_outside.specs.declared.limits.TheConstants.{LARGEST_RECORDING}
use Rattle.siman_outside.specs.Outside.{Given, Stream}
use Rattle.siman_outside.specs.Recorded.{SaysOfBytes}
use Rattle.siman_file_commands.specs.Show.{ShowsRecording, GivesShow}
use Rattle.exercise_model.specs.Recording.{PlainRecording}
use Rattle.siman_print.specs.declared.spelling.Spelling.TheVariants.{Text}
use Rattle.siman_print.specs.Spelled.{line_spelled}
use Rattle.siman_print.specs.Below.{texts_below}
use Rattle.siman_print.specs.EntryLines.{counts_line, station_shown, entry_shown, show_text}

-- the three parts of the text of a recording
pub whole_text : (r : PlainRecording) (line : List ℕ) → line ≡ line_spelled Text (counts_line r)
    → (line ++ texts_below (station_shown r) (length r.setting.stations)) ++ texts_below (entry_shown r) (length r.entries) ≡ show_text r
whole_text r line e = rw e refl

-- what is shown of a file
pub shown_file : (known : Option (List ℕ)) (answered : Result ℕ Fault) (out : Stream) → SaysOfBytes readings.Whole ShowsRecording known answered out
    → Given known (λ bytes. GivesShow (recording_at LARGEST_RECORDING bytes) answered out.old out.new)
shown_file known answered out (bytes, has, inl (fault, inl (bad, none, why), is, keeps)) = (bytes, has, (Err fault, rw why (none, keeps), is))
shown_file known answered out (bytes, has, inl (fault, inr (inl why), is, keeps)) = (bytes, has, (Err fault, rw why keeps, is))
shown_file known answered out (bytes, has, inl (fault, inr (inr why), is, keeps)) = (bytes, has, (Err fault, rw why (inl keeps), is))
shown_file known answered out (bytes, has, inr (r, read, shown)) = (bytes, has, rw read shown)
