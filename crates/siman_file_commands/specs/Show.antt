-- The output of `show` for a recording, and its ending.
use Rattle.std.specs.Prelude.{◌≡◌, ℕ, List, Option, Result, Ok}
use Rattle.exercise_recording.specs.declared.format_fault.FormatFault.{FormatFault}
use Rattle.exercise_model.specs.Recording.{PlainRecording}
use Rattle.siman_outside.specs.declared.fault.Fault.{Fault}
use Rattle.siman_outside.specs.Ending.{EndsWith}
use Rattle.siman_outside.specs.Outside.{Stream}
use Rattle.siman_outside.specs.Passing.{Gives, shown_status}
use Rattle.siman_print.specs.EntryLines.{show_text}

-- A recording was printed, or it could not be read.
abbrev pub Shows : Result PlainRecording FormatFault → Result (Unit {0}) Fault → Option (List ℕ) → Option (List ℕ) → Type 0
Shows recorded shown old new = Gives show_text recorded shown old new

-- The answer of `show`: the printed recording, with status 0, or a fault.
abbrev pub GivesShow : Result PlainRecording FormatFault → (answered : Result ℕ Fault) → (old new : Option (List ℕ)) → Type 0
GivesShow recorded answered old new = (shown : Result (Unit {0}) Fault) × Shows recorded shown old new × (answered ≡ shown_status shown)

-- THE ANSWER OF `show` for a recording
abbrev pub ShowsRecording : PlainRecording → Result ℕ Fault → (out : Stream) → Type 0
ShowsRecording r answered out = GivesShow (Ok r) answered out.old out.new

-- HOW `show` ENDS: its answer is on the output, and its status and fault are those of the answer
abbrev pub EndsShow : Result PlainRecording FormatFault → (status : ℕ) → (old new : Option (List ℕ)) → (errors_old errors_new : Option (List ℕ)) → Type 0
EndsShow recorded status old new errors_old errors_new =
    (answered : Result ℕ Fault) × GivesShow recorded answered old new × EndsWith answered status errors_old errors_new
