-- The sequence of all entries as the recording has them (profile).
use Rattle.std.specs.Prelude.{ℕ, take, false, Bool, nat_lt}
use Rattle.std.specs.Option.{option_map_or}
use Rattle.exercise_model.specs.Recording.{PlainRecording}
use Rattle.exercise_model.specs.History.{History, past}
use Rattle.exercise_model.specs.Run.{IsRun}
use Rattle.exercise_findings.specs.Source.{source_of}

-- the history of the entries below n, in the sequence of the recording
abbrev pub written_below : PlainRecording → ℕ → History
written_below r n = past (take n r.entries)

-- THE ENTRIES BELOW n ARE A RUN in the sequence of the recording
abbrev pub IsRunAsWritten : PlainRecording → ℕ → Type 0
IsRunAsWritten r n = IsRun r.setting (written_below r n)

-- entry n received its datagram from a recorded station, and an earlier entry of the recording sent it
abbrev pub is_sent_before : PlainRecording → ℕ → Bool
is_sent_before r n = option_map_or (λ j. nat_lt j n) (source_of r n) false
