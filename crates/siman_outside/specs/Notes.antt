-- The warnings of commands (profile).
use Rattle.std.specs.Prelude.{ℕ, zero, suc, ◌+◌, List, [], ◌∷◌, length, is_some, Option, Some, None, option_map, Result, Ok, Err, if◌then◌else◌}
use Rattle.exercise_model.specs.Entry.{Entry, Sent, Received, Told}
use Rattle.exercise_model.specs.Meaning.{meaning}
use Rattle.exercise_model.specs.Recording.{PlainRecording}
use Rattle.exercise_recording.specs.declared.format_fault.FormatFault.{FormatFault}
use Rattle.exercise_recording.specs.declared.mending.Mended.{Mended}
use Rattle.exercise_recording.specs.Mending.{Whole, mended_at}
use Rattle.siman_outside.specs.declared.commands.Reading.{Reading}
use Rattle.siman_outside.specs.declared.commands.Reading.TheVariants as readings
use Rattle.siman_outside.specs.declared.limits.TheConstants.{LARGEST_TORN_RECORDING}
use Rattle.siman_outside.specs.declared.notes.Warning.{Warning}
use Rattle.siman_outside.specs.declared.notes.Warning.TheVariants.{NothingMeant, Torn}

-- 1 for a datagram that means nothing in an exercise, none for one that means something
abbrev pub datagram_count : (exercise : ℕ) → List ℕ → Option ℕ
datagram_count exercise b = if is_some (meaning exercise b) then None else Some 1

-- the number of datagrams of an entry that mean nothing in an exercise; none if its datagram means something
abbrev pub entry_count : (exercise : ℕ) → Entry → Option ℕ
entry_count exercise (Sent s stamp b) = datagram_count exercise b
entry_count exercise (Received s stamp b) = datagram_count exercise b
entry_count exercise (Told s e y) = Some 0

abbrev pub both : Option ℕ → Option ℕ → Option ℕ
both None n = None
both (Some m) None = None
both (Some m) (Some n) = Some (m + n)

-- THE NUMBER OF DATAGRAMS OF ENTRIES, if none of them means anything in an exercise
abbrev pub meaningless_count : (exercise : ℕ) → List Entry → Option ℕ
meaningless_count exercise [] = Some 0
meaningless_count exercise (e ∷ es) = both (entry_count exercise e) (meaningless_count exercise es)

abbrev pub warned : (exercise : ℕ) → Option ℕ → Option Warning
warned exercise None = None
warned exercise (Some zero) = None
warned exercise (Some (suc n)) = Some (NothingMeant (suc n) exercise)

-- THE WARNING OF A RECORDING that has datagrams, none of which means anything in its exercise
abbrev pub meaningless_warning : PlainRecording → Option Warning
meaningless_warning r = warned r.setting.exercise (meaningless_count r.setting.exercise r.entries)

-- THE WARNING OF WHAT IS KEPT of a torn recording: its fault, and the number of the entries before it; none of a whole one
abbrev pub torn_warning : Result Whole FormatFault → Option Warning
torn_warning (Ok m) = option_map (λ fault. Torn fault (length m.recording.entries)) m.fault
torn_warning (Err fault) = None

-- the same, by the report of mending
abbrev pub told_warning : Mended → Option Warning
told_warning told = option_map (λ fault. Torn fault told.entries) told.fault

-- the warning of bytes, as they are read
abbrev pub warning_by : Reading → List ℕ → Option Warning
warning_by readings.Whole bytes = None
warning_by readings.Torn bytes = torn_warning (mended_at LARGEST_TORN_RECORDING bytes)
