-- Whether parts of a log open as the log before them ends (profile).
use Rattle.std.specs.Prelude.{◌≡◌, ◌⊎◌, ℕ, List, [], ◌∷◌, ◌++◌, length, codes, nat_lt, ◌==◌, slice_index_or, Option, Some, None, Result, Ok, Err, if◌then◌else◌}
use Rattle.std.specs.Option.{option_or}
use Rattle.dis_records.specs.declared.entity_state.EntityState.{EntityState}
use Rattle.exercise_model.specs.Cause.{same_state}
use Rattle.exercise_model.specs.Recording.{PlainRecording}
use Rattle.exercise_findings.specs.State.{entities_before}
use Rattle.exercise_recording.specs.declared.format_fault.FormatFault.{FormatFault}
use Rattle.exercise_recording.specs.Joining.{place_among, LaterOpeningData, JointData}
use Rattle.exercise_recording.specs.Reading.{recording_at}
use Rattle.siman_outside.specs.declared.fault.Fault.{Fault}
use Rattle.siman_outside.specs.declared.fault.Fault.TheVariants.{Memory}
use Rattle.siman_outside.specs.declared.limits.TheConstants.{LARGEST_RECORDING}
use Rattle.siman_outside.specs.Ending.{fault_text, entity_words}
use Rattle.siman_file_commands.specs.declared.openings.OtherOpening.{OtherOpening}

-- ---- one opening list

-- the entity of which two entities with their states differ: the lower number, if the numbers differ; none if all is equal
abbrev pub pair_difference : (x y : ℕ × EntityState) → Option ℕ
pair_difference x y =
    if x.0 == y.0 then (if same_state x.1 y.1 then None else Some x.0)
    else Some (if nat_lt x.0 y.0 then x.0 else y.0)

-- THE FIRST ENTITY by number that one of two lists has alone or in another state, where the numbers of both rise
abbrev pub first_difference : (xs ys : List (ℕ × EntityState)) → Option ℕ
first_difference [] [] = None
first_difference [] (y ∷ ys) = Some y.0
first_difference (x ∷ xs) [] = Some x.0
first_difference (x ∷ xs) (y ∷ ys) = option_or (pair_difference x y) (first_difference xs ys)

-- the entities of a station that are not Absent before entry n, with their states; none past the last station
abbrev pub entities_then : PlainRecording → (station n : ℕ) → List (ℕ × EntityState)
entities_then r s n = if nat_lt s (length r.setting.stations) then entities_before r s n else []

-- the first entity of which an opening list has another state than the log of its station has made in the parts before it
abbrev pub other_entity : PlainRecording → LaterOpeningData → Option ℕ
other_entity r o = first_difference (entities_then r (place_among r.setting.stations o.station.address) o.entry) o.station.opening

-- ---- all

abbrev pub other_opening : LaterOpeningData → ℕ → OtherOpening
other_opening o e = record { piece = o.piece; address = o.station.address; entity = e }

abbrev pub other_with : LaterOpeningData → Option ℕ → Option OtherOpening → Option OtherOpening
other_with o None more = more
other_with o (Some e) more = Some (other_opening o e)

-- THE FIRST OPENING LIST that does not agree with the log before it
abbrev pub first_other : PlainRecording → List LaterOpeningData → Option OtherOpening
first_other r [] = None
first_other r (o ∷ os) = other_with o (other_entity r o) (first_other r os)

-- what is found in the recording of a file, if it is one
abbrev pub FindsOther : Result PlainRecording FormatFault → List LaterOpeningData → Result (Option OtherOpening) Fault → Type 0
FindsOther (Ok r) later (Ok other) = other ≡ first_other r later
FindsOther (Err format) later (Ok other) = ⊥
FindsOther recorded later (Err fault) = fault ≡ Memory

-- ---- the verdict

-- the fault `join: opening S:A:E in NAME`
abbrev pub opening_text : OtherOpening → (names : List (List ℕ)) → List ℕ
opening_text other names = codes "join: opening" ++ entity_words other.address.site other.address.application other.entity (slice_index_or names other.piece [])

-- THE PARTS GO ON: in the recording that the file is, each opening list agrees with the log before it
abbrev pub GoesOn : JointData → Type 0
GoesOn d = (r : PlainRecording) → recording_at LARGEST_RECORDING d.text ≡ Ok r → first_other r d.later ≡ None

-- THE FIRST THAT DOES NOT
abbrev pub IsOther : (names : List (List ℕ)) → JointData → Fault → Type 0
IsOther names d fault =
    (r : PlainRecording) × (other : OtherOpening) × (recording_at LARGEST_RECORDING d.text ≡ Ok r) × (first_other r d.later ≡ Some other) × (fault_text fault ≡ opening_text other names)

abbrev pub Judges : (names : List (List ℕ)) → JointData → Result (Unit {0}) Fault → Type 0
Judges names d (Ok u) = GoesOn d
Judges names d (Err fault) = (fault ≡ Memory) ⊎ IsOther names d fault
