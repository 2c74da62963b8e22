-- The file of a recording that was made of a capture.
use Rattle.std.proofs.Common.{◌≡◌, ℕ, List, ◌++◌, length, drop, false, refl, sym, ap, ◌∙◌}
use Rattle.std.specs.Prelude.{Option, Some, None, Result, Ok, Err, nat_lt, if◌then◌else◌, string_bytes}
use Rattle.exercise_model.specs.Station.{StationData}
use Rattle.exercise_recording.specs.declared.captures.import_fault.ImportFault.TheVariants as imports
use Rattle.exercise_recording.specs.declared.captures.packet_rule.PacketRule.{PacketRule}
use Rattle.exercise_recording.specs.Captures.Import.{MadeData}
use Rattle.siman_scripts.specs.Script.{ScriptData}
use Rattle.siman_scripts.specs.Stations.{WorldStationData}
use Rattle.siman_operator.specs.Scripted.{station_at}
use Rattle.siman_outside.specs.declared.fault.Fault.{Fault}
use Rattle.siman_outside.specs.declared.fault.Fault.TheVariants as faults
use Rattle.siman_outside.specs.declared.fault.Fault.TheVariants.{Memory}
use Rattle.siman_outside.specs.declared.import_words.ImportOpening.TheVariants as openings
use Rattle.siman_outside.specs.declared.limits.TheConstants.{LARGEST_RECORDING}
use Rattle.siman_exercise_commands.specs.declared.imported_file.ImportedFile.{ImportedFile}
use Rattle.siman_exercise_commands.specs.Explained.{TextRead}
use Rattle.siman_exercise_commands.specs.Import.{assumed_of, assuming_head, file_text, counted_line, assumed_lines, imported_text, written_text, FilesOf, ImportingData, rule_of, opened_as, GivesFile, ImportsText}

-- the file as it was made, of a station that opens as the setup says
pub as_made : (rule : PacketRule) (o : StationData) (m : MadeData) (file : ImportedFile) → file.made ≡ m → written_text file ≡ m.text
    → string_bytes file.line ≡ counted_line m → FilesOf None rule o m (Ok file)
as_made rule o m file made text line =
    (made, record { text = text ∙ ap (λ k. k.text) (sym made); line = line ∙ ap counted_line (sym made) }, λ d of_it. refl)

-- and of one that opens with no entity
pub as_made_of_none : (rule : PacketRule) (o : StationData) (m : MadeData) (file : ImportedFile) → file.made ≡ m → written_text file ≡ m.text
    → string_bytes file.line ≡ counted_line m → FilesOf (Some openings.Nothing) rule o m (Ok file)
as_made_of_none rule o m file made text line =
    (made, record { text = text ∙ ap (λ k. k.text) (sym made); line = line ∙ ap counted_line (sym made) }, λ d of_it. refl)

-- the file of a station that opens with what its log assumes
pub as_assumed : (rule : PacketRule) (o : StationData) (m : MadeData) (file : ImportedFile) (entities : List ℕ) → entities ≡ assumed_of m → file.made ≡ m
    → written_text file ≡ assuming_head rule.exercise o entities ++ drop m.start m.text → string_bytes file.line ≡ counted_line m ++ assumed_lines o.address entities
    → nat_lt LARGEST_RECORDING (length (written_text file)) ≡ false → FilesOf (Some openings.Assumed) rule o m (Ok file)
as_assumed rule o m file entities are made text line short =
    let whole : written_text file ≡ file_text (Some openings.Assumed) rule.exercise o m = text ∙ ap (λ es. assuming_head rule.exercise o es ++ drop m.start m.text) are in
    let said : string_bytes file.line ≡ imported_text (Some openings.Assumed) o.address m = line ∙ ap (λ es. counted_line m ++ assumed_lines o.address es) are in (
      made,
      record {
        text = whole ∙ ap (file_text (Some openings.Assumed) rule.exercise o) (sym made);
        line = said ∙ ap (imported_text (Some openings.Assumed) o.address) (sym made);
      },
      λ d of_it. ap (λ b. if b then Err imports.Size else Ok d) (
          ap (λ k. nat_lt LARGEST_RECORDING (length (file_text (Some openings.Assumed) rule.exercise o k))) (sym of_it)
          ∙ ap (λ bytes. nat_lt LARGEST_RECORDING (length bytes)) (sym whole) ∙ short
          ),
    )

-- what a capture gives by the rule for a station of the setup is what it gives to the words
pub imports_by : (i : ImportingData) (t : TextRead) (s : ScriptData) (w : WorldStationData) (capture : Option (List ℕ)) (result : Result ImportedFile Fault)
    → t.scripted ≡ Ok s → station_at i.address s.stations ≡ Some w
    → GivesFile i.choices.opening (rule_of s.exercise i) (opened_as i.choices.opening w.station) i.choices.interface capture result
    → ImportsText i t capture result
imports_by i t s w capture (Ok file) script found gives = (s, w, record { script = script; found = found }, gives.0, gives.1)
imports_by i t s w capture (Err (faults.Import imports.Memory)) script found gives = absurd gives
imports_by i t s w capture (Err (faults.Import fault)) script found gives = ((s, w, record { script = script; found = found }, gives), tt)
imports_by i t s w capture (Err Memory) script found gives = (tt, tt)
imports_by i t s w capture (Err other) script found gives = absurd gives
