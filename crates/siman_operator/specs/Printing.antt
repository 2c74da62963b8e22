-- The printing of entries as they are recorded (profile).
use Rattle.std.specs.Prelude.{◌≡◌, ◌⊎◌, ℕ, List, [], ◌∷◌, ◌++◌, length, map, Option, Some, None, MatchOption}
use Rattle.std.specs.List.{AllByRecursion}
use Rattle.std.specs.Io.KnownBytes.{Appends, Keeps}
use Rattle.byte_files.specs.Writing.{WritesPart}
use Rattle.exercise_model.specs.Entry.{Entry}
use Rattle.exercise_model.specs.Recording.{PlainRecording, opened, with_entry}
use Rattle.exercise_model.specs.Setting.{SettingData}
use Rattle.exercise_log.specs.Growing.{rows_so_far}
use Rattle.siman_print.specs.declared.spelling.Spelling.TheVariants.{Text}
use Rattle.siman_print.specs.Line.{Line}
use Rattle.siman_print.specs.Spelled.{lines_spelled}
use Rattle.siman_operator.specs.Notes.{AreNotes}
use Rattle.siman_operator.specs.declared.printing.EntryPrinter.{EntryPrinter}
use Rattle.siman_operator.specs.declared.printing.PrintFault.{PrintFault}
use Rattle.siman_operator.specs.declared.printing.PrintFault.TheVariants as faults

-- the output of rows, the recording of the entries whose rows were made, and why printing stopped, if it has
pub record Printing : Type 0 where
  pub out : Option (List ℕ)
  pub log : PlainRecording
  pub fault : Option PrintFault

-- what contracts see of a printer with this output
abbrev pub printing_of : EntryPrinter → (out : Option (List ℕ)) → Printing
printing_of p out = record { out = out; log = p.log; fault = p.fault }

-- the rows of an entry that is recorded next, as `log` has them, without what later entries decide
abbrev pub rows_of : PlainRecording → Entry → List ℕ
rows_of r e = lines_spelled Text (rows_so_far (with_entry r e) (length r.entries))

-- an entry, and the notes that are printed in front of its rows
pub record Noted : Type 0 where
  pub notes : List Line
  pub entry : Entry

-- the rows of entries that are recorded one after the other, with their notes
abbrev pub rows_from : PlainRecording → List Noted → List ℕ
rows_from r [] = []
rows_from r (n ∷ ns) = lines_spelled Text n.notes ++ (rows_of r n.entry ++ rows_from (with_entry r n.entry) ns)

-- the rows of the first entries of a recording with this setting, and the notes behind the last
abbrev pub printed_text : SettingData → List Noted → List Line → List ℕ
printed_text w ns last = rows_from (opened w) ns ++ lines_spelled Text last

-- THE ROWS OF THESE ENTRIES ARE PRINTED behind the earlier output, with notes in front of them, between them and
-- behind them, or a prefix of all that, if something could not be printed whole
pub record IsPrinted (start : Option (List ℕ)) (es : List Entry) (p : Printing) : Type 0 where
  pub rows : List Noted
  pub last : List Line
  pub entries : map (λ r. r.entry) rows ≡ es
  pub notes : AllByRecursion (λ r. AreNotes r.notes) rows × AreNotes last
  pub log : p.fault ≡ None → p.log.entries ≡ es
  pub out : MatchOption p.fault (Appends start p.out (printed_text p.log.setting rows last)) (λ fault. WritesPart start p.out (printed_text p.log.setting rows last))

-- a text is printed, or a prefix of it, after which printing stops; nothing, if it had stopped before
abbrev pub PrintsText : List ℕ → (old new : Printing) → Type 0
PrintsText text old new =
    MatchOption old.fault (MatchOption new.fault (Appends old.out new.out text) (λ fault. WritesPart old.out new.out text))
    (λ fault. (new.fault ≡ Some fault) × Keeps old.out new.out)

-- the rows of the next entry are printed, or a prefix of them, after which printing stops; nothing, if it had stopped
-- before
pub record PrintsEntry (e : Entry) (old new : Printing) : Type 0 where
  pub setting : new.log.setting ≡ old.log.setting
  pub log : new.fault ≡ None → new.log ≡ with_entry old.log e
  pub text : PrintsText (rows_of old.log e) old new

-- notes are printed, or a prefix of them, after which printing stops
abbrev pub PrintsNotes : List Line → (old new : Printing) → Type 0
PrintsNotes rows old new = (new.log ≡ old.log) × PrintsText (lines_spelled Text rows) old new

-- nothing is printed
abbrev pub PrintsNothing : (old new : Printing) → Type 0
PrintsNothing old new = (new.log ≡ old.log) × (new.fault ≡ old.fault) × Keeps old.out new.out

-- nothing is printed, and printing stops, since the entry is unknown
abbrev pub StopsPrinting : (old new : Printing) → Type 0
StopsPrinting old new =
    (new.log ≡ old.log) × MatchOption old.fault (new.fault ≡ Some faults.Memory) (λ fault. new.fault ≡ Some fault) × Keeps old.out new.out

-- notes are printed; or memory ran out for their text, and printing stops
abbrev pub MayNote : List Line → (old new : Printing) → Type 0
MayNote rows old new = PrintsNotes rows old new ⊎ StopsPrinting old new
