-- Notes that are printed between the rows of entries.
use Rattle.std.proofs.Common.{◌≡◌, ℕ, zero, suc, List, [], ◌∷◌, ◌++◌, length, arith, refl, ap, sym, ◌∙◌, subst, inl, inr, append-nil, append_assoc}
use Rattle.std.specs.Prelude.{Bool, true, ◌==◌, Option, Some, None, Result, Ok, Err, IfOk}
use Rattle.std.proofs.lemmas.Bool.Decides.{nat_tests}
use Rattle.std.proofs.KnownBytes.{Appends-nil, Keeps-refl}
use Rattle.exercise_model.specs.Entry.{Entry}
use Rattle.exercise_model.specs.Recording.{PlainRecording}
use Rattle.exercise_recording.specs.Writer.{WriterState}
use Rattle.siman_lines.specs.declared.station_at_line.StationAtLine.{StationAtLine}
use Rattle.siman_lines.specs.KeptAtLine.{IsWritten}
use Rattle.siman_print.specs.declared.spelling.Spelling.TheVariants.{Text}
use Rattle.siman_print.specs.Line.{Line}
use Rattle.std.proofs.lemmas.List.Concat.{flat_map-append}
use Rattle.siman_print.specs.Spelled.{line_spelled, lines_spelled}
use Rattle.siman_operator.specs.declared.printing.PrintFault.{PrintFault}
use Rattle.siman_operator.specs.declared.tracing_line.TracingLine.{TracingLine}
use Rattle.siman_operator.specs.Deeds.{PostState, KeepsAll, PrintsAll, GoesOn}
use Rattle.siman_operator.specs.Notes.{AreNotes, rows_below}
use Rattle.siman_operator.specs.Noting.{datagrams_sent}
use Rattle.siman_operator.specs.Printing.{Printing, IsPrinted, PrintsText, PrintsNotes, MayNote}
use Rattle.siman_operator.proofs.Going.{goes_none}
use Rattle.siman_operator.proofs.Lines.{prints_notes, falls_silent, notes_then}

empty_at : (out : Option (List ℕ)) (log : PlainRecording) (fault : Option PrintFault) → PrintsText [] (record { out = out; log = log; fault = fault }) (record { out = out; log = log; fault = fault })
empty_at out log None = Appends-nil out
empty_at out log (Some fault) = (refl, Keeps-refl out)

-- nothing is printed of no text
pub prints_empty : (rows : List Line) (p : Printing) → [] ≡ lines_spelled Text rows → PrintsNotes rows p p
prints_empty rows p none = (refl, subst (λ (t : List ℕ). PrintsText t p p) none (empty_at p.out p.log p.fault))

noted_prints : (w : WriterState) (rows : List Line) (old new : Printing) → AreNotes rows → MayNote rows old new → PrintsAll w w old new
noted_prints w rows old new good (inl notes) = λ before start es written is. (
  [],
  subst (λ (l : List Entry). IsWritten before w l) (sym (append-nil es)) written,
  subst (λ (l : List Entry). IsPrinted start l new) (sym (append-nil es)) (prints_notes start es rows old new good is notes),
)
noted_prints w rows old new good (inr silent) = λ before start es written is. (
  [],
  subst (λ (l : List Entry). IsWritten before w l) (sym (append-nil es)) written,
  falls_silent start es [] old new is silent,
)

-- A POST THAT NOTES goes on
pub notes_go : {L : Type 0} (a b : PostState L) (rows : List Line) → b.station ≡ a.station → b.recorder ≡ a.recorder → b.printing.log.setting ≡ a.printing.log.setting → AreNotes rows
    → MayNote rows a.printing b.printing → GoesOn a b
notes_go {L} a b rows station recorder setting good notes = record {
  index = ap (λ (s : StationAtLine (TracingLine L)). s.index) station;
  setting = setting;
  keeps =
      subst (λ (s : StationAtLine (TracingLine L)). KeepsAll a.station.index a.station.node a.recorder (datagrams_sent a.station.line) s.node b.recorder (datagrams_sent s.line)) (sym station)
      (subst (λ (w : WriterState). KeepsAll a.station.index a.station.node a.recorder (datagrams_sent a.station.line) a.station.node w (datagrams_sent a.station.line)) (sym recorder)
      (goes_none a).keeps);
  prints = subst (λ (w : WriterState). PrintsAll a.recorder w a.printing b.printing) (sym recorder) (noted_prints a.recorder rows a.printing b.printing good notes);
}

-- the rows that a function gives are notes, if each of them is
pub notes_below : (f : ℕ → List Line) → ((k : ℕ) → AreNotes (f k)) → (n : ℕ) → AreNotes (rows_below f n)
unfolding rows_below
notes_below f each zero = tt
notes_below f each (suc n) = notes_then (rows_below f n) (f n) (notes_below f each n) (each n)

-- a list without items
pub no_items : (l : List ℕ) → length l ≡ 0 → l ≡ []
no_items [] none = refl
no_items (x ∷ l) none = absurd (omega (arith, none))

pub zero_by : (n : ℕ) (b : Bool) → b ≡ (n == 0) → b ≡ true → n ≡ 0
zero_by n b same holds = grind (arith, nat_tests)

-- rows behind a row, of which some are made
pub joined : {A E : Type 0} (bytes : A → List ℕ) (r : Result A E) (head : List ℕ) (first second : List Line)
    → IfOk r (λ x. bytes x ≡ head ++ lines_spelled Text first ++ lines_spelled Text second) → IfOk r (λ x. bytes x ≡ head ++ lines_spelled Text (first ++ second))
joined bytes (Ok x) head first second is = is ∙ append_assoc head (lines_spelled Text first) (lines_spelled Text second) ∙ ap (λ (t : List ℕ). head ++ t) (sym (flat_map-append (line_spelled Text) first second))
joined bytes (Err e) head first second is = tt
