-- The rows of entries, of which those of one more are printed, or not.
use Rattle.std.proofs.Common.{◌≡◌, ℕ, List, [], ◌∷◌, ◌++◌, take, refl, ap, sym, ◌∙◌, subst, append_assoc, append-nil}
use Rattle.std.specs.Prelude.{Option, Some, None, MatchOption, Ok, map}
use Rattle.std.specs.List.{AllByRecursion}
use Rattle.std.proofs.lemmas.List.{map-append}
use Rattle.std.proofs.lemmas.List.Concat.{flat_map-append}
use Rattle.std.specs.Io.KnownBytes.{Appends, Keeps}
use Rattle.std.proofs.KnownBytes.{Appends-trans, Appends-kept, Appends-nil}
use Rattle.byte_files.specs.Writing.{WritesPart}
use Rattle.byte_files.proofs.Offered.{writes_part, writes_later, written_part}
use Rattle.exercise_model.specs.Entry.{Entry}
use Rattle.exercise_model.specs.Recording.{PlainRecording, opened, with_entry}
use Rattle.exercise_model.specs.Setting.{SettingData}
use Rattle.siman_operator.specs.declared.printing.PrintFault.{PrintFault}
use Rattle.siman_operator.specs.declared.printing.PrintFault.TheVariants as faults
use Rattle.siman_print.specs.declared.spelling.Spelling.TheVariants.{Text}
use Rattle.siman_print.specs.Line.{Line}
use Rattle.siman_print.specs.Spelled.{line_spelled, lines_spelled}
use Rattle.siman_operator.specs.Notes.{AreNotes}
use Rattle.siman_operator.specs.Printing.{Printing, Noted, rows_of, rows_from, printed_text, IsPrinted, PrintsEntry, PrintsNotes, PrintsNothing, StopsPrinting}

-- a recording with the entries of these rows behind its own
abbrev behind : PlainRecording → List Noted → PlainRecording
behind r [] = r
behind r (n ∷ ns) = behind (with_entry r n.entry) ns

-- the rows of more entries follow
pub rows_more : (r : PlainRecording) (ns more : List Noted) → rows_from r (ns ++ more) ≡ rows_from r ns ++ rows_from (behind r ns) more
rows_more r [] more = refl
rows_more r (n ∷ ns) more =
    ap (λ (t : List ℕ). lines_spelled Text n.notes ++ (rows_of r n.entry ++ t)) (rows_more (with_entry r n.entry) ns more)
    ∙ (ap (λ (t : List ℕ). lines_spelled Text n.notes ++ t) (sym (append_assoc (rows_of r n.entry) (rows_from (with_entry r n.entry) ns) (rows_from (behind (with_entry r n.entry) ns) more)))
    ∙ sym (append_assoc (lines_spelled Text n.notes) (rows_of r n.entry ++ rows_from (with_entry r n.entry) ns) (rows_from (behind (with_entry r n.entry) ns) more)))

behind_is : (r : PlainRecording) (ns : List Noted) → behind r ns ≡ record { setting = r.setting; entries = r.entries ++ map (λ (n : Noted). n.entry) ns }
behind_is r [] = ap (λ (es : List Entry). record { setting = r.setting; entries = es }) (sym (append-nil r.entries))
behind_is r (n ∷ ns) =
    behind_is (with_entry r n.entry) ns
    ∙ ap (λ (es : List Entry). record { setting = r.setting; entries = es }) (append_assoc r.entries (n.entry ∷ []) (map (λ (m : Noted). m.entry) ns))

-- entries, the first of which has these notes
abbrev behind_notes : List Line → List Entry → List Noted
behind_notes notes [] = []
behind_notes notes (e ∷ es) = record { notes = notes; entry = e } ∷ behind_notes [] es

-- the notes that are left behind them
abbrev notes_left : List Line → List Entry → List Line
notes_left notes [] = notes
notes_left notes (e ∷ es) = []

-- what is printed of them
abbrev text_behind : PlainRecording → List Entry → List ℕ
text_behind r [] = []
text_behind r (e ∷ es) = rows_of r e ++ rows_from (with_entry r e) (behind_notes [] es)

entries_behind : (notes : List Line) (es : List Entry) → map (λ (r : Noted). r.entry) (behind_notes notes es) ≡ es
entries_behind notes [] = refl
entries_behind notes (e ∷ es) = ap (λ (l : List Entry). e ∷ l) (entries_behind [] es)

good_behind : (notes : List Line) (es : List Entry) → AreNotes notes → AllByRecursion (λ (r : Noted). AreNotes r.notes) (behind_notes notes es)
good_behind notes [] good = tt
good_behind notes (e ∷ es) good = (good, good_behind [] es tt)

good_left : (notes : List Line) (es : List Entry) → AreNotes notes → AreNotes (notes_left notes es)
good_left notes [] good = good
good_left notes (e ∷ es) good = tt

all_good : (rs more : List Noted) → AllByRecursion (λ (r : Noted). AreNotes r.notes) rs → AllByRecursion (λ (r : Noted). AreNotes r.notes) more
    → AllByRecursion (λ (r : Noted). AreNotes r.notes) (rs ++ more)
all_good [] more first second = second
all_good (r ∷ rs) more first second = (first.0, all_good rs more first.1 second)

pub notes_then : (first second : List Line) → AreNotes first → AreNotes second → AreNotes (first ++ second)
notes_then [] second one two = two
notes_then (l ∷ ls) second one two = (one.0, notes_then ls second one.1 two)

-- the text with more entries is that before, and what is printed of them
text_more : (w : SettingData) (rs : List Noted) (last : List Line) (es : List Entry)
    → printed_text w (rs ++ behind_notes last es) (notes_left last es) ≡ printed_text w rs last ++ text_behind (behind (opened w) rs) es
text_more w rs last [] =
    ap (λ (l : List Noted). printed_text w l last) (append-nil rs) ∙ sym (append-nil (printed_text w rs last))
text_more w rs last (e ∷ es) =
    append-nil (rows_from (opened w) (rs ++ behind_notes last (e ∷ es)))
    ∙ (rows_more (opened w) rs (behind_notes last (e ∷ es))
    ∙ sym (append_assoc (rows_from (opened w) rs) (lines_spelled Text last) (text_behind (behind (opened w) rs) (e ∷ es))))

-- of a text of which a prefix is out nothing more goes out
pub part_kept : (a b c : Option (List ℕ)) (s : List ℕ) → WritesPart a b s → Keeps b c → WritesPart a c s
part_kept a b c s part kept = (part.0, Appends-kept a b c (take part.0 s) part.1 kept)

-- nothing is out of a text
pub none_out : (a b : Option (List ℕ)) (s : List ℕ) → Keeps a b → WritesPart a b s
none_out a b s kept = (0, Appends-kept a a b [] (Appends-nil a) kept)

pub all_out : (a b : Option (List ℕ)) (s : List ℕ) → Appends a b s → WritesPart a b s
all_out a b s out = written_part {X = Unit {0}} {E = Unit {0}} (Ok (tt {0})) a b s out

line_at : (start o n : Option (List ℕ)) (f g : Option PrintFault) (s t : List ℕ)
    → MatchOption f (Appends start o s) (λ h. WritesPart start o s)
    → MatchOption f (MatchOption g (Appends o n t) (λ h. WritesPart o n t)) (λ h. (g ≡ Some h) × Keeps o n)
    → MatchOption g (Appends start n (s ++ t)) (λ h. WritesPart start n (s ++ t))
line_at start o n None None s t p q = Appends-trans start o n s t p q
line_at start o n None (Some h) s t p q = writes_later start o n s t p q
line_at start o n (Some h) None s t p q = absurd cc
line_at start o n (Some h) (Some k) s t p q = writes_part start n s t (part_kept start o n s p q.1)

-- where printing goes on, it went on before
went_on : (o n : Option (List ℕ)) (f g : Option PrintFault) (t : List ℕ) → g ≡ None
    → MatchOption f (MatchOption g (Appends o n t) (λ h. WritesPart o n t)) (λ h. (g ≡ Some h) × Keeps o n) → f ≡ None
went_on o n None g t none q = refl
went_on o n (Some h) None t none q = absurd cc
went_on o n (Some h) (Some k) t none q = absurd cc

-- the text of one more entry, where printing had stopped before
line_stopped : (start o n : Option (List ℕ)) (f g : Option PrintFault) (s t u : List ℕ) → (f ≡ None → t ≡ u)
    → MatchOption f (Appends start o s) (λ h. WritesPart start o s)
    → MatchOption f (MatchOption g (Appends o n t) (λ h. WritesPart o n t)) (λ h. (g ≡ Some h) × Keeps o n)
    → MatchOption g (Appends start n (s ++ u)) (λ h. WritesPart start n (s ++ u))
line_stopped start o n None g s t u same p q =
    subst (λ (v : List ℕ). MatchOption g (Appends start n (s ++ v)) (λ h. WritesPart start n (s ++ v))) (same refl) (line_at start o n None g s t p q)
line_stopped start o n (Some h) None s t u same p q = absurd cc
line_stopped start o n (Some h) (Some k) s t u same p q = writes_part start n s u (part_kept start o n s p q.1)

-- the recording of these rows, while printing goes on
log_is : (r : PlainRecording) (w : SettingData) (rs : List Noted) (es : List Entry) → map (λ (n : Noted). n.entry) rs ≡ es → r.setting ≡ w → r.entries ≡ es
    → r ≡ behind (opened w) rs
log_is r w rs es rows setting entries =
    ap (λ (v : SettingData). record { setting = v; entries = r.entries }) setting
    ∙ (ap (λ (l : List Entry). record { setting = w; entries = l }) (entries ∙ sym rows)
    ∙ sym (behind_is (opened w) rs))

-- ONE ENTRY MORE is printed, or a prefix of its rows, or none
pub prints_entry : (start : Option (List ℕ)) (es : List Entry) (e : Entry) (old new : Printing) → IsPrinted start es old → PrintsEntry e old new
    → IsPrinted start (es ++ e ∷ []) new
prints_entry start es e old new is prints =
    let w : SettingData = old.log.setting in
    let one : old.fault ≡ None → rows_of old.log e ≡ text_behind (behind (opened w) is.rows) (e ∷ []) =
    λ none. ap (λ (r : PlainRecording). rows_of r e) (log_is old.log w is.rows es is.entries refl (is.log none))
    ∙ sym (append-nil (rows_of (behind (opened w) is.rows) e)) in
    record {
      rows = is.rows ++ behind_notes is.last (e ∷ []);
      last = [];
      entries = map-append (λ (r : Noted). r.entry) is.rows (behind_notes is.last (e ∷ [])) ∙ ap (λ (l : List Entry). l ++ e ∷ []) is.entries;
      notes = (all_good is.rows (behind_notes is.last (e ∷ [])) is.notes.0 (good_behind is.last (e ∷ []) is.notes.1), tt);
      log = λ none.
          ap (λ (r : PlainRecording). r.entries) (prints.log none)
          ∙ ap (λ (l : List Entry). l ++ e ∷ []) (is.log (went_on old.out new.out old.fault new.fault (rows_of old.log e) none prints.text));
      out =
          subst (λ (v : SettingData). MatchOption new.fault (Appends start new.out (printed_text v (is.rows ++ behind_notes is.last (e ∷ [])) [])) (λ h. WritesPart start new.out (printed_text v (is.rows ++ behind_notes is.last (e ∷ [])) []))) (sym prints.setting)
          (subst (λ (t : List ℕ). MatchOption new.fault (Appends start new.out t) (λ h. WritesPart start new.out t)) (sym (text_more w is.rows is.last (e ∷ [])))
          (line_stopped start old.out new.out old.fault new.fault (printed_text w is.rows is.last) (rows_of old.log e) (text_behind (behind (opened w) is.rows) (e ∷ [])) one is.out prints.text));
    }

-- NOTES are printed, or a prefix of them, or none
pub prints_notes : (start : Option (List ℕ)) (es : List Entry) (notes : List Line) (old new : Printing) → AreNotes notes → IsPrinted start es old
    → PrintsNotes notes old new → IsPrinted start es new
prints_notes start es notes old new good is prints =
    let w : SettingData = old.log.setting in
    record {
      rows = is.rows;
      last = is.last ++ notes;
      entries = is.entries;
      notes = (is.notes.0, notes_then is.last notes is.notes.1 good);
      log = λ none.
          ap (λ (r : PlainRecording). r.entries) prints.0 ∙ is.log (went_on old.out new.out old.fault new.fault (lines_spelled Text notes) none prints.1);
      out =
          subst (λ (r : PlainRecording). MatchOption new.fault (Appends start new.out (printed_text r.setting is.rows (is.last ++ notes))) (λ h. WritesPart start new.out (printed_text r.setting is.rows (is.last ++ notes)))) (sym prints.0)
          (subst (λ (t : List ℕ). MatchOption new.fault (Appends start new.out t) (λ h. WritesPart start new.out t))
          (append_assoc (rows_from (opened w) is.rows) (lines_spelled Text is.last) (lines_spelled Text notes)
          ∙ ap (λ (t : List ℕ). rows_from (opened w) is.rows ++ t) (sym (flat_map-append (line_spelled Text) is.last notes)))
          (line_at start old.out new.out old.fault new.fault (printed_text w is.rows is.last) (lines_spelled Text notes) is.out prints.1));
    }

silent_at : (start o n : Option (List ℕ)) (f g : Option PrintFault) (s t : List ℕ) → MatchOption f (Appends start o s) (λ h. WritesPart start o s)
    → MatchOption f (g ≡ Some faults.Memory) (λ h. g ≡ Some h) → Keeps o n → MatchOption g (Appends start n (s ++ t)) (λ h. WritesPart start n (s ++ t))
silent_at start o n None None s t p q kept = absurd cc
silent_at start o n None (Some h) s t p q kept = writes_part start n s t (part_kept start o n s (all_out start o s p) kept)
silent_at start o n (Some h) None s t p q kept = absurd cc
silent_at start o n (Some h) (Some k) s t p q kept = writes_part start n s t (part_kept start o n s p kept)

-- printing that has stopped does not go on
stopped : {X : Type 0} (f g : Option PrintFault) → MatchOption f (g ≡ Some faults.Memory) (λ h. g ≡ Some h) → g ≡ None → X
stopped None g p none = absurd cc
stopped (Some h) g p none = absurd cc

-- no row more is printed, whatever is recorded
pub falls_silent : (start : Option (List ℕ)) (es more : List Entry) (old new : Printing) → IsPrinted start es old → StopsPrinting old new
    → IsPrinted start (es ++ more) new
falls_silent start es more old new is silent = record {
  rows = is.rows ++ behind_notes is.last more;
  last = notes_left is.last more;
  entries = map-append (λ (r : Noted). r.entry) is.rows (behind_notes is.last more)
      ∙ (ap (λ (l : List Entry). map (λ (r : Noted). r.entry) is.rows ++ l) (entries_behind is.last more) ∙ ap (λ (l : List Entry). l ++ more) is.entries);
  notes = (all_good is.rows (behind_notes is.last more) is.notes.0 (good_behind is.last more is.notes.1), good_left is.last more is.notes.1);
  log = λ none. stopped old.fault new.fault silent.1 none;
  out =
      subst (λ (r : PlainRecording). MatchOption new.fault (Appends start new.out (printed_text r.setting (is.rows ++ behind_notes is.last more) (notes_left is.last more))) (λ h. WritesPart start new.out (printed_text r.setting (is.rows ++ behind_notes is.last more) (notes_left is.last more)))) (sym silent.0)
      (subst (λ (t : List ℕ). MatchOption new.fault (Appends start new.out t) (λ h. WritesPart start new.out t)) (sym (text_more old.log.setting is.rows is.last more))
      (silent_at start old.out new.out old.fault new.fault (printed_text old.log.setting is.rows is.last) (text_behind (behind (opened old.log.setting) is.rows) more) is.out silent.1 silent.2));
}

kept_at : (start o n : Option (List ℕ)) (g : Option PrintFault) (s : List ℕ) → MatchOption g (Appends start o s) (λ h. WritesPart start o s) → Keeps o n
    → MatchOption g (Appends start n s) (λ h. WritesPart start n s)
kept_at start o n None s p kept = Appends-kept start o n s p kept
kept_at start o n (Some h) s p kept = part_kept start o n s p kept

-- nothing is printed, and nothing recorded
pub prints_nothing : (start : Option (List ℕ)) (es : List Entry) (old new : Printing) → IsPrinted start es old → PrintsNothing old new
    → IsPrinted start (es ++ []) new
prints_nothing start es old new is nothing = record {
  rows = is.rows;
  last = is.last;
  entries = is.entries ∙ sym (append-nil es);
  notes = is.notes;
  log = λ none. ap (λ (r : PlainRecording). r.entries) nothing.0 ∙ (is.log (sym nothing.1 ∙ none) ∙ sym (append-nil es));
  out =
      subst (λ (r : PlainRecording). MatchOption new.fault (Appends start new.out (printed_text r.setting is.rows is.last)) (λ h. WritesPart start new.out (printed_text r.setting is.rows is.last))) (sym nothing.0)
      (kept_at start old.out new.out new.fault (printed_text old.log.setting is.rows is.last)
      (subst (λ (f : Option PrintFault). MatchOption f (Appends start old.out (printed_text old.log.setting is.rows is.last)) (λ h. WritesPart start old.out (printed_text old.log.setting is.rows is.last)))
      (sym nothing.1) is.out) nothing.2);
}

-- nothing is printed before the first
pub none_printed : (start : Option (List ℕ)) (p : Printing) → p.log.entries ≡ [] → p.fault ≡ None → Keeps start p.out → IsPrinted start [] p
none_printed start p none fault kept = record {
  rows = [];
  last = [];
  entries = refl;
  notes = (tt, tt);
  log = λ on. none;
  out = subst (λ (f : Option PrintFault). MatchOption f (Appends start p.out []) (λ h. WritesPart start p.out [])) (sym fault) kept_none;
} where
  kept_none : Appends start p.out []
  kept_none = Appends-kept start start p.out [] (Appends-nil start) kept

-- a line that is out, and then flushed or not
pub out_then : (a b c : Option (List ℕ)) (r : Option PrintFault) (s : List ℕ) → Appends a b s → Keeps b c
    → MatchOption r (Appends a c s) (λ h. WritesPart a c s)
out_then a b c None s out kept = Appends-kept a b c s out kept
out_then a b c (Some h) s out kept = part_kept a b c s (all_out a b s out) kept
