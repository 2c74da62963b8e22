-- What stands in the file of an exercise.
use Rattle.std.proofs.Common.{◌≡◌, ℕ, List, [], ◌++◌, length, take, refl, ap, sym, ◌∙◌, subst, inl, inr, arith, append-nil, ◌⊎◌}
use Rattle.std.specs.Prelude.{Bool, true, false, Option, Some, None, IsSome, Ok, Err}
use Rattle.std.specs.Io.KnownBytes.{Appends, Keeps}
use Rattle.std.proofs.KnownBytes.{Keeps-refl}
use Rattle.std.specs.List.{flat_map}
use Rattle.std.proofs.lemmas.List.{take-append-le, take_all}
use Rattle.byte_files.specs.Writing.{WritesPart}
use Rattle.byte_files.proofs.Offered.{writes_part, writes_then}
use Rattle.exercise_model.specs.Entry.{Entry}
use Rattle.exercise_model.specs.History.{past, log_of}
use Rattle.exercise_model.specs.Recording.{IsRecording}
use Rattle.exercise_model.specs.Setting.{SettingData, IsSetting}
use Rattle.exercise_recording.specs.Text.{recording_text, head_text, entry_text, end_text}
use Rattle.exercise_recording.specs.declared.fault.WriterFault.{WriterFault}
use Rattle.exercise_recording.specs.declared.fault.WriterFault.TheVariants as faults
use Rattle.exercise_recording.specs.Writer.{WriterState, Finishes, Tears, finish_refusal, unless_write}
use Rattle.siman_lines.specs.AtLines.{AreRun, HasRecorded}
use Rattle.siman_lines.specs.KeptAtLine.{IsTail, IsWritten}
use Rattle.siman_lines.proofs.Offered.{beginning}
use Rattle.siman_trials.specs.declared.recorded.ExerciseFault.{ExerciseFault}
use Rattle.siman_trials.specs.Recorded.{ExplainThemselves, IsWhole, IsPart}

-- Of entries.

-- a run in the order of the file explains the recording of it
explains : (w : SettingData) (es : List Entry) → AreRun w es → ExplainThemselves w es
unfolding log_of
explains w es run = λ sent. record { run = run sent; logs = λ s. refl }

explains_none : (w : SettingData) → ExplainThemselves w []
unfolding past
explains_none w = explains w [] (λ sent. tt)

-- Of the head.

-- at most a part of the head is there
pub part_of_head : (w : SettingData) (old new : Option (List ℕ)) → IsSetting w → WritesPart old new (head_text w) → IsPart w old new
part_of_head w old new is text = record {
  entries = [];
  torn = [];
  one = omega arith;
  limits = record { setting = is; count = omega arith; each_entry = refl; each_stamp = refl };
  text = writes_part old new (head_text w ++ []) (end_text 0) (writes_part old new (head_text w) [] text);
  explained = explains_none w;
}

kept_same : (old new : Option (List ℕ)) → new ≡ old → Keeps old new
kept_same old new same = subst (λ (o : Option (List ℕ)). Keeps old o) (sym same) (Keeps-refl old)

-- a recording that was not started
pub not_started : (w : SettingData) (old new : Option (List ℕ)) (fault : WriterFault) → IsSetting w → (IsSome (unless_write fault) → new ≡ old)
    → (fault ≡ faults.Write → WritesPart old new (head_text w)) → Keeps old new ⊎ IsPart w old new
not_started w old new faults.Write is same torn = inr (part_of_head w old new is (torn refl))
not_started w old new faults.Spent is same torn = inl (kept_same old new (same refl))
not_started w old new faults.Count is same torn = inl (kept_same old new (same refl))
not_started w old new faults.Argument is same torn = inl (kept_same old new (same refl))

-- Of entries that are written whole.

-- what is written is a part
part_of_written : (old : Option (List ℕ)) (r : WriterState) (es : List Entry) → IsWritten old r es → AreRun r.setting es → IsPart r.setting old r.contents
part_of_written None r es is run = record {
  entries = es;
  torn = [];
  one = omega arith;
  limits = subst (λ (l : List Entry). IsRecording (record { setting = r.setting; entries = l })) (sym (append-nil es)) is.recording;
  text = (0, tt);
  explained = explains r.setting es run;
}
part_of_written (Some before) r es is run =
    let b = beginning before r es is in
    let text : recording_text (record { setting = r.setting; entries = es ++ b.torn }) ≡ b.front ++ b.rest =
    sym (b.text ∙ (ap (λ (l : List Entry). recording_text (record { setting = b.recording.setting; entries = l })) b.entries
    ∙ ap (λ (s : SettingData). recording_text (record { setting = s; entries = es ++ b.torn })) b.setting)) in
    let front : take (length b.front) (recording_text (record { setting = r.setting; entries = es ++ b.torn })) ≡ b.front =
    ap (take (length b.front)) text ∙ (take-append-le (length b.front) b.front b.rest (omega arith) ∙ take_all (length b.front) b.front (omega arith)) in
    record {
      entries = es;
      torn = b.torn;
      one = b.one;
      limits = subst (λ (s : SettingData). IsRecording (record { setting = s; entries = es ++ b.torn })) b.setting
          (subst (λ (l : List Entry). IsRecording (record { setting = b.recording.setting; entries = l })) b.entries b.is);
      text = (
        length b.front,
        subst (λ (o : Option (List ℕ)). Appends (Some before) o (take (length b.front) (recording_text (record { setting = r.setting; entries = es ++ b.torn }))))
            (sym b.contents) (ap (λ (t : List ℕ). before ++ t) (sym front)),
      );
      explained = explains r.setting es run;
    }

-- all entries are whole, and nothing stands behind them
all_written : (old : Option (List ℕ)) (r : WriterState) (es : List Entry) → IsWritten old r es → r.spent ≡ false
    → Appends old r.contents (head_text r.setting ++ flat_map entry_text es)
all_written old r es is fresh =
    let none : is.torn ≡ [] = subst (λ (b : Bool). IsTail b r.setting es is.torn) fresh is.tail in
    subst (Appends old r.contents) (ap (λ (t : List ℕ). head_text r.setting ++ flat_map entry_text es ++ t) none ∙ append-nil (head_text r.setting ++ flat_map entry_text es))
    is.contents

is_unspent : (r : WriterState) → finish_refusal r ≡ None → r.spent ≡ false
is_unspent r fine = by r.spent refl where
  by : (b : Bool) → r.spent ≡ b → r.spent ≡ false
  by false e = e
  by true e = absurd cc

-- Of the end.

-- the recording was not ended
pub stopped : (w : SettingData) (old : Option (List ℕ)) (mid : WriterState) (es : List Entry) → HasRecorded old w mid es → IsPart w old mid.contents
stopped w old mid es has =
    subst (λ (v : SettingData). IsPart v old mid.contents) has.setting
    (part_of_written old mid es has.written (subst (λ (v : SettingData). AreRun v es) (sym has.setting) has.run))

-- it was,
pub ended : (w : SettingData) (old : Option (List ℕ)) (mid new : WriterState) (es : List Entry) → HasRecorded old w mid es → finish_refusal mid ≡ None
    → Finishes mid new → IsWhole w old new.contents
ended w old mid new es has fine ends =
    let text = writes_then {X = Unit {0}} {E = ExerciseFault} (Ok (tt {0})) old mid.contents new.contents (head_text mid.setting ++ flat_map entry_text es) (end_text mid.entries)
    (all_written old mid es has.written (is_unspent mid fine)) ends.contents in
    record {
      entries = es;
      limits = subst (λ (s : SettingData). IsRecording (record { setting = s; entries = es })) has.setting has.written.recording;
      text = subst (λ (s : SettingData). Appends old new.contents (recording_text (record { setting = s; entries = es }))) has.setting
          (subst (λ (n : ℕ). Appends old new.contents (head_text mid.setting ++ flat_map entry_text es ++ end_text n)) has.written.count text);
      explained = explains w es has.run;
    }

-- or its end was torn.
torn_end : (w : SettingData) (old : Option (List ℕ)) (mid new : WriterState) (fault : ExerciseFault) (es : List Entry) → HasRecorded old w mid es
    → finish_refusal mid ≡ None → Tears mid new (end_text mid.entries) → IsPart w old new.contents
torn_end w old mid new fault es has fine torn =
    let text = writes_then {X = Unit {0}} (Err fault) old mid.contents new.contents (head_text mid.setting ++ flat_map entry_text es) (end_text mid.entries)
    (all_written old mid es has.written (is_unspent mid fine)) torn.contents in
    record {
      entries = es;
      torn = [];
      one = omega arith;
      limits = subst (λ (l : List Entry). IsRecording (record { setting = w; entries = l })) (sym (append-nil es))
          (subst (λ (s : SettingData). IsRecording (record { setting = s; entries = es })) has.setting has.written.recording);
      text = subst (λ (l : List Entry). WritesPart old new.contents (recording_text (record { setting = w; entries = l }))) (sym (append-nil es))
          (subst (λ (s : SettingData). WritesPart old new.contents (recording_text (record { setting = s; entries = es }))) has.setting
          (subst (λ (n : ℕ). WritesPart old new.contents (head_text mid.setting ++ flat_map entry_text es ++ end_text n)) has.written.count text));
      explained = explains w es has.run;
    }

same_part : (w : SettingData) (old : Option (List ℕ)) (mid new : WriterState) → new ≡ mid → IsPart w old mid.contents → IsPart w old new.contents
same_part w old mid new same part = subst (λ (r : WriterState). IsPart w old r.contents) (sym same) part

pub not_ended : (w : SettingData) (old : Option (List ℕ)) (mid new : WriterState) (fault : WriterFault) (why : ExerciseFault) (es : List Entry)
    → HasRecorded old w mid es → finish_refusal mid ≡ unless_write fault → (IsSome (unless_write fault) → new ≡ mid)
    → (fault ≡ faults.Write → Tears mid new (end_text mid.entries)) → IsPart w old new.contents
not_ended w old mid new faults.Write why es has refused same torn = torn_end w old mid new why es has refused (torn refl)
not_ended w old mid new faults.Spent why es has refused same torn = same_part w old mid new (same refl) (stopped w old mid es has)
not_ended w old mid new faults.Count why es has refused same torn = same_part w old mid new (same refl) (stopped w old mid es has)
not_ended w old mid new faults.Argument why es has refused same torn = same_part w old mid new (same refl) (stopped w old mid es has)

-- Of the setting, part by part.

setting_is : (w v : SettingData) → v.form ≡ w.form → v.exercise ≡ w.exercise → v.stations ≡ w.stations → v ≡ w
setting_is w v e1 e2 e3 = whole v.form v.exercise v.stations e1 e2 e3 where
  whole : (form : _) (exercise : ℕ) (stations : _) → form ≡ w.form → exercise ≡ w.exercise → stations ≡ w.stations
      → record { form = form; exercise = exercise; stations = stations } ≡ w
  whole form exercise stations f1 f2 f3 = rw (f1, f2, f3) refl

pub as_setting : (P : SettingData → Type 0) (w v : SettingData) → v.form ≡ w.form → v.exercise ≡ w.exercise → v.stations ≡ w.stations → P v → P w
as_setting P w v e1 e2 e3 p = subst P (setting_is w v e1 e2 e3) p
