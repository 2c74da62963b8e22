-- What `live` leaves: where no file is created, and what stands in one.
use Rattle.std.proofs.Common.{◌≡◌, ℕ, ◌≤◌, List, [], ◌++◌, length, take, refl, ap, sym, ◌∙◌, subst, inl, inr, arith, append-nil, ◌⊎◌}
use Rattle.std.specs.Prelude.{Bool, true, false, if◌then◌else◌, Option, Some, None, IsSome, Result, Ok, Err}
use Rattle.std.specs.Io.KnownBytes.{Appends}
use Rattle.std.specs.List.{flat_map}
use Rattle.std.proofs.lemmas.List.{take-append-le, take_all}
use Rattle.byte_files.specs.Writing.{WritesPart}
use Rattle.byte_files.proofs.Offered.{writes_part, writes_then}
use Rattle.exercise_model.specs.declared.form.Form.{Form}
use Rattle.exercise_model.specs.Entry.{Entry}
use Rattle.exercise_model.specs.History.{past}
use Rattle.exercise_model.specs.Recording.{IsRecording}
use Rattle.exercise_model.specs.Setting.{SettingData, IsSetting}
use Rattle.exercise_model.specs.Station.{StationData}
use Rattle.exercise_recording.specs.Text.{recording_text, head_text, entry_text, end_text}
use Rattle.exercise_recording.specs.declared.fault.WriterFault.{WriterFault}
use Rattle.exercise_recording.specs.declared.fault.WriterFault.TheVariants as faults
use Rattle.exercise_recording.specs.Writer.{WriterState, Starts, Tears, start_refusal, finish_refusal, unless_write}
use Rattle.siman_scripts.specs.declared.act.Move.{Move}
use Rattle.siman_lines.specs.declared.station_at_line.StationAtLine.{StationAtLine}
use Rattle.siman_lines.specs.AtLines.{Telling, AreFresh, AreRun, HasRecorded}
use Rattle.siman_lines.specs.KeptAtLine.{IsTail, IsWritten}
use Rattle.siman_lines.proofs.Offered.{beginning, recorded_at_lines}
use Rattle.siman_outside.specs.declared.fault.Fault.{Fault}
use Rattle.siman_outside.specs.Opening.{OpensInput}
use Rattle.siman_outside.specs.Outside.{Deed}
use Rattle.siman_exercise_commands.specs.Live.{is_created}
use Rattle.siman_exercise_commands.specs.Live.Lived.{EndsRecording, Performs, IsRecorded}

pub none_created : (name made : List ℕ) (deeds : List Deed) (fault : Fault) → OpensInput name made deeds (Err fault) → is_created deeds ≡ false
none_created name made deeds fault (inl (kind, is, open_fault)) = ap is_created is
none_created name made deeds fault (inr (bytes, is, same)) = ap is_created is

-- Of a file.

run_none : (w : SettingData) → AreRun w []
unfolding past
run_none w = λ sent. tt

-- nothing but a part of the head is there
pub part_of_head : (w : SettingData) (old new : Option (List ℕ)) (fault : Fault) → IsSetting w → WritesPart old new (head_text w)
    → IsRecorded w (Err fault) (record { old = old; new = new })
part_of_head w old new fault is text = (
  [],
  run_none w,
  (
    [],
    omega arith,
    record { setting = is; count = omega arith; each_entry = refl; each_stamp = refl },
    writes_part old new (head_text w ++ []) (end_text 0) (writes_part old new (head_text w) [] text),
  ),
)

-- what is written is a part
part_of_written : (old : Option (List ℕ)) (r : WriterState) (es : List Entry) → IsWritten old r es
    → (torn : List Entry) × (length torn ≤ 1) × IsRecording (record { setting = r.setting; entries = es ++ torn })
    × WritesPart old r.contents (recording_text (record { setting = r.setting; entries = es ++ torn }))
part_of_written None r es is = (
  [],
  omega arith,
  subst (λ (l : List Entry). IsRecording (record { setting = r.setting; entries = l })) (sym (append-nil es)) is.recording,
  (0, tt),
)
part_of_written (Some before) r es is =
    let b = beginning before r es is in
    let good = subst (λ (s : SettingData). IsRecording (record { setting = s; entries = es ++ b.torn })) b.setting
    (subst (λ (l : List Entry). IsRecording (record { setting = b.recording.setting; entries = l })) b.entries b.is) in
    let text : recording_text (record { setting = r.setting; entries = es ++ b.torn }) ≡ b.front ++ b.rest =
    sym (b.text ∙ (ap (λ (l : List Entry). recording_text (record { setting = b.recording.setting; entries = l })) b.entries
    ∙ ap (λ (s : SettingData). recording_text (record { setting = s; entries = es ++ b.torn })) b.setting)) in
    let front : take (length b.front) (recording_text (record { setting = r.setting; entries = es ++ b.torn })) ≡ b.front =
    ap (take (length b.front)) text ∙ (take-append-le (length b.front) b.front b.rest (omega arith) ∙ take_all (length b.front) b.front (omega arith)) in (
      b.torn,
      b.one,
      good,
      (
        length b.front,
        subst (λ (o : Option (List ℕ)). Appends (Some before) o (take (length b.front) (recording_text (record { setting = r.setting; entries = es ++ b.torn }))))
            (sym b.contents) (ap (λ (t : List ℕ). before ++ t) (sym front)),
      ),
    )

-- all entries are whole, and nothing stands behind them
whole_of_written : (old : Option (List ℕ)) (r : WriterState) (es : List Entry) → IsWritten old r es → r.spent ≡ false
    → Appends old r.contents (head_text r.setting ++ flat_map entry_text es)
whole_of_written old r es is fresh =
    let none : is.torn ≡ [] = subst (λ (b : Bool). IsTail b r.setting es is.torn) fresh is.tail in
    subst (Appends old r.contents) (ap (λ (t : List ℕ). head_text r.setting ++ flat_map entry_text es ++ t) none ∙ append-nil (head_text r.setting ++ flat_map entry_text es))
    is.contents

is_unspent : (r : WriterState) → finish_refusal r ≡ None → r.spent ≡ false
is_unspent r fine = by r.spent refl where
  by : (b : Bool) → r.spent ≡ b → r.spent ≡ false
  by false e = e
  by true e = absurd cc

-- nothing more was written
stopped_is_recorded : (w : SettingData) (old : Option (List ℕ)) (mid new : WriterState) (fault : Fault) (es : List Entry) → HasRecorded old w mid es → new ≡ mid
    → IsRecorded w (Err fault) (record { old = old; new = new.contents })
stopped_is_recorded w old mid new fault es has same =
    let part = part_of_written old mid es has.written in (
      es,
      has.run,
      (
        part.0,
        part.1,
        subst (λ (s : SettingData). IsRecording (record { setting = s; entries = es ++ part.0 })) has.setting part.2,
        subst (λ (s : SettingData). WritesPart old new.contents (recording_text (record { setting = s; entries = es ++ part.0 }))) has.setting
            (subst (λ (r : WriterState). WritesPart old r.contents (recording_text (record { setting = mid.setting; entries = es ++ part.0 }))) (sym same) part.3),
      ),
    )

-- the end is written, or not
ended_is_recorded : (w : SettingData) (old : Option (List ℕ)) (moved : Result (Unit {0}) Fault) (mid new : WriterState) (entries : Result ℕ Fault) (es : List Entry)
    → HasRecorded old w mid es → EndsRecording moved mid new entries → IsRecorded w entries (record { old = old; new = new.contents })
ended_is_recorded w old (Ok x) mid new (Ok n) es has ends =
    let text = writes_then {X = Unit {0}} {E = Fault} (Ok (tt {0})) old mid.contents new.contents (head_text mid.setting ++ flat_map entry_text es) (end_text mid.entries)
    (whole_of_written old mid es has.written (is_unspent mid ends.1)) ends.2.contents in (
      es,
      ends.0 ∙ has.written.count,
      has.run,
      subst (λ (s : SettingData). IsRecording (record { setting = s; entries = es })) has.setting has.written.recording,
      subst (λ (s : SettingData). Appends old new.contents (recording_text (record { setting = s; entries = es }))) has.setting
          (subst (λ (n : ℕ). Appends old new.contents (head_text mid.setting ++ flat_map entry_text es ++ end_text n)) has.written.count text),
    )
ended_is_recorded w old (Ok x) mid new (Err fault) es has (told, inl (spent, same)) = stopped_is_recorded w old mid new fault es has same
ended_is_recorded w old (Ok x) mid new (Err fault) es has (told, inr torn) =
    let text = writes_then {X = Unit {0}} (Err fault) old mid.contents new.contents (head_text mid.setting ++ flat_map entry_text es) (end_text mid.entries)
    (whole_of_written old mid es has.written (is_unspent mid torn.0)) torn.1.contents in (
      es,
      has.run,
      (
        [],
        omega arith,
        subst (λ (l : List Entry). IsRecording (record { setting = w; entries = l })) (sym (append-nil es))
            (subst (λ (s : SettingData). IsRecording (record { setting = s; entries = es })) has.setting has.written.recording),
        subst (λ (l : List Entry). WritesPart old new.contents (recording_text (record { setting = w; entries = l }))) (sym (append-nil es))
            (subst (λ (s : SettingData). WritesPart old new.contents (recording_text (record { setting = s; entries = es }))) has.setting
            (subst (λ (n : ℕ). WritesPart old new.contents (head_text mid.setting ++ flat_map entry_text es ++ end_text n)) has.written.count text)),
      ),
    )
ended_is_recorded w old (Err halted) mid new (Ok n) es has ends = absurd ends
ended_is_recorded w old (Err halted) mid new (Err fault) es has ends = stopped_is_recorded w old mid new fault es has ends.1

-- a recorder that is refused an end was spent before
spent_by : (spent : Bool) (fault : WriterFault) → (if spent then Some faults.Spent else None) ≡ Some fault → spent ≡ true
spent_by true fault refused = refl
spent_by false fault refused = absurd cc

-- why an end was not written
unfinished_by : (old new : WriterState) (fault : WriterFault) → finish_refusal old ≡ unless_write fault → (IsSome (unless_write fault) → new ≡ old)
    → (fault ≡ faults.Write → Tears old new (end_text old.entries)) → ((old.spent ≡ true) × (new ≡ old)) ⊎ ((finish_refusal old ≡ None) × Tears old new (end_text old.entries))
unfinished_by old new faults.Write refused unchanged torn = inr (refused, torn refl)
unfinished_by old new faults.Spent refused unchanged torn = inl (spent_by old.spent faults.Spent refused, unchanged refl)
unfinished_by old new faults.Count refused unchanged torn = inl (spent_by old.spent faults.Count refused, unchanged refl)
unfinished_by old new faults.Argument refused unchanged torn = inl (spent_by old.spent faults.Argument refused, unchanged refl)

pub unfinished : (old new : WriterState) (r : Result (Unit {0}) WriterFault) (fault : WriterFault) → r ≡ Err fault → finish_refusal old ≡ unless_write fault
    → (IsSome (unless_write fault) → new ≡ old) → (r ≡ Err faults.Write → Tears old new (end_text old.entries))
    → ((old.spent ≡ true) × (new ≡ old)) ⊎ ((finish_refusal old ≡ None) × Tears old new (end_text old.entries))
unfinished old new r fault was refused unchanged torn = unfinished_by old new fault refused unchanged (λ is. torn (was ∙ ap Err is))

-- the setting of a recording, part by part
setting_is : (w : SettingData) (form : Form) (exercise : ℕ) (stations : List StationData) → form ≡ w.form → exercise ≡ w.exercise → stations ≡ w.stations
    → record { form = form; exercise = exercise; stations = stations } ≡ w
setting_is w form exercise stations e1 e2 e3 = rw (e1, e2, e3) refl

pub as_setting : (P : SettingData → Type 0) (w : SettingData) (form : Form) (exercise : ℕ) (stations : List StationData) → form ≡ w.form → exercise ≡ w.exercise
    → stations ≡ w.stations → P (record { form = form; exercise = exercise; stations = stations }) → P w
as_setting P w form exercise stations e1 e2 e3 p = subst P (setting_is w form exercise stations e1 e2 e3) p

no_some : {X : Type 0} (o : Option X) (x : X) → o ≡ None → o ≡ Some x → ⊥
no_some o x e f = absurd cc

is_taken : (w : SettingData) → IsSetting w → start_refusal w ≡ None
is_taken w is = rw is.stations refl

-- why a recording was not started
pub unstarted : (w : SettingData) (old new : Option (List ℕ)) (fault : WriterFault) → IsSetting w → start_refusal w ≡ unless_write fault
    → (fault ≡ faults.Write → WritesPart old new (head_text w)) → WritesPart old new (head_text w)
unstarted w old new faults.Write is refused torn = torn refl
unstarted w old new faults.Spent is refused torn = absurd (no_some (start_refusal w) faults.Spent (is_taken w is) refused)
unstarted w old new faults.Count is refused torn = absurd (no_some (start_refusal w) faults.Count (is_taken w is) refused)
unstarted w old new faults.Argument is refused torn = absurd (no_some (start_refusal w) faults.Argument (is_taken w is) refused)

-- from the start of the recording to its end
pub performed_is_recorded : {L : Type 0} (told : Telling L) (old new : Option (List ℕ)) (w : SettingData) (first last : WriterState) (ps qs : List (StationAtLine L))
    (moves : List Move) (entries : Result ℕ Fault)
    → AreFresh told w ps → Starts old w first → new ≡ last.contents
    → Performs told moves (record { stations = ps; recorder = first }) (record { stations = qs; recorder = last }) entries
    → IsRecorded w entries (record { old = old; new = new })
performed_is_recorded told old new w first last ps qs moves entries fresh starts left does =
    let has = recorded_at_lines told old w first ps (record { stations = qs; recorder = does.mid }) fresh starts does.follows in
    subst (λ (o : Option (List ℕ)). IsRecorded w entries (record { old = old; new = o })) (sym left)
    (ended_is_recorded w old does.moved does.mid last entries has.0 has.1 does.end)
