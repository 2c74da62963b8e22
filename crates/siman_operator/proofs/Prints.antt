-- What is printed of what a station recorded.
use Rattle.std.proofs.Common.{◌≡◌, ℕ, ◌+◌, ◌<◌, ◌^◌, List, [], ◌∷◌, ◌++◌, length, refl, ap, sym, ◌∙◌, subst, inl, inr, arith, append-nil, length-append}
use Rattle.std.specs.Prelude.{Bool, true, false, ◌==◌, nat_lt, Option, Some, Result, Ok, Err, IfErr}
use Rattle.std.specs.Bool.{MatchBool}
use Rattle.std.proofs.lemmas.Bool.Decides.{nat_tests}
use Rattle.std.proofs.KnownBytes.{Keeps-refl}
use Rattle.dis_records.specs.declared.entity_state.EntityState.{EntityState}
use Rattle.exercise_model.specs.Entry.{Entry, Sent, Told, is_stamped}
use Rattle.exercise_model.specs.Recording.{PlainRecording}
use Rattle.exercise_recording.specs.declared.fault.WriterFault.{WriterFault}
use Rattle.exercise_recording.specs.declared.fault.WriterFault.TheVariants as writer_faults
use Rattle.exercise_recording.specs.Writer.{WriterState}
use Rattle.siman_application.specs.Application.{came}
use Rattle.siman_application.specs.Play.{state_over}
use Rattle.siman_manager.specs.declared.order.Order.{Order}
use Rattle.siman_stations.specs.declared.moment.Moment.{Moment}
use Rattle.siman_stations.specs.Recording.{WritesOne, WritesNone}
use Rattle.siman_lines.specs.declared.line.PassedOver.{PassedOver}
use Rattle.siman_lines.specs.declared.fault.AtLineFault.{AtLineFault}
use Rattle.siman_lines.specs.declared.fault.AtLineFault.TheVariants as faults
use Rattle.siman_lines.specs.declared.station_at_line.StationAtLine.{StationAtLine}
use Rattle.siman_lines.specs.AtLines.{OrdersAt, RepeatsAt, TellsAt, LeavesRefused}
use Rattle.siman_lines.specs.KeptAtLine.{IsWritten}
use Rattle.siman_lines.specs.LineDatagrams.{Datagrams, MayGrow}
use Rattle.siman_lines.proofs.Offered.{written_one, written_none}
use Rattle.siman_operator.specs.declared.tracing_line.TracingLine.{TracingLine}
use Rattle.siman_operator.specs.Noted.{last_of}
use Rattle.siman_operator.specs.Noting.{datagrams_sent, telling}
use Rattle.siman_operator.specs.Printing.{Printing, PrintsEntry, PrintsNothing, StopsPrinting}
use Rattle.siman_operator.specs.Deeds.{PrintsSent, PrintsAll}
use Rattle.siman_operator.proofs.Lines.{prints_entry, falls_silent, prints_nothing}
use Rattle.siman_operator.proofs.NotedLemmas.{last_more}

-- Tests.

pub is_same : (a b : ℕ) → a ≡ b → (a == b) ≡ true
is_same a b e = grind (arith, nat_tests)

pub is_other : (a b : ℕ) → a ≡ b + 1 → (a == b) ≡ false
is_other a b e = grind (arith, nat_tests)

pub stamped : (now : ℕ) → now < 2 ^ 64 → nat_lt now 18446744073709551616 ≡ true
stamped now h = grind (arith, nat_tests)

pub by_true : (P Q : Type 0) (b : Bool) → b ≡ true → MatchBool b P Q → P
by_true P Q true e h = h
by_true P Q false e h = absurd cc

pub by_false : (P Q : Type 0) (b : Bool) → b ≡ false → MatchBool b P Q → Q
by_false P Q true e h = absurd cc
by_false P Q false e h = h

pub at_true : (P Q : Type 0) (b : Bool) → b ≡ true → P → MatchBool b P Q
at_true P Q true e h = h
at_true P Q false e h = absurd cc

pub at_false : (P Q : Type 0) (b : Bool) → b ≡ false → Q → MatchBool b P Q
at_false P Q true e h = absurd cc
at_false P Q false e h = h

-- Of a recorder.

pub entries_none : (w v : WriterState) (e : Entry) (fault : WriterFault) → WritesNone w e fault v → v.entries ≡ w.entries
entries_none w v e writer_faults.Spent one = ap (λ (u : WriterState). u.entries) (one.unchanged refl)
entries_none w v e writer_faults.Count one = ap (λ (u : WriterState). u.entries) (one.unchanged refl)
entries_none w v e writer_faults.Argument one = ap (λ (u : WriterState). u.entries) (one.unchanged refl)
entries_none w v e writer_faults.Write one = (one.torn refl).entries

-- nothing is recorded and nothing printed
pub quiet : (w v : WriterState) (old new : Printing) → ((before : Option (List ℕ)) (es : List Entry) → IsWritten before w es → IsWritten before v es)
    → PrintsNothing old new → PrintsAll w v old new
quiet w v old new on nothing = λ before start es written printed. (
  [],
  subst (λ (l : List Entry). IsWritten before v l) (sym (append-nil es)) (on before es written),
  prints_nothing start es old new printed nothing,
)

pub nothing_new : (p : Printing) → PrintsNothing p p
nothing_new p = (refl, refl, Keeps-refl p.out)

pub still : (w v : WriterState) → v ≡ w → (before : Option (List ℕ)) (es : List Entry) → IsWritten before w es → IsWritten before v es
still w v e before es written = subst (λ (u : WriterState). IsWritten before u es) (sym e) written

-- an entry is recorded, and its rows printed
pub shows_one : (w v : WriterState) (e : Entry) (old new : Printing) → is_stamped e ≡ true → WritesOne w e v
    → PrintsEntry e old new → PrintsAll w v old new
shows_one w v e old new stamped one rows = λ before start es written printed.
    (e ∷ [], written_one before w v es e stamped written one, prints_entry start es e old new printed rows)

-- an entry is recorded, and no more is printed
pub hides_one : (w v : WriterState) (e : Entry) (old new : Printing) → is_stamped e ≡ true → WritesOne w e v → StopsPrinting old new
    → PrintsAll w v old new
hides_one w v e old new stamped one silent = λ before start es written printed.
    (e ∷ [], written_one before w v es e stamped written one, falls_silent start es (e ∷ []) old new printed silent)

-- Of what is sent.

-- the entry of what was sent last
abbrev pub last_sent : {L : Type 0} → StationAtLine (TracingLine L) → (now : ℕ) → Entry
last_sent q now = Sent q.index now (last_of (datagrams_sent q.line))

abbrev pub sent_case : {L : Type 0} → StationAtLine (TracingLine L) → (now sent : ℕ) → (old new : Printing) → Type 0
sent_case q now sent old new =
    MatchBool (length (datagrams_sent q.line) == sent) (StopsPrinting old new) (PrintsEntry (last_sent q now) old new)

pub sent_rows : {L : Type 0} (now : ℕ) (xs : Datagrams) (q : StationAtLine (TracingLine L)) (s : ℕ) (text : List ℕ) (old new : Printing) → q.index ≡ s
    → datagrams_sent q.line ≡ xs ++ text ∷ [] → sent_case q now (length xs) old new → PrintsEntry (Sent s now text) old new
sent_rows now xs q s text old new index grown is =
    let longer : length (datagrams_sent q.line) ≡ length xs + 1 = ap length grown ∙ length-append xs (text ∷ []) in
    let rows = by_false (StopsPrinting old new) (PrintsEntry (last_sent q now) old new) (length (datagrams_sent q.line) == length xs) (is_other (length (datagrams_sent q.line)) (length xs) longer) is in
    subst (λ (b : List ℕ). PrintsEntry (Sent s now b) old new) (ap last_of grown ∙ last_more xs text)
    (subst (λ (i : ℕ). PrintsEntry (Sent i now (last_of (datagrams_sent q.line))) old new) index rows)

pub sent_prints : {L : Type 0} (now : ℕ) (p q : StationAtLine (TracingLine L)) (w v : WriterState) (text : List ℕ) (old new : Printing) → now < 2 ^ 64
    → q.index ≡ p.index → WritesOne w (Sent p.index now text) v → MayGrow (Some (datagrams_sent p.line)) (Some (datagrams_sent q.line)) text
    → PrintsSent q v.entries now w.entries (length (datagrams_sent p.line)) old new → PrintsAll w v old new
sent_prints now p q w v text old new h index one (inl grown) is =
    shows_one w v (Sent p.index now text) old new (stamped now h) one
    (sent_rows now (datagrams_sent p.line) q p.index text old new index grown
    (by_false (PrintsNothing old new) (sent_case q now (length (datagrams_sent p.line)) old new) (v.entries == w.entries)
    (is_other v.entries w.entries one.adds.entries) is))
sent_prints now p q w v text old new h index one (inr same) is =
    hides_one w v (Sent p.index now text) old new (stamped now h) one
    (by_true (StopsPrinting old new) (PrintsEntry (last_sent q now) old new) (length (datagrams_sent q.line) == length (datagrams_sent p.line))
    (is_same (length (datagrams_sent q.line)) (length (datagrams_sent p.line)) (ap length same))
    (by_false (PrintsNothing old new) (sent_case q now (length (datagrams_sent p.line)) old new) (v.entries == w.entries)
    (is_other v.entries w.entries one.adds.entries) is))

-- nothing was recorded
pub unsent_prints : {L : Type 0} (now k : ℕ) (q : StationAtLine (TracingLine L)) (w v : WriterState) (old new : Printing)
    → v.entries ≡ w.entries → ((before : Option (List ℕ)) (es : List Entry) → IsWritten before w es → IsWritten before v es)
    → PrintsSent q v.entries now w.entries k old new → PrintsAll w v old new
unsent_prints now k q w v old new same on is =
    quiet w v old new on
    (by_true (PrintsNothing old new) (sent_case q now k old new) (v.entries == w.entries) (is_same v.entries w.entries same) is)

unwritten : {L : Type 0} (now k : ℕ) (q : StationAtLine (TracingLine L)) (w v : WriterState) (e : Entry) (fault : WriterFault) (old new : Printing)
    → is_stamped e ≡ true → WritesNone w e fault v → PrintsSent q v.entries now w.entries k old new → PrintsAll w v old new
unwritten now k q w v e fault old new good none is =
    unsent_prints now k q w v old new (entries_none w v e fault none) (λ before es written. written_none before w v es e fault good written none) is

resting : {L : Type 0} (now k : ℕ) (q : StationAtLine (TracingLine L)) (w v : WriterState) (old new : Printing)
    → v ≡ w → PrintsSent q v.entries now w.entries k old new → PrintsAll w v old new
resting now k q w v old new e is = unsent_prints now k q w v old new (ap (λ (u : WriterState). u.entries) e) (still w v e) is

pub order_prints : {L : Type 0} (passed : L → PassedOver) (at : Moment) (order : Order) (p q : StationAtLine (TracingLine L)) (w v : WriterState)
    (done : Result (Unit {0}) AtLineFault) (old new : Printing) → at.now < 2 ^ 64 → q.index ≡ p.index
    → OrdersAt (telling passed) at order p w q v done → IfErr done (LeavesRefused (telling passed) p w q v)
    → PrintsSent q v.entries at.now w.entries (length (datagrams_sent p.line)) old new → PrintsAll w v old new
order_prints passed at order p q w v (Ok u) old new h index ends refused is =
    sent_prints at.now p q w v _ old new h index ends.1.goes.entry (inl ends.1.goes.sent_are) is
order_prints passed at order p q w v (Err (faults.Station fault)) old new h index ends refused is =
    resting at.now _ q w v old new refused.1.recorder is
order_prints passed at order p q w v (Err faults.Line) old new h index ends refused is =
    sent_prints at.now p q w v _ old new h index ends.left.entry ends.left.may_be_sent is
order_prints passed at order p q w v (Err (faults.Record fault)) old new h index ends refused is =
    unwritten at.now _ q w v _ fault old new (stamped at.now h) ends.left.refused is
order_prints passed at order p q w v (Err faults.Memory) old new h index (inl ends) refused is =
    resting at.now _ q w v old new ends.1.recorder is
order_prints passed at order p q w v (Err faults.Memory) old new h index (inr ends) refused is =
    resting at.now _ q w v old new ends.2.recorder is

pub repeat_prints : {L : Type 0} (passed : L → PassedOver) (at : Moment) (p q : StationAtLine (TracingLine L)) (w v : WriterState)
    (done : Result (Unit {0}) AtLineFault) (old new : Printing) → at.now < 2 ^ 64 → q.index ≡ p.index
    → RepeatsAt (telling passed) at p w q v done
    → PrintsSent q v.entries at.now w.entries (length (datagrams_sent p.line)) old new → PrintsAll w v old new
repeat_prints passed at p q w v (Ok u) old new h index (true, ends) is =
    sent_prints at.now p q w v _ old new h index ends.1.goes.entry (inl ends.1.goes.sent_are) is
repeat_prints passed at p q w v (Ok u) old new h index (false, ends) is = resting at.now _ q w v old new ends.2.recorder is
repeat_prints passed at p q w v (Err (faults.Station fault)) old new h index ends is = absurd ends
repeat_prints passed at p q w v (Err faults.Line) old new h index ends is =
    sent_prints at.now p q w v _ old new h index ends.1.left.entry ends.1.left.may_be_sent is
repeat_prints passed at p q w v (Err (faults.Record fault)) old new h index ends is =
    unwritten at.now _ q w v _ fault old new (stamped at.now h) ends.1.left.refused is
repeat_prints passed at p q w v (Err faults.Memory) old new h index ends is = resting at.now _ q w v old new ends.2.recorder is

-- the rows stay of one setting
setting_of : (a b : PlainRecording) → a ≡ b → a.setting ≡ b.setting
setting_of a b e = ap (λ (r : PlainRecording). r.setting) e

pub sent_setting : {L : Type 0} (q : StationAtLine (TracingLine L)) (r now k j : ℕ) (old new : Printing) → PrintsSent q r now k j old new
    → new.log.setting ≡ old.log.setting
sent_setting q r now k j old new is = by (r == k) is where
  one : (t : Bool) → MatchBool t (StopsPrinting old new) (PrintsEntry (last_sent q now) old new) → new.log.setting ≡ old.log.setting
  one true stops = setting_of new.log old.log stops.0
  one false prints = prints.setting

  by : (t : Bool) → MatchBool t (PrintsNothing old new) (sent_case q now j old new) → new.log.setting ≡ old.log.setting
  by true nothing = setting_of new.log old.log nothing.0
  by false sent = one (length (datagrams_sent q.line) == j) sent

-- by counts that are these
pub at_counts : {L : Type 0} (q : StationAtLine (TracingLine L)) (r now k j i l : ℕ) (old new : Printing) → k ≡ i → j ≡ l
    → PrintsSent q r now k j old new → PrintsSent q r now i l old new
at_counts q r now k j i l old new e f is =
    subst (λ (n : ℕ). PrintsSent q r now n l old new) e (subst (λ (n : ℕ). PrintsSent q r now k n old new) f is)

-- Of what is told.

pub tell_prints : {L : Type 0} (e : ℕ) (y : EntityState) (p : StationAtLine (TracingLine L)) (w v : WriterState) (old new : Printing)
    → WritesOne w (Told p.index e (state_over p.node.application.outfit (came p.node.application) e)) v
    → y ≡ state_over p.node.application.outfit (came p.node.application) e → PrintsEntry (Told p.index e y) old new → PrintsAll w v old new
tell_prints e y p w v old new one state rows =
    shows_one w v (Told p.index e (state_over p.node.application.outfit (came p.node.application) e)) old new refl one
    (subst (λ (z : EntityState). PrintsEntry (Told p.index e z) old new) state rows)

pub untold_prints : {L : Type 0} (passed : L → PassedOver) (e : ℕ) (p : StationAtLine (TracingLine L)) (w v : WriterState) (fault : AtLineFault) (old : Printing)
    → TellsAt e p w v (Err fault) → LeavesRefused (telling passed) p w p v fault → PrintsAll w v old old
untold_prints passed e p w v (faults.Station fault) old ends refused = quiet w v old old (still w v refused.1.recorder) (nothing_new old)
untold_prints passed e p w v faults.Line old ends refused = absurd ends
untold_prints passed e p w v (faults.Record fault) old ends refused =
    quiet w v old old (λ before es written. written_none before w v es _ fault refl written ends) (nothing_new old)
untold_prints passed e p w v faults.Memory old ends refused = absurd ends
