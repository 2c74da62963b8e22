-- What is printed of a turn.
use Rattle.std.proofs.Common.{◌≡◌, ℕ, ◌+◌, ◌-◌, ◌<◌, ◌^◌, List, [], ◌∷◌, ◌++◌, length, refl, ap, sym, ◌∙◌, subst, inl, inr, arith, append_assoc, append-nil, ◌⊎◌, length-append}
use Rattle.std.specs.Prelude.{Bool, true, false, ◌==◌, ◌&&◌, Option, Some, None, Result, Ok, Err, reverse}
use Rattle.std.specs.Bool.{MatchBool}
use Rattle.std.specs.List.{list_all}
use Rattle.std.proofs.lemmas.Bool.Decides.{nat_tests}
use Rattle.std.proofs.lemmas.List.{length-reverse}
use Rattle.std.proofs.lemmas.List.Folds.{list_all-append}
use Rattle.siman_pdus.specs.declared.pdu.Pdu.{Pdu}
use Rattle.siman_pdus.specs.Spelling.{pdu_text}
use Rattle.exercise_model.specs.Recording.{PlainRecording}
use Rattle.exercise_model.specs.Entry.{Entry, Sent, Received, is_stamped}
use Rattle.exercise_recording.specs.declared.fault.WriterFault.{WriterFault}
use Rattle.exercise_recording.specs.Writer.{WriterState}
use Rattle.siman_application.specs.Application.{came}
use Rattle.siman_application.specs.AppProfile.{AppProfile}
use Rattle.siman_stations.specs.declared.moment.Moment.{Moment}
use Rattle.siman_stations.specs.Recording.{WritesOne, WritesNone}
use Rattle.siman_stations.specs.declared.turn.TurnFault.{TurnFault}
use Rattle.siman_stations.specs.declared.turn.TurnFault.TheVariants as turn_faults
use Rattle.siman_stations.specs.StationTurn.{sent_as, RecordsAll, FailsTurn}
use Rattle.siman_lines.specs.declared.line.PassedOver.{PassedOver}
use Rattle.siman_lines.specs.declared.fault.ServeFault.{ServeFault}
use Rattle.siman_lines.specs.declared.fault.ServeFault.TheVariants as faults
use Rattle.siman_lines.specs.declared.served.Served.{Served}
use Rattle.siman_lines.specs.declared.station_at_line.StationAtLine.{StationAtLine}
use Rattle.siman_lines.specs.AtLines.{state_at}
use Rattle.siman_lines.specs.KeptAtLine.{IsWritten}
use Rattle.siman_lines.specs.LineDatagrams.{Datagrams, GrowsAll, MayGrow}
use Rattle.siman_lines.specs.Serving.{State, HasServed, LosesSend, BreaksTurn, ServeEndsAt, reply_at, entries_after, text_of, texts_after, short_of, is_short}
use Rattle.siman_lines.proofs.Offered.{written_none, written_all, entries_stamped}
use Rattle.siman_operator.specs.declared.tracing_line.TracingLine.{TracingLine}
use Rattle.siman_operator.specs.Noted.{last_of}
use Rattle.siman_operator.specs.Noting.{datagrams_sent, datagrams_received, telling}
use Rattle.siman_operator.specs.Printing.{Printing, IsPrinted, PrintsEntry, PrintsNothing, StopsPrinting}
use Rattle.siman_operator.specs.Deeds.{PrintsSent, PrintsTurn, PrintsAll}
use Rattle.siman_operator.proofs.Lines.{falls_silent}
use Rattle.siman_operator.proofs.NotedLemmas.{last_more}
use Rattle.siman_operator.proofs.Prints.{stamped, by_true, by_false, entries_none, quiet, shows_one, sent_prints, unsent_prints, sent_setting}

-- Entries that are recorded one after the other.

records_then : (xs ys : List Entry) (w m v : WriterState) → RecordsAll WritesOne xs w m → RecordsAll WritesOne ys m v → RecordsAll WritesOne (xs ++ ys) w v
records_then [] ys w m v first second = subst (λ (u : WriterState). RecordsAll WritesOne ys u v) first second
records_then (x ∷ xs) ys w m v first second = (first.0, first.1, records_then xs ys first.0 m v first.2 second)

records_count : (xs : List Entry) (w v : WriterState) → RecordsAll WritesOne xs w v → v.entries ≡ w.entries + length xs
records_count [] w v all = ap (λ (u : WriterState). u.entries) all ∙ omega arith
records_count (x ∷ xs) w v all = omega (arith, records_count xs all.0 v all.2, all.1.adds.entries)

-- after the last of them nothing more is written whole
abbrev Tail : (m v : WriterState) → Type 0
Tail m v = (v ≡ m) ⊎ ((e : Entry) × (fault : WriterFault) × (is_stamped e ≡ true) × WritesNone m e fault v)

tail_written : (before : Option (List ℕ)) (m v : WriterState) (es : List Entry) → Tail m v → IsWritten before m es → IsWritten before v es
tail_written before m v es (inl same) written = subst (λ (u : WriterState). IsWritten before u es) (sym same) written
tail_written before m v es (inr (e, fault, good, none)) written = written_none before m v es e fault good written none

tail_count : (m v : WriterState) → Tail m v → v.entries ≡ m.entries
tail_count m v (inl same) = ap (λ (u : WriterState). u.entries) same
tail_count m v (inr (e, fault, good, none)) = entries_none m v e fault none

-- WHAT WAS RECORDED of turns
record Wrote (w v : WriterState) : Type 0 where
  entries : List Entry
  good : list_all is_stamped entries ≡ true
  mid : WriterState
  all : RecordsAll WritesOne entries w mid
  tail : Tail mid v

wrote_written : (before : Option (List ℕ)) (w v : WriterState) (es : List Entry) → (wrote : Wrote w v) → IsWritten before w es → IsWritten before v (es ++ wrote.entries)
wrote_written before w v es wrote written =
    tail_written before wrote.mid v (es ++ wrote.entries) wrote.tail (written_all before wrote.entries w wrote.mid es wrote.good written wrote.all)

no_entries : (es : List Entry) (n k : ℕ) → n ≡ k + length es → n ≡ k → es ≡ []
no_entries [] n k count same = refl
no_entries (e ∷ es) n k count same = absurd (omega (arith, count, same))

wrote_none : (before : Option (List ℕ)) (w v : WriterState) (es : List Entry) → Wrote w v → v.entries ≡ w.entries → IsWritten before w es → IsWritten before v es
wrote_none before w v es wrote same written =
    let none = no_entries wrote.entries v.entries w.entries (tail_count wrote.mid v wrote.tail ∙ records_count wrote.entries w wrote.mid wrote.all) same in
    let at : wrote.mid ≡ w = subst (λ (l : List Entry). RecordsAll WritesOne l w wrote.mid) none wrote.all in
    tail_written before wrote.mid v es wrote.tail (subst (λ (u : WriterState). IsWritten before u es) (sym at) written)

both_good : (xs ys : List Entry) → list_all is_stamped xs ≡ true → list_all is_stamped ys ≡ true → list_all is_stamped (xs ++ ys) ≡ true
both_good xs ys p q = rw (list_all-append, p, q) refl

one_good : (s now : ℕ) (b : List ℕ) → now < 2 ^ 64 → list_all is_stamped (Received s now b ∷ []) ≡ true
one_good s now b h = ap (λ (t : Bool). t && true) (stamped now h)

wrote_by : (s : ℕ) (mo : Moment) (turns : ℕ) (old new : State) (result : Result Served ServeFault) → mo.now < 2 ^ 64 → ServeEndsAt s mo turns old new result
    → Wrote old.recorder new.recorder
wrote_by s mo turns old new (Ok served) h ends =
    let a = old.node.application.outfit in
    let ds = came old.node.application in
    record {
      entries = entries_after a ds s mo (short_of ends.datagrams);
      good = entries_stamped s mo a ds (short_of ends.datagrams) h;
      mid = new.recorder;
      all = ends.done.taken.entries;
      tail = inl refl;
    }
wrote_by s mo turns old new (Err faults.Receive) h ends =
    let a = old.node.application.outfit in
    let ds = came old.node.application in
    record {
      entries = entries_after a ds s mo (short_of ends.datagrams);
      good = entries_stamped s mo a ds (short_of ends.datagrams) h;
      mid = new.recorder;
      all = ends.done.taken.entries;
      tail = inl refl;
    }
wrote_by s mo turns old new (Err faults.Send) h ends =
    let a = old.node.application.outfit in
    let ds = came old.node.application in
    record {
      entries = entries_after a ds s mo (ends.datagram ∷ short_of ends.earlier);
      good = entries_stamped s mo a ds (ends.datagram ∷ short_of ends.earlier) h;
      mid = new.recorder;
      all = ends.taken.entries;
      tail = inl refl;
    }
wrote_by s mo turns old new (Err (faults.Record fault)) h ends = by ends.broken where
  a : AppProfile
  a = old.node.application.outfit

  ds : List Pdu
  ds = came old.node.application

  first : List Entry
  first = entries_after a ds s mo (short_of ends.earlier)

  by : FailsTurn WritesOne WritesNone s mo ends.datagram (turn_faults.Record fault) ends.recorder new.recorder ends.node new.node → Wrote old.recorder new.recorder
  by (inl u) = record {
    entries = first;
    good = entries_stamped s mo a ds (short_of ends.earlier) h;
    mid = ends.recorder;
    all = ends.taken.entries;
    tail = inr (Received s mo.now ends.datagram, fault, stamped mo.now h, u.refused);
  }
  by (inr u) = record {
    entries = first ++ Received s mo.now ends.datagram ∷ [];
    good = both_good first (Received s mo.now ends.datagram ∷ []) (entries_stamped s mo a ds (short_of ends.earlier) h) (one_good s mo.now ends.datagram h);
    mid = u.next;
    all = records_then first (Received s mo.now ends.datagram ∷ []) old.recorder ends.recorder u.next ends.taken.entries (u.next, u.received, refl);
    tail = inr (Sent s mo.now (pdu_text u.unsent.answer), fault, stamped mo.now h, u.unsent.refused);
  }
wrote_by s mo turns old new (Err faults.Memory) h ends =
    let a = old.node.application.outfit in
    let ds = came old.node.application in
    let first = entries_after a ds s mo (short_of ends.earlier) in
    record {
      entries = first ++ Received s mo.now ends.datagram ∷ [];
      good = both_good first (Received s mo.now ends.datagram ∷ []) (entries_stamped s mo a ds (short_of ends.earlier) h) (one_good s mo.now ends.datagram h);
      mid = new.recorder;
      all = records_then first (Received s mo.now ends.datagram ∷ []) old.recorder ends.recorder new.recorder ends.taken.entries ends.broken.0;
      tail = inl refl;
    }

-- WHERE ONE DATAGRAM CAME, nothing was recorded, or that it came,
record Heard (s now : ℕ) (old_received received : Datagrams) (w v : WriterState) : Type 0 where
  datagram : List ℕ
  came : received ≡ old_received ++ datagram ∷ []
  mid : WriterState
  one : WritesOne w (Received s now datagram) mid
  tail : Tail mid v

-- or the answer too.
record Answered (s now : ℕ) (old_received received old_sent sent : Datagrams) (w v : WriterState) : Type 0 where
  datagram : List ℕ
  came : received ≡ old_received ++ datagram ∷ []
  mid : WriterState
  one : WritesOne w (Received s now datagram) mid
  text : List ℕ
  two : WritesOne mid (Sent s now text) v
  goes : MayGrow (Some old_sent) (Some sent) text

abbrev Shape : (s now : ℕ) → (old_received received old_sent sent : Datagrams) → (w v : WriterState) → Type 0
Shape s now os rs ps qs w v = Tail w v ⊎ Heard s now os rs w v ⊎ Answered s now os rs ps qs w v

-- as many came as there are more
one_came : (os rs us : Datagrams) → rs ≡ os ++ reverse us → length rs ≡ length os + 1 → length us ≡ 1
one_came os rs us grown more =
    omega (arith, ap length grown, length-append os (reverse us), length-reverse us, more)

one_is : (us : Datagrams) → length us ≡ 1 → (b : List ℕ) × (us ≡ b ∷ [])
one_is [] e = absurd (omega (arith, e))
one_is (b ∷ []) e = (b, refl)
one_is (b ∷ c ∷ us) e = absurd (omega (arith, e))

none_is : (us : Datagrams) (b : List ℕ) → length (b ∷ us) ≡ 1 → us ≡ []
none_is [] b e = refl
none_is (c ∷ us) b e = absurd (omega (arith, e))

-- of the entries of one datagram that is taken, or of none
abbrev TakenAs : (s : ℕ) → (mo : Moment) → AppProfile → List Pdu → Datagrams → (ps qs : Datagrams) → (w v : WriterState) → Type 0
TakenAs s mo a ds bs ps qs w v = RecordsAll WritesOne (entries_after a ds s mo bs) w v × (qs ≡ ps ++ texts_after a ds mo.stamp bs)

replied : (s now : ℕ) (os rs ps qs : Datagrams) (b : List ℕ) (o : Option Pdu) (w v : WriterState) → rs ≡ os ++ b ∷ []
    → RecordsAll WritesOne (Received s now b ∷ sent_as s now o) w v → qs ≡ ps ++ text_of o → Shape s now os rs ps qs w v
replied s now os rs ps qs b None w v came all sent = inr (inl (record { datagram = b; came = came; mid = all.0; one = all.1; tail = inl all.2 }))
replied s now os rs ps qs b (Some p) w v came all sent =
    inr (inr (record {
      datagram = b;
      came = came;
      mid = all.0;
      one = all.1;
      text = pdu_text p;
      two = subst (λ (u : WriterState). WritesOne all.0 (Sent s now (pdu_text p)) u) (sym all.2.2) all.2.1;
      goes = inl sent;
    }))

short_true : (b : List ℕ) → is_short b ≡ true → short_of (b ∷ []) ≡ b ∷ []
short_true b e = rw e refl

short_false : (b : List ℕ) → is_short b ≡ false → short_of (b ∷ []) ≡ []
short_false b e = rw e refl

taken_one : (s : ℕ) (mo : Moment) (a : AppProfile) (ds : List Pdu) (os rs ps qs : Datagrams) (b : List ℕ) (w v : WriterState) → rs ≡ os ++ b ∷ []
    → TakenAs s mo a ds (short_of (b ∷ [])) ps qs w v → Shape s mo.now os rs ps qs w v
taken_one s mo a ds os rs ps qs b w v came taken = by (is_short b) refl where
  by : (t : Bool) → is_short b ≡ t → Shape s mo.now os rs ps qs w v
  by true e =
      let is = subst (λ (bs : Datagrams). TakenAs s mo a ds bs ps qs w v) (short_true b e) taken in
      replied s mo.now os rs ps qs b (reply_at a ds mo.stamp [] b) w v came is.0 is.1
  by false e =
      let is = subst (λ (bs : Datagrams). TakenAs s mo a ds bs ps qs w v) (short_false b e) taken in
      inl (inl is.0)

abbrev ShapeOf : {L : Type 0} → (mo : Moment) → (p q : StationAtLine (TracingLine L)) → (w v : WriterState) → Type 0
ShapeOf mo p q w v = Shape p.index mo.now (datagrams_received p.line) (datagrams_received q.line) (datagrams_sent p.line) (datagrams_sent q.line) w v

served_shape : {L : Type 0} (passed : L → PassedOver) (mo : Moment) (p q : StationAtLine (TracingLine L)) (w v : WriterState) (us : Datagrams)
    → HasServed p.index mo us (state_at (telling passed) p w) (state_at (telling passed) q v)
    → length (datagrams_received q.line) ≡ length (datagrams_received p.line) + 1 → ShapeOf mo p q w v
served_shape passed mo p q w v us done more =
    let grown : datagrams_received q.line ≡ datagrams_received p.line ++ reverse us = done.received_are in
    let one = one_is us (one_came (datagrams_received p.line) (datagrams_received q.line) us grown more) in
    taken_one p.index mo p.node.application.outfit (came p.node.application) (datagrams_received p.line) (datagrams_received q.line) (datagrams_sent p.line)
    (datagrams_sent q.line) one.0 w v (grown ∙ ap (λ (l : Datagrams). datagrams_received p.line ++ reverse l) one.1)
    (subst (λ (l : Datagrams). TakenAs p.index mo p.node.application.outfit (came p.node.application) (short_of l) (datagrams_sent p.line) (datagrams_sent q.line) w v)
    one.1 (done.taken.entries, done.sent_are))

-- where the first of these came alone, nothing came before it
alone : (os rs us : Datagrams) (b : List ℕ) → rs ≡ os ++ reverse (b ∷ us) → length rs ≡ length os + 1 → us ≡ []
alone os rs us b grown more = none_is us b (one_came os rs (b ∷ us) grown more)

came_alone : (os rs us : Datagrams) (b : List ℕ) → rs ≡ os ++ reverse (b ∷ us) → us ≡ [] → rs ≡ os ++ b ∷ []
came_alone os rs us b grown none = grown ∙ ap (λ (l : Datagrams). os ++ reverse (b ∷ l)) none

grows_none : (os : Datagrams) (o : Option Datagrams) → GrowsAll (Some os) o [] → o ≡ Some os
grows_none os None g = absurd g
grows_none os (Some rs) g = ap Some (g ∙ append-nil os)

sent_shape : {L : Type 0} (passed : L → PassedOver) (mo : Moment) (p q : StationAtLine (TracingLine L)) (w v : WriterState)
    → LosesSend p.index mo (state_at (telling passed) p w) (state_at (telling passed) q v)
    → length (datagrams_received q.line) ≡ length (datagrams_received p.line) + 1 → ShapeOf mo p q w v
sent_shape passed mo p q w v l more =
    let a = p.node.application.outfit in
    let ds = came p.node.application in
    let grown : datagrams_received q.line ≡ datagrams_received p.line ++ reverse (l.datagram ∷ l.earlier) = l.received_are in
    let none = alone (datagrams_received p.line) (datagrams_received q.line) l.earlier l.datagram grown more in
    let due : reply_at a ds mo.stamp [] l.datagram ≡ Some l.answer = subst (λ (us : Datagrams). reply_at a ds mo.stamp (short_of us) l.datagram ≡ Some l.answer) none l.due in
    let all : RecordsAll WritesOne (Received p.index mo.now l.datagram ∷ sent_as p.index mo.now (reply_at a ds mo.stamp [] l.datagram)) w v =
    subst (λ (us : Datagrams). RecordsAll WritesOne (entries_after a ds p.index mo (l.datagram ∷ short_of us)) w v) none l.taken.entries in
    let both : RecordsAll WritesOne (Received p.index mo.now l.datagram ∷ Sent p.index mo.now (pdu_text l.answer) ∷ []) w v =
    subst (λ (o : Option Pdu). RecordsAll WritesOne (Received p.index mo.now l.datagram ∷ sent_as p.index mo.now o) w v) due all in
    let before : l.before ≡ Some (datagrams_sent p.line) =
    grows_none (datagrams_sent p.line) l.before (subst (λ (us : Datagrams). GrowsAll (Some (datagrams_sent p.line)) l.before (texts_after a ds mo.stamp (short_of us))) none l.sent_are) in
    inr (inr (record {
      datagram = l.datagram;
      came = came_alone (datagrams_received p.line) (datagrams_received q.line) l.earlier l.datagram grown none;
      mid = both.0;
      one = both.1;
      text = pdu_text l.answer;
      two = subst (λ (u : WriterState). WritesOne both.0 (Sent p.index mo.now (pdu_text l.answer)) u) (sym both.2.2) both.2.1;
      goes = subst (λ (o : Option Datagrams). MayGrow o (Some (datagrams_sent q.line)) (pdu_text l.answer)) before l.may_be_sent;
    }))

broken_shape : {L : Type 0} (passed : L → PassedOver) (mo : Moment) (p q : StationAtLine (TracingLine L)) (w v : WriterState) (fault : TurnFault WriterFault) → mo.now < 2 ^ 64
    → BreaksTurn p.index mo fault (state_at (telling passed) p w) (state_at (telling passed) q v)
    → length (datagrams_received q.line) ≡ length (datagrams_received p.line) + 1 → ShapeOf mo p q w v
broken_shape {L = L} passed mo p q w v fault h l more = by fault (subst (λ (u : WriterState). FailsTurn WritesOne WritesNone p.index mo l.datagram fault u v l.node q.node) at l.broken) where
  a : AppProfile
  a = p.node.application.outfit

  ds : List Pdu
  ds = came p.node.application

  grown : datagrams_received q.line ≡ datagrams_received p.line ++ reverse (l.datagram ∷ l.earlier)
  grown = l.received_are

  none : l.earlier ≡ []
  none = alone (datagrams_received p.line) (datagrams_received q.line) l.earlier l.datagram grown more

  at : l.recorder ≡ w
  at = subst (λ (us : Datagrams). RecordsAll WritesOne (entries_after a ds p.index mo (short_of us)) w l.recorder) none l.taken.entries

  there : datagrams_received q.line ≡ datagrams_received p.line ++ l.datagram ∷ []
  there = came_alone (datagrams_received p.line) (datagrams_received q.line) l.earlier l.datagram grown none

  by : (f : TurnFault WriterFault) → FailsTurn WritesOne WritesNone p.index mo l.datagram f w v l.node q.node → ShapeOf mo p q w v
  by (turn_faults.Record f) (inl u) = inl (inr (Received p.index mo.now l.datagram, f, stamped mo.now h, u.refused))
  by (turn_faults.Record f) (inr u) =
      inr (inl (record {
        datagram = l.datagram;
        came = there;
        mid = u.next;
        one = u.received;
        tail = inr (Sent p.index mo.now (pdu_text u.unsent.answer), f, stamped mo.now h, u.unsent.refused);
      }))
  by turn_faults.Memory u = inr (inl (record { datagram = l.datagram; came = there; mid = u.0.0; one = u.0.1; tail = inl u.0.2 }))

shape_by : {L : Type 0} (passed : L → PassedOver) (mo : Moment) (p q : StationAtLine (TracingLine L)) (w v : WriterState) (result : Result Served ServeFault) → mo.now < 2 ^ 64
    → ServeEndsAt p.index mo 1 (state_at (telling passed) p w) (state_at (telling passed) q v) result
    → length (datagrams_received q.line) ≡ length (datagrams_received p.line) + 1 → ShapeOf mo p q w v
shape_by passed mo p q w v (Ok served) h ends more = served_shape passed mo p q w v ends.datagrams ends.done more
shape_by passed mo p q w v (Err faults.Receive) h ends more = served_shape passed mo p q w v ends.datagrams ends.done more
shape_by passed mo p q w v (Err faults.Send) h ends more = sent_shape passed mo p q w v ends more
shape_by passed mo p q w v (Err (faults.Record fault)) h ends more = broken_shape passed mo p q w v (turn_faults.Record fault) h ends more
shape_by passed mo p q w v (Err faults.Memory) h ends more = broken_shape passed mo p q w v turn_faults.Memory h ends more

-- What is printed of it.

then_prints : (w m v : WriterState) (old mid new : Printing) → PrintsAll w m old mid → PrintsAll m v mid new → PrintsAll w v old new
then_prints w m v old mid new first second = λ before start es written printed.
    let one = first before start es written printed in
    let two = second before start (es ++ one.0) one.1 one.2 in (
      one.0 ++ two.0,
      subst (λ (l : List Entry). IsWritten before v l) (append_assoc es one.0 two.0) two.1,
      subst (λ (l : List Entry). IsPrinted start l new) (append_assoc es one.0 two.0) two.2,
    )

heard_rows : (s i now : ℕ) (os rs : Datagrams) (b : List ℕ) (old new : Printing) → i ≡ s → rs ≡ os ++ b ∷ []
    → PrintsEntry (Received i now (last_of rs)) old new → PrintsEntry (Received s now b) old new
heard_rows s i now os rs b old new index came rows =
    subst (λ (c : List ℕ). PrintsEntry (Received s now c) old new) (ap last_of came ∙ last_more os b)
    (subst (λ (j : ℕ). PrintsEntry (Received j now (last_of rs)) old new) index rows)

shape_prints : {L : Type 0} (mo : Moment) (p q : StationAtLine (TracingLine L)) (w v : WriterState) (old mid new : Printing) → mo.now < 2 ^ 64 → q.index ≡ p.index
    → ShapeOf mo p q w v → (v.entries ≡ w.entries → ⊥) → PrintsEntry (Received q.index mo.now (last_of (datagrams_received q.line))) old mid
    → PrintsSent q v.entries mo.now (w.entries + 1) (length (datagrams_sent p.line)) mid new → PrintsAll w v old new
shape_prints mo p q w v old mid new h index (inl tail) other line sent = absurd (other (tail_count w v tail))
shape_prints mo p q w v old mid new h index (inr (inl is)) other line sent =
    let count = is.one.adds.entries in
    then_prints w is.mid v old mid new
    (shows_one w is.mid (Received p.index mo.now is.datagram) old mid (stamped mo.now h) is.one
    (heard_rows p.index q.index mo.now (datagrams_received p.line) (datagrams_received q.line) is.datagram old mid index is.came line))
    (unsent_prints mo.now (length (datagrams_sent p.line)) q is.mid v mid new (tail_count is.mid v is.tail) (λ before es written. tail_written before is.mid v es is.tail written)
    (subst (λ (k : ℕ). PrintsSent q v.entries mo.now k (length (datagrams_sent p.line)) mid new) (sym count) sent))
shape_prints mo p q w v old mid new h index (inr (inr is)) other line sent =
    let count = is.one.adds.entries in
    then_prints w is.mid v old mid new
    (shows_one w is.mid (Received p.index mo.now is.datagram) old mid (stamped mo.now h) is.one
    (heard_rows p.index q.index mo.now (datagrams_received p.line) (datagrams_received q.line) is.datagram old mid index is.came line))
    (sent_prints mo.now p q is.mid v is.text mid new h index is.two is.goes
    (subst (λ (k : ℕ). PrintsSent q v.entries mo.now k (length (datagrams_sent p.line)) mid new) (sym count) sent))

one_more_is : (a b : ℕ) → (a - b == 1) ≡ true → a ≡ b + 1
one_more_is a b e = grind (arith, nat_tests)

same_is : (a b : ℕ) → (a == b) ≡ true → a ≡ b
same_is a b e = grind (arith, nat_tests)

other_is : (a b : ℕ) → (a == b) ≡ false → a ≡ b → ⊥
other_is a b e h = grind (arith, nat_tests)

-- what is printed of a datagram that came, and of the answer
abbrev HeardPrints : {L : Type 0} → (now : ℕ) → (p q : StationAtLine (TracingLine L)) → (w v : WriterState) → (old new : Printing) → Type 0
HeardPrints now p q w v old new =
    (mid : Printing) × PrintsEntry (Received q.index now (last_of (datagrams_received q.line))) old mid
    × PrintsSent q v.entries now (w.entries + 1) (length (datagrams_sent p.line)) mid new

pub turn_prints : {L : Type 0} (passed : L → PassedOver) (mo : Moment) (p q : StationAtLine (TracingLine L)) (w v : WriterState) (result : Result Served ServeFault)
    (old new : Printing) → mo.now < 2 ^ 64 → q.index ≡ p.index
    → ServeEndsAt p.index mo 1 (state_at (telling passed) p w) (state_at (telling passed) q v) result
    → PrintsTurn q v.entries mo.now w.entries (length (datagrams_received p.line)) (length (datagrams_sent p.line)) old new → PrintsAll w v old new
turn_prints passed mo p q w v result old new h index ends is = by (v.entries == w.entries) refl where
  wrote : Wrote w v
  wrote = wrote_by p.index mo 1 (state_at (telling passed) p w) (state_at (telling passed) q v) result h ends

  rest : (v.entries == w.entries) ≡ false → MatchBool (length (datagrams_received q.line) - length (datagrams_received p.line) == 1) (HeardPrints mo.now p q w v old new) (StopsPrinting old new)
  rest differs =
      by_false (PrintsNothing old new)
      (MatchBool (length (datagrams_received q.line) - length (datagrams_received p.line) == 1) (HeardPrints mo.now p q w v old new) (StopsPrinting old new))
      (v.entries == w.entries) differs is

  other : (t : Bool) → (length (datagrams_received q.line) - length (datagrams_received p.line) == 1) ≡ t → (v.entries == w.entries) ≡ false → PrintsAll w v old new
  other true one differs =
      let prints = by_true (HeardPrints mo.now p q w v old new) (StopsPrinting old new) (length (datagrams_received q.line) - length (datagrams_received p.line) == 1) one (rest differs) in
      shape_prints mo p q w v old prints.0 new h index
      (shape_by passed mo p q w v result h ends (one_more_is (length (datagrams_received q.line)) (length (datagrams_received p.line)) one))
      (other_is v.entries w.entries differs) prints.1 prints.2
  other false none differs = λ before start es written printed. (
    wrote.entries,
    wrote_written before w v es wrote written,
    falls_silent start es wrote.entries old new printed
        (by_false (HeardPrints mo.now p q w v old new) (StopsPrinting old new) (length (datagrams_received q.line) - length (datagrams_received p.line) == 1) none (rest differs)),
  )

  by : (t : Bool) → (v.entries == w.entries) ≡ t → PrintsAll w v old new
  by true same =
      quiet w v old new (λ before es written. wrote_none before w v es wrote (same_is v.entries w.entries same) written)
      (by_true (PrintsNothing old new)
      (MatchBool (length (datagrams_received q.line) - length (datagrams_received p.line) == 1) (HeardPrints mo.now p q w v old new) (StopsPrinting old new))
      (v.entries == w.entries) same is)
  by false differs = other (length (datagrams_received q.line) - length (datagrams_received p.line) == 1) refl differs

-- the rows stay of one setting
pub turn_setting : {L : Type 0} (q : StationAtLine (TracingLine L)) (r now k j m : ℕ) (old new : Printing) → PrintsTurn q r now k j m old new
    → new.log.setting ≡ old.log.setting
turn_setting q r now k j m old new is = by (r == k) is where
  Heard : Type 0
  Heard = (mid : Printing) × PrintsEntry (Received q.index now (last_of (datagrams_received q.line))) old mid × PrintsSent q r now (k + 1) m mid new

  one : (t : Bool) → MatchBool t Heard (StopsPrinting old new) → new.log.setting ≡ old.log.setting
  one true heard = sent_setting q r now (k + 1) m heard.0 new heard.2 ∙ heard.1.setting
  one false stops = ap (λ (l : PlainRecording). l.setting) stops.0

  by : (t : Bool) → MatchBool t (PrintsNothing old new) (MatchBool (length (datagrams_received q.line) - j == 1) Heard (StopsPrinting old new))
      → new.log.setting ≡ old.log.setting
  by true nothing = ap (λ (l : PlainRecording). l.setting) nothing.0
  by false heard = one (length (datagrams_received q.line) - j == 1) heard

-- by counts that are these
pub at_turn_counts : {L : Type 0} (q : StationAtLine (TracingLine L)) (r now k j m i l n : ℕ) (old new : Printing) → k ≡ i → j ≡ l → m ≡ n
    → PrintsTurn q r now k j m old new → PrintsTurn q r now i l n old new
at_turn_counts q r now k j m i l n old new e f g is =
    subst (λ (t : ℕ). PrintsTurn q r now t l n old new) e
    (subst (λ (t : ℕ). PrintsTurn q r now k t n old new) f (subst (λ (t : ℕ). PrintsTurn q r now k j t old new) g is))
