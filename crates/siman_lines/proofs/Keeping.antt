-- What the calls of a station keep.
use Rattle.std.proofs.Common.{◌≡◌, ℕ, ◌<◌, ◌≤◌, ◌^◌, List, [], ◌∷◌, ◌++◌, length, refl, ap, sym, ◌∙◌, subst, inl, inr, arith, append_assoc, append-nil}
use Rattle.std.specs.Prelude.{Bool, true, false, ◌&&◌, nat_lt, nat_le, Option, Some, None, Result, Ok, Err, is_some}
use Rattle.std.specs.List.{AllByRecursion, list_all}
use Rattle.std.proofs.lemmas.Bool.Decides.{nat_tests}
use Rattle.std.proofs.lemmas.List.Folds.{list_all-append}
use Rattle.dis_records.specs.declared.header.TheConstants.{LARGEST_DATAGRAM}
use Rattle.siman_pdus.specs.declared.pdu.Pdu.{Pdu}
use Rattle.siman_pdus.specs.Reading.{reading}
use Rattle.siman_pdus.specs.Role.{is_request_body}
use Rattle.siman_pdus.specs.Spelling.{pdu_text}
use Rattle.exercise_model.specs.Entry.{Entry, Sent, Received, Told, is_entry, is_stamped}
use Rattle.exercise_model.specs.History.{History, Send, Get, past, log_at}
use Rattle.exercise_model.specs.Setting.{SettingData}
use Rattle.exercise_model.specs.Station.{StationData}
use Rattle.exercise_recording.specs.declared.fault.WriterFault.{WriterFault}
use Rattle.exercise_recording.specs.Writer.{WriterState}
use Rattle.siman_application.specs.Distinct.{with_request}
use Rattle.siman_application.specs.AppProfile.{AppProfile}
use Rattle.siman_application.specs.Application.{ApplicationData, came}
use Rattle.siman_manager.specs.declared.order.Order.{Order}
use Rattle.siman_manager.specs.declared.settings.Settings.{Settings}
use Rattle.siman_manager.specs.Book.{Book}
use Rattle.siman_stations.specs.declared.moment.Moment.{Moment}
use Rattle.siman_stations.specs.declared.turn.Node.{Node}
use Rattle.siman_stations.specs.declared.turn.TurnFault.{TurnFault}
use Rattle.siman_stations.specs.declared.turn.TurnFault.TheVariants as turn_faults
use Rattle.siman_stations.specs.Sending.{next_order, next_repeat, after_tick}
use Rattle.siman_stations.specs.Recording.{WritesOne, WritesNone}
use Rattle.siman_stations.specs.StationTurn.{sent_as, AreOf, RecordsAll, FailsTurn, IsUnanswered}
use Rattle.siman_stations.specs.Halves.{HalvesFollow}
use Rattle.siman_stations.proofs.Offered.{past-one, log-own, all_append, halves_pass, halves_lose, halves_order, halves_withhold, halves_tick, halves_repeat, halves_closed, none_missing}
use Rattle.siman_lines.specs.declared.fault.ServeFault.{ServeFault}
use Rattle.siman_lines.specs.declared.fault.ServeFault.TheVariants as faults
use Rattle.siman_lines.specs.declared.fault.IssueFault.{IssueFault}
use Rattle.siman_lines.specs.declared.fault.IssueFault.TheVariants as issue_faults
use Rattle.siman_lines.specs.declared.served.Served.{Served}
use Rattle.siman_lines.specs.LineDatagrams.{Datagrams, Same, GrowsAll, MayGrow}
use Rattle.siman_lines.specs.Serving.{State, HasTaken, LosesSend, BreaksTurn, ServeEndsAt, IsBytes, AreBytes, pdus_after, book_after, taken_with, reply_at, entries_after, text_of, texts_after, texts_by, short_of, is_short}
use Rattle.siman_lines.specs.Ordering.{Rests, Makes, IssueEndsAt, NudgeEndsAt}
use Rattle.siman_lines.specs.KeptAtLine.{IsWritten, IsClosed, HasSent, AreHanded, IsOfStation, IsKept, KeepsOn, Keeps}
use Rattle.siman_lines.proofs.Growth.{same_itself}
use Rattle.siman_lines.proofs.Hears.{own_entries, hear_all}
use Rattle.siman_lines.proofs.Writings.{is_open, written_one, written_none, written_all, setting_none, setting_all, closed_none, closed_all}

-- What was handed to the line.

sent_more : (s : ℕ) (es more : List Entry) (b : List ℕ) → HasSent s es b → HasSent s (es ++ more) b
sent_more s [] more b h = absurd h
sent_more s (Sent t stamp c ∷ es) more b (inl h) = inl h
sent_more s (Sent t stamp c ∷ es) more b (inr h) = inr (sent_more s es more b h)
sent_more s (Received t stamp c ∷ es) more b h = sent_more s es more b h
sent_more s (Told t e y ∷ es) more b h = sent_more s es more b h

sent_late : (s : ℕ) (es more : List Entry) (b : List ℕ) → HasSent s more b → HasSent s (es ++ more) b
sent_late s [] more b h = h
sent_late s (Sent t stamp c ∷ es) more b h = inr (sent_late s es more b h)
sent_late s (Received t stamp c ∷ es) more b h = sent_late s es more b h
sent_late s (Told t e y ∷ es) more b h = sent_late s es more b h

each_on : {X : Type 0} (P Q : X → Type 0) → ((x : X) → P x → Q x) → (xs : List X) → AllByRecursion P xs → AllByRecursion Q xs
each_on P Q on [] all = tt
each_on P Q on (x ∷ xs) all = (on x all.0, each_on P Q on xs all.1)

pub handed_more : (s : ℕ) (es more : List Entry) (o : Option Datagrams) → AreHanded s es o → AreHanded s (es ++ more) o
handed_more s es more None h = tt
handed_more s es more (Some ds) h = each_on (HasSent s es) (HasSent s (es ++ more)) (sent_more s es more) ds h

handed_all : (s : ℕ) (es : List Entry) (old new : Option Datagrams) (ds : Datagrams) → AreHanded s es old → GrowsAll old new ds
    → AllByRecursion (HasSent s es) ds
    → AreHanded s es new
handed_all s es None None ds h g all = tt
handed_all s es None (Some ns) ds h g all = absurd g
handed_all s es (Some os) None ds h g all = tt
handed_all s es (Some os) (Some ns) ds h g all = subst (AllByRecursion (HasSent s es)) (sym g) (all_append (HasSent s es) os ds h all)

handed_same : (s : ℕ) (es : List Entry) (old new : Option Datagrams) → AreHanded s es old → Same old new → AreHanded s es new
handed_same s es None None h g = tt
handed_same s es None (Some ns) h g = absurd g
handed_same s es (Some os) None h g = tt
handed_same s es (Some os) (Some ns) h g = subst (AllByRecursion (HasSent s es)) (sym g) h

handed_may : (s : ℕ) (es : List Entry) (old new : Option Datagrams) (d : List ℕ) → AreHanded s es old → MayGrow old new d → HasSent s es d
    → AreHanded s es new
handed_may s es old new d h (inl g) has = handed_all s es old new (d ∷ []) h g (has, tt)
handed_may s es old new d h (inr g) has = handed_same s es old new h g

-- the texts of replies are sent in their entries
reply_has : (s now : ℕ) (b : List ℕ) (o : Option Pdu) → AllByRecursion (HasSent s (Received s now b ∷ sent_as s now o)) (text_of o)
reply_has s now b None = tt
reply_has s now b (Some p) = (inl (refl, refl), tt)

texts_has : (s : ℕ) (at : Moment) (a : AppProfile) (ds : List Pdu) (bs : Datagrams)
    → AllByRecursion (HasSent s (entries_after a ds s at bs)) (texts_after a ds at.stamp bs)
texts_has s at a ds [] = tt
texts_has s at a ds (b ∷ bs) =
    let o = reply_at a ds at.stamp bs b in
    let first = entries_after a ds s at bs in
    let last = Received s at.now b ∷ sent_as s at.now o in
    all_append (HasSent s (first ++ last)) (texts_after a ds at.stamp bs) (text_of o)
    (each_on (HasSent s first) (HasSent s (first ++ last)) (sent_more s first last) (texts_after a ds at.stamp bs) (texts_has s at a ds bs))
    (each_on (HasSent s last) (HasSent s (first ++ last)) (sent_late s first last) (text_of o) (reply_has s at.now b o))

handed_texts : (s : ℕ) (at : Moment) (a : AppProfile) (ds : List Pdu) (es : List Entry) (bs : Datagrams) (old new : Option Datagrams) → AreHanded s es old
    → GrowsAll old new (texts_after a ds at.stamp bs) → AreHanded s (es ++ entries_after a ds s at bs) new
handed_texts s at a ds es bs old new h g =
    let more = entries_after a ds s at bs in
    handed_all s (es ++ more) old new (texts_after a ds at.stamp bs) (handed_more s es more old h) g
    (each_on (HasSent s more) (HasSent s (es ++ more)) (sent_late s es more) (texts_after a ds at.stamp bs) (texts_has s at a ds bs))

-- Stamps.

-- the numbers of a moment are those of their types
pub record Fits (at : Moment) : Type 0 where
  pub now : at.now < 2 ^ 64
  pub stamp : at.stamp < 2 ^ 32

now_stamped : (now : ℕ) → now < 2 ^ 64 → nat_lt now 18446744073709551616 ≡ true
now_stamped now h = grind (arith, nat_tests)

sent_stamped : (s now : ℕ) (o : Option Pdu) → now < 2 ^ 64 → list_all is_stamped (sent_as s now o) ≡ true
sent_stamped s now None h = refl
sent_stamped s now (Some p) h = ap (λ (b : Bool). b && true) (now_stamped now h)

pub entries_stamped : (s : ℕ) (at : Moment) (a : AppProfile) (ds : List Pdu) (bs : Datagrams) → at.now < 2 ^ 64
    → list_all is_stamped (entries_after a ds s at bs) ≡ true
entries_stamped s at a ds [] h = refl
entries_stamped s at a ds (b ∷ bs) h =
    rw (list_all-append, entries_stamped s at a ds bs h, now_stamped at.now h, sent_stamped s at.now (reply_at a ds at.stamp bs b) h) refl

-- Nodes.

settings_taken : (k : Book) (o : Option Pdu) → (taken_with k o).settings ≡ k.settings
settings_taken k None = refl
settings_taken k (Some q) = refl

pub settings_after : (k : Book) (bs : Datagrams) → (book_after k bs).settings ≡ k.settings
settings_after k [] = refl
settings_after k (b ∷ bs) = settings_taken (book_after k bs) (reading b) ∙ settings_after k bs

stand_as : (s : ℕ) (a c : AppProfile) (ds es : List Pdu) (k l : Book) (log : History) (closed : Type 0) → c ≡ a → es ≡ ds → l ≡ k
    → HalvesFollow (Unit {0}) s a ds k log closed
    → HalvesFollow (Unit {0}) s c es l log closed
stand_as s a c ds es k l log closed e f g is =
    subst (λ (x : AppProfile). HalvesFollow (Unit {0}) s x es l log closed) (sym e)
    (subst (λ (x : List Pdu). HalvesFollow (Unit {0}) s a x l log closed) (sym f) (subst (λ (x : Book). HalvesFollow (Unit {0}) s a ds x log closed) (sym g) is))

pub of_station : (s : ℕ) (n m : Node) (w v : SettingData) → m.application.outfit ≡ n.application.outfit → m.manager.settings ≡ n.manager.settings
    → v ≡ w
    → IsOfStation s n w → IsOfStation s m v
of_station s n m w v outfit settings setting is = subst (IsOfStation s m) (sym setting) (record {
  within = is.within;
  exercise = ap (λ (a : AppProfile). a.exercise) outfit ∙ is.exercise;
  station = ap (λ (a : AppProfile). a.station) outfit ∙ is.station;
  manager_exercise = ap (λ (x : Settings). x.exercise) settings ∙ is.manager_exercise;
  address = ap (λ (x : Settings). x.address) settings ∙ is.address;
})

-- a step of a station: the entries that it wrote, and what stands after it
pub record Step (s : ℕ) (before : Option (List ℕ)) (es : List Entry) (n m : Node) (w new : WriterState) (handed : Option Datagrams) : Type 0 where
  pub more : List Entry
  pub own : AreOf s more
  pub setting : new.setting ≡ w.setting
  pub closed : IsClosed w → IsClosed new
  pub written : IsWritten before new (es ++ more)
  pub outfit : m.application.outfit ≡ n.application.outfit
  pub settings : m.manager.settings ≡ n.manager.settings
  pub halves : HalvesFollow (Unit {0}) s n.application.outfit (came m.application) m.manager (log_at s (past (es ++ more))) (IsClosed new)
  pub handed_are : AreHanded s (es ++ more) handed

pub step_keeps : (s : ℕ) (before : Option (List ℕ)) (es : List Entry) (n m : Node) (w new : WriterState) (old handed : Option Datagrams)
    → IsKept s n w es old
    → Step s before es n m w new handed → KeepsOn s before es m w new handed
step_keeps s before es n m w new old handed is step = record {
  more = step.more;
  own = step.own;
  setting = step.setting;
  closed = step.closed;
  written = step.written;
  kept = record {
    station = of_station s n m w.setting new.setting step.outfit step.settings step.setting is.station;
    halves = subst (λ (x : AppProfile). HalvesFollow (Unit {0}) s x (came m.application) m.manager (log_at s (past (es ++ step.more))) (IsClosed new)) (sym step.outfit)
        step.halves;
    handed_are = step.handed_are;
  };
}

-- one step after another
then_keeps : (s : ℕ) (before : Option (List ℕ)) (es : List Entry) (mid m : Node) (w writer new : WriterState) (heard handed : Option Datagrams)
    → KeepsOn s before es mid w writer heard
    → ((fs : List Entry) → IsWritten before writer fs → IsKept s mid writer fs heard → KeepsOn s before fs m writer new handed)
    → KeepsOn s before es m w new handed
then_keeps s before es mid m w writer new heard handed first next =
    let after = next (es ++ first.more) first.written first.kept in record {
      more = first.more ++ after.more;
      own = all_append _ first.more after.more first.own after.own;
      setting = after.setting ∙ first.setting;
      closed = λ h. after.closed (first.closed h);
      written = subst (IsWritten before new) (append_assoc es first.more after.more) after.written;
      kept = subst (λ (l : List Entry). IsKept s m new l handed) (append_assoc es first.more after.more) after.kept;
    }

-- Of serving.

keeps_taken : (s : ℕ) (at : Moment) (bs : Datagrams) (n m : Node) (w new : WriterState) (before : Option (List ℕ)) (es : List Entry) (old handed : Option
    Datagrams) → Fits at
    → HasTaken s at bs n m w new → AreBytes bs → IsWritten before w es → IsKept s n w es old
    → AreHanded s (es ++ entries_after n.application.outfit (came n.application) s at bs) handed → KeepsOn s before es m w new handed
keeps_taken s at bs n m w new before es old handed h taken bytes written is handed_are =
    let a = n.application.outfit in
    let ds = came n.application in
    step_keeps s before es n m w new old handed is (record {
      more = entries_after a ds s at bs;
      own = own_entries s at a ds bs;
      setting = setting_all (entries_after a ds s at bs) w new taken.entries;
      closed = closed_all (entries_after a ds s at bs) w new taken.entries;
      written = written_all before (entries_after a ds s at bs) w new es (entries_stamped s at a ds bs h.now) written taken.entries;
      outfit = taken.outfit;
      settings = ap (λ (k : Book). k.settings) taken.manager ∙ settings_after n.manager bs;
      halves = stand_as s a a (pdus_after a ds bs) (came m.application) (book_after n.manager bs) m.manager _ (IsClosed new) refl taken.came_is
          taken.manager
          (hear_all s at h.stamp a ds n.manager es bs w new bytes is.halves taken.entries);
      handed_are = handed_are;
    })

-- nothing was written
keeps_unwritten : (s : ℕ) (before : Option (List ℕ)) (es : List Entry) (n : Node) (w new : WriterState) (old handed : Option Datagrams)
    → IsWritten before new es
    → new.setting ≡ w.setting → (IsClosed w → IsClosed new) → IsKept s n w es old → Same old handed → KeepsOn s before es n w new handed
keeps_unwritten s before es n w new old handed written setting closed is same =
    step_keeps s before es n n w new old handed is (record {
      more = [];
      own = tt;
      setting = setting;
      closed = closed;
      written = subst (IsWritten before new) (sym (append-nil es)) written;
      outfit = refl;
      settings = refl;
      halves = subst (λ (l : List Entry). HalvesFollow (Unit {0}) s n.application.outfit (came n.application) n.manager (log_at s (past l)) (IsClosed new)) (sym
          (append-nil es))
          (halves_closed s n.application.outfit (came n.application) n.manager _ (IsClosed w) (IsClosed new) closed is.halves);
      handed_are = subst (λ (l : List Entry). AreHanded s l handed) (sym (append-nil es)) (handed_same s es old handed is.handed_are same);
    })

-- the log of one entry more
log_got : (s now : ℕ) (es : List Entry) (b : List ℕ) → log_at s (past (es ++ Received s now b ∷ [])) ≡ Get s b ∷ log_at s (past es)
log_got s now es b = log-own s es (Received s now b ∷ []) (refl, tt) ∙ ap (λ (h : History). h ++ log_at s (past es)) (past-one (Received s now b))

log_sent : (s now : ℕ) (es : List Entry) (b : List ℕ) → log_at s (past (es ++ Sent s now b ∷ [])) ≡ Send s b ∷ log_at s (past es)
log_sent s now es b = log-own s es (Sent s now b ∷ []) (refl, tt) ∙ ap (λ (h : History). h ++ log_at s (past es)) (past-one (Sent s now b))

stamped_one : (now : ℕ) → now < 2 ^ 64 → (s : ℕ) (b : List ℕ) → is_stamped (Received s now b) ≡ true
stamped_one now h s b = now_stamped now h

-- a datagram that was received and not taken
keeps_received : (s now : ℕ) (b : List ℕ) (n : Node) (w new : WriterState) (before : Option (List ℕ)) (es : List Entry) (old handed : Option
    Datagrams) → now < 2 ^ 64
    → RecordsAll WritesOne (Received s now b ∷ []) w new → IsWritten before w es → IsKept s n w es old → Same old handed
    → KeepsOn s before es n w new handed
keeps_received s now b n w new before es old handed h all written is same =
    step_keeps s before es n n w new old handed is (record {
      more = Received s now b ∷ [];
      own = (refl, tt);
      setting = setting_all (Received s now b ∷ []) w new all;
      closed = closed_all (Received s now b ∷ []) w new all;
      written = written_all before (Received s now b ∷ []) w new es (ap (λ (x : Bool). x && true) (now_stamped now h)) written all;
      outfit = refl;
      settings = refl;
      halves = subst (λ (log : History). HalvesFollow (Unit {0}) s n.application.outfit (came n.application) n.manager log (IsClosed new)) (sym (log_got s now es b))
          (halves_closed s n.application.outfit (came n.application) n.manager _ (IsClosed w) (IsClosed new) (closed_all (Received s now b ∷ []) w new
          all)
          (halves_pass s n.application.outfit (came n.application) n.manager _ (IsClosed w) b (inr tt) is.halves));
      handed_are = handed_same s (es ++ Received s now b ∷ []) old handed (handed_more s es (Received s now b ∷ []) old is.handed_are) same;
    })

good_entry : (s n : ℕ) (b : List ℕ) → s < n → length b ≤ LARGEST_DATAGRAM → (nat_lt s n && nat_le (length b) LARGEST_DATAGRAM) ≡ true
good_entry s n b h k = grind (arith, nat_tests)

pub good_sent : (s now : ℕ) (b : List ℕ) (w : SettingData) (n : Node) → IsOfStation s n w → length b ≤ LARGEST_DATAGRAM
    → is_entry (length w.stations) (Sent s now b) ≡ true
good_sent s now b w n is short = good_entry s (length w.stations) b is.within short

pub good_got : (s now : ℕ) (b : List ℕ) (w : SettingData) (n : Node) → IsOfStation s n w → is_short b ≡ true
    → is_entry (length w.stations) (Received s now b) ≡ true
good_got s now b w n is short = by (length w.stations) is.within where
  by : (k : ℕ) → s < k → (nat_lt s k && nat_le (length b) LARGEST_DATAGRAM) ≡ true
  by k h = grind (arith, nat_tests, short)

-- a reply that was not written
keeps_unanswered : (s : ℕ) (at : Moment) (b : List ℕ) (fault : WriterFault) (n m : Node) (w new : WriterState) (before : Option (List ℕ)) (es : List Entry)
    (old handed : Option Datagrams)
    → Fits at → IsBytes b → IsUnanswered WritesOne WritesNone s at b fault w new n m → IsWritten before w es → IsKept s n w es old
    → Same old handed
    → KeepsOn s before es m w new handed
keeps_unanswered s at b fault n m w new before es old handed h bytes u written is same =
    let a = n.application.outfit in
    let ds = came n.application in
    let q = u.pdu in
    let text = pdu_text u.unsent.answer in
    let next_setting : u.next.setting ≡ w.setting = u.received.adds.setting in
    let shut : IsClosed new = closed_none u.next new (Sent s at.now text) fault
    (good_sent s at.now text u.next.setting n (of_station s n n w.setting u.next.setting refl refl next_setting is.station) u.unsent.size)
    u.unsent.refused in
    step_keeps s before es n m w new old handed is (record {
      more = Received s at.now b ∷ [];
      own = (refl, tt);
      setting = setting_none u.next new (Sent s at.now text) fault u.unsent.refused ∙ next_setting;
      closed = λ c. shut;
      written = written_none before u.next new (es ++ Received s at.now b ∷ []) (Sent s at.now text) fault (now_stamped at.now h.now)
          (written_one before w u.next es (Received s at.now b) (now_stamped at.now h.now) written u.received) u.unsent.refused;
      outfit = u.unsent.application.outfit;
      settings = ap (λ (k : Book). k.settings) u.manager;
      halves = subst (λ (log : History). HalvesFollow (Unit {0}) s a (came m.application) m.manager log (IsClosed new)) (sym (log_got s at.now es b))
          (stand_as s a a (with_request a ds q) (came m.application) n.manager m.manager _ (IsClosed new) refl u.unsent.application.came_is u.manager
          (halves_lose s a ds n.manager (log_at s (past es)) (IsClosed w) (IsClosed new) b q at.stamp is.halves
          (none_missing s a ds n.manager _ (IsClosed w) is.halves (is_open w (Received s at.now b) u.received.taken))
          (record { bytes = bytes; read = u.read }) h.stamp (ap is_some u.unsent.due) shut));
      handed_are = handed_same s (es ++ Received s at.now b ∷ []) old handed (handed_more s es (Received s at.now b ∷ []) old is.handed_are) same;
    })

keeps_broken : (s : ℕ) (at : Moment) (b : List ℕ) (fault : TurnFault WriterFault) (n m : Node) (w new : WriterState) (before : Option (List ℕ)) (es : List
    Entry) (old : Option Datagrams)
    → Fits at → IsBytes b → is_short b ≡ true → FailsTurn WritesOne WritesNone s at b fault w new n m → IsWritten before w es
    → IsKept s n w es old
    → Same old old → KeepsOn s before es m w new old
keeps_broken s at b (turn_faults.Record fault) n m w new before es old h bytes short (inl u) written is same =
    subst (λ (x : Node). KeepsOn s before es x w new old) (sym u.halves)
    (keeps_unwritten s before es n w new old old (written_none before w new es (Received s at.now b) fault (now_stamped at.now h.now) written u.refused)
    (setting_none w new (Received s at.now b) fault u.refused)
    (λ c. closed_none w new (Received s at.now b) fault (good_got s at.now b w.setting n is.station short) u.refused) is same)
keeps_broken s at b (turn_faults.Record fault) n m w new before es old h bytes short (inr u) written is same =
    keeps_unanswered s at b fault n m w new before es old old h bytes u written is same
keeps_broken s at b turn_faults.Memory n m w new before es old h bytes short u written is same =
    subst (λ (x : Node). KeepsOn s before es x w new old) (sym u.1) (keeps_received s at.now b n w new before es old old h.now u.0 written is same)

keeps_served : (s : ℕ) (at : Moment) (bs : Datagrams) (n m : Node) (w new : WriterState) (before : Option (List ℕ)) (es : List Entry) (old handed : Option
    Datagrams) → Fits at
    → HasTaken s at bs n m w new → AreBytes bs → GrowsAll old handed (texts_by n at.stamp bs) → IsWritten before w es → IsKept s n w es old
    → KeepsOn s before es m w new handed
keeps_served s at bs n m w new before es old handed h taken bytes sent written is =
    keeps_taken s at bs n m w new before es old handed h taken bytes written is
    (handed_texts s at n.application.outfit (came n.application) es bs old handed is.handed_are sent)

answer_has : (s : ℕ) (at : Moment) (a : AppProfile) (ds : List Pdu) (es : List Entry) (bs : Datagrams) (b : List ℕ) (p : Pdu) → reply_at a ds at.stamp bs b ≡ Some p
    → HasSent s (es ++ entries_after a ds s at (b ∷ bs)) (pdu_text p)
answer_has s at a ds es bs b p due =
    let first = entries_after a ds s at bs in
    let last = Received s at.now b ∷ sent_as s at.now (reply_at a ds at.stamp bs b) in
    sent_late s es (first ++ last) (pdu_text p) (sent_late s first last (pdu_text p) (by (reply_at a ds at.stamp bs b) due)) where
      by : (o : Option Pdu) → o ≡ Some p → HasSent s (Received s at.now b ∷ sent_as s at.now o) (pdu_text p)
      by None e = absurd cc
      by (Some q) e = let same : q ≡ p = cc in inl (refl, ap pdu_text same)

keeps_lost : (s : ℕ) (at : Moment) (old new : State) (before : Option (List ℕ)) (es : List Entry) → Fits at → LosesSend s at old new
    → IsWritten before old.recorder es
    → IsKept s old.node old.recorder es old.sent → KeepsOn s before es new.node old.recorder new.recorder new.sent
keeps_lost s at old new before es h l written is =
    let a = old.node.application.outfit in
    let ds = came old.node.application in
    let bs = short_of l.earlier in
    let all = entries_after a ds s at (l.datagram ∷ bs) in
    keeps_taken s at (l.datagram ∷ bs) old.node new.node old.recorder new.recorder before es old.sent new.sent h l.taken l.bytes written is
    (handed_may s (es ++ all) l.before new.sent (pdu_text l.answer)
    (handed_all s (es ++ all) old.sent l.before (texts_after a ds at.stamp bs) (handed_more s es all old.sent is.handed_are) l.sent_are
    (each_on (HasSent s (entries_after a ds s at bs)) (HasSent s (es ++ all))
    (λ b has. sent_late s es all b (sent_more s (entries_after a ds s at bs) _ b has)) (texts_after a ds at.stamp bs) (texts_has s at a ds bs)))
    l.may_be_sent (answer_has s at a ds es bs l.datagram l.answer l.due))

keeps_stopped : (s : ℕ) (at : Moment) (fault : TurnFault WriterFault) (old new : State) (before : Option (List ℕ)) (es : List Entry) → Fits at
    → BreaksTurn s at fault old new
    → IsWritten before old.recorder es → IsKept s old.node old.recorder es old.sent → KeepsOn s before es new.node old.recorder new.recorder new.sent
keeps_stopped s at fault old new before es h l written is =
    then_keeps s before es l.node new.node old.recorder l.recorder new.recorder new.sent new.sent
    (keeps_served s at (short_of l.earlier) old.node l.node old.recorder l.recorder before es old.sent new.sent h l.taken l.bytes.1 l.sent_are
    written is)
    (λ fs more there. keeps_broken s at l.datagram fault l.node new.node l.recorder new.recorder before fs new.sent h l.bytes.0 l.short l.broken
    more there
    (same_itself new.sent))

pub keeps_serves : (s : ℕ) (at : Moment) (turns : ℕ) (old new : State) (result : Result Served ServeFault) → Fits at → ServeEndsAt s at turns old new result
    → Keeps s old.node old.recorder old.sent new.node new.recorder new.sent
keeps_serves s at turns old new (Ok served) h ends = λ before es written is.
    keeps_served s at (short_of ends.datagrams) old.node new.node old.recorder new.recorder before es old.sent new.sent h ends.done.taken
    ends.done.bytes
    ends.done.sent_are written is
keeps_serves s at turns old new (Err faults.Receive) h ends = λ before es written is.
    keeps_served s at (short_of ends.datagrams) old.node new.node old.recorder new.recorder before es old.sent new.sent h ends.done.taken
    ends.done.bytes
    ends.done.sent_are written is
keeps_serves s at turns old new (Err faults.Send) h ends = λ before es written is. keeps_lost s at old new before es h ends written is
keeps_serves s at turns old new (Err (faults.Record fault)) h ends = λ before es written is. keeps_stopped s at (turn_faults.Record fault) old new
    before es h ends written is
keeps_serves s at turns old new (Err faults.Memory) h ends = λ before es written is. keeps_stopped s at turn_faults.Memory old new before es h ends
    written is

-- Of orders and repeats.

-- an entry of the station that sends a text
keeps_text : (s now : ℕ) (text : List ℕ) (n m : Node) (w new : WriterState) (before : Option (List ℕ)) (es : List Entry) (old handed : Option
    Datagrams) → now < 2 ^ 64
    → WritesOne w (Sent s now text) new → m.application ≡ n.application → m.manager.settings ≡ n.manager.settings
    → HalvesFollow (Unit {0}) s n.application.outfit (came n.application) m.manager (Send s text ∷ log_at s (past es)) (IsClosed w)
    → AreHanded s (es ++ Sent s now text ∷ []) handed → IsWritten before w es → IsKept s n w es old → KeepsOn s before es m w new handed
keeps_text s now text n m w new before es old handed h one application settings halves handed_are written is =
    step_keeps s before es n m w new old handed is (record {
      more = Sent s now text ∷ [];
      own = (refl, tt);
      setting = one.adds.setting;
      closed = λ c. absurd (is_open w (Sent s now text) one.taken c);
      written = written_one before w new es (Sent s now text) (now_stamped now h) written one;
      outfit = ap (λ (a : ApplicationData). a.outfit) application;
      settings = settings;
      halves = subst (λ (ds : List Pdu). HalvesFollow (Unit {0}) s n.application.outfit ds m.manager (log_at s (past (es ++ Sent s now text ∷ []))) (IsClosed new))
          (sym (ap came application))
          (subst (λ (log : History). HalvesFollow (Unit {0}) s n.application.outfit (came n.application) m.manager log (IsClosed new)) (sym (log_sent s now es text))
          (halves_closed s n.application.outfit (came n.application) m.manager _ (IsClosed w) (IsClosed new)
          (λ c. absurd (is_open w (Sent s now text) one.taken c)) halves));
      handed_are = handed_are;
    })

-- nothing was written, and the manager half went on
pub keeps_quiet : (s : ℕ) (before : Option (List ℕ)) (es : List Entry) (n m : Node) (w new : WriterState) (old handed : Option Datagrams)
    → IsWritten before new es
    → new.setting ≡ w.setting → (IsClosed w → IsClosed new) → m.application ≡ n.application → m.manager.settings ≡ n.manager.settings
    → HalvesFollow (Unit {0}) s n.application.outfit (came n.application) m.manager (log_at s (past es)) (IsClosed w) → IsKept s n w es old → Same old handed
    → KeepsOn s before es m w new handed
keeps_quiet s before es n m w new old handed written setting closed application settings halves is same =
    step_keeps s before es n m w new old handed is (record {
      more = [];
      own = tt;
      setting = setting;
      closed = closed;
      written = subst (IsWritten before new) (sym (append-nil es)) written;
      outfit = ap (λ (a : ApplicationData). a.outfit) application;
      settings = settings;
      halves = subst (λ (ds : List Pdu). HalvesFollow (Unit {0}) s n.application.outfit ds m.manager (log_at s (past (es ++ []))) (IsClosed new)) (sym (ap came
          application))
          (subst (λ (l : List Entry). HalvesFollow (Unit {0}) s n.application.outfit (came n.application) m.manager (log_at s (past l)) (IsClosed new)) (sym
          (append-nil es))
          (halves_closed s n.application.outfit (came n.application) m.manager _ (IsClosed w) (IsClosed new) closed halves));
      handed_are = subst (λ (l : List Entry). AreHanded s l handed) (sym (append-nil es)) (handed_same s es old handed is.handed_are same);
    })

-- what was kept of the manager half, by its own outfit
exercise_own : (s : ℕ) (n : Node) (w : SettingData) → IsOfStation s n w → n.manager.settings.exercise ≡ n.application.outfit.exercise
exercise_own s n w is = is.manager_exercise ∙ sym is.exercise

address_own : (s : ℕ) (n : Node) (w : SettingData) → IsOfStation s n w → n.manager.settings.address ≡ n.application.outfit.station.address
address_own s n w is = is.address ∙ sym (ap (λ (x : StationData). x.address) is.station)

handed_text : (s now : ℕ) (text : List ℕ) (es : List Entry) (old new : Option Datagrams) → AreHanded s es old → MayGrow old new text
    → AreHanded s (es ++ Sent s now text ∷ []) new
handed_text s now text es old new h may =
    handed_may s (es ++ Sent s now text ∷ []) old new text (handed_more s es (Sent s now text ∷ []) old h) may
    (sent_late s es (Sent s now text ∷ []) text (inl (refl, refl)))

-- what stands of the halves after an order was made
order_sent : (s : ℕ) (at : Moment) → at.stamp < 2 ^ 32 → (order : Order) (n m : Node) (w : WriterState) (es : List Entry) (old : Option Datagrams) → is_request_body order.body ≡ true
    → Makes at order n m → IsKept s n w es old
    → HalvesFollow (Unit {0}) s n.application.outfit (came n.application) m.manager (Send s (pdu_text (next_order n.manager at.stamp order)) ∷ log_at s (past es)) (IsClosed
    w)
order_sent s at fits order n m w es old request makes is =
    subst (λ (x : Node). HalvesFollow (Unit {0}) s n.application.outfit (came n.application) x.manager (Send s (pdu_text (next_order n.manager at.stamp order)) ∷ log_at s
    (past es)) (IsClosed w))
    (sym makes.halves)
    (halves_order s n.application.outfit (came n.application) n.manager _ (IsClosed w) order at.now at.stamp fits is.halves (exercise_own s n w.setting is.station)
    (address_own s n w.setting is.station) request makes.made makes.in_range)

order_withheld : (s : ℕ) (at : Moment) → at.stamp < 2 ^ 32 → (order : Order) (n m : Node) (w : WriterState) (es : List Entry) (old : Option Datagrams)
    → is_request_body order.body ≡ true
    → Makes at order n m → IsKept s n w es old
    → HalvesFollow (Unit {0}) s n.application.outfit (came n.application) m.manager (log_at s (past es)) (IsClosed w)
order_withheld s at fits order n m w es old request makes is =
    subst (λ (x : Node). HalvesFollow (Unit {0}) s n.application.outfit (came n.application) x.manager (log_at s (past es)) (IsClosed w)) (sym makes.halves)
    (halves_withhold s n.application.outfit (came n.application) n.manager _ (IsClosed w) order at.now at.stamp fits is.halves request makes.made makes.in_range)

makes_application : (at : Moment) (order : Order) (n m : Node) → Makes at order n m → m.application ≡ n.application
makes_application at order n m makes = ap (λ (x : Node). x.application) makes.halves

makes_settings : (at : Moment) (order : Order) (n m : Node) → Makes at order n m → m.manager.settings ≡ n.manager.settings
makes_settings at order n m makes = ap (λ (x : Node). x.manager.settings) makes.halves

pub keeps_issue : (s : ℕ) (at : Moment) (order : Order) (old new : State) (result : Result ℕ IssueFault) → Fits at → is_request_body order.body ≡ true
    → IssueEndsAt s at order old new result → Keeps s old.node old.recorder old.sent new.node new.recorder new.sent
keeps_issue s at order old new (Ok id) h request ends = λ before es written is.
    keeps_text s at.now (pdu_text (next_order old.node.manager at.stamp order)) old.node new.node old.recorder new.recorder before es old.sent new.sent h.now
    ends.goes.entry
    (makes_application at order old.node new.node ends.makes) (makes_settings at order old.node new.node ends.makes)
    (order_sent s at h.stamp order old.node new.node old.recorder es old.sent request ends.makes is)
    (handed_text s at.now (pdu_text (next_order old.node.manager at.stamp order)) es old.sent new.sent is.handed_are (inl ends.goes.sent_are)) written is
keeps_issue s at order old new (Err (issue_faults.Order fault)) h request ends = λ before es written is.
    subst (λ (x : Node). KeepsOn s before es x old.recorder new.recorder new.sent) (sym ends.1)
    (keeps_unwritten s before es old.node old.recorder new.recorder old.sent new.sent
    (subst (λ (w : WriterState). IsWritten before w es) (sym ends.2.recorder) written) (ap (λ (w : WriterState). w.setting) ends.2.recorder)
    (λ c. subst IsClosed (sym ends.2.recorder) c) is ends.2.sent_are)
keeps_issue s at order old new (Err issue_faults.Send) h request ends = λ before es written is.
    keeps_text s at.now (pdu_text (next_order old.node.manager at.stamp order)) old.node new.node old.recorder new.recorder before es old.sent new.sent h.now
    ends.left.entry
    (makes_application at order old.node new.node ends.makes) (makes_settings at order old.node new.node ends.makes)
    (order_sent s at h.stamp order old.node new.node old.recorder es old.sent request ends.makes is)
    (handed_text s at.now (pdu_text (next_order old.node.manager at.stamp order)) es old.sent new.sent is.handed_are ends.left.may_be_sent) written is
keeps_issue s at order old new (Err (issue_faults.Record fault)) h request ends = λ before es written is.
    (let text = pdu_text (next_order old.node.manager at.stamp order) in
    keeps_quiet s before es old.node new.node old.recorder new.recorder old.sent new.sent
    (written_none before old.recorder new.recorder es (Sent s at.now text) fault (now_stamped at.now h.now) written ends.left.refused)
    (setting_none old.recorder new.recorder (Sent s at.now text) fault ends.left.refused)
    (λ c. closed_none old.recorder new.recorder (Sent s at.now text) fault (good_sent s at.now text old.recorder.setting old.node is.station ends.size)
    ends.left.refused)
    (makes_application at order old.node new.node ends.makes) (makes_settings at order old.node new.node ends.makes)
    (order_withheld s at h.stamp order old.node new.node old.recorder es old.sent request ends.makes is) is ends.left.sent_are)
keeps_issue s at order old new (Err issue_faults.Memory) h request ends = λ before es written is.
    keeps_quiet s before es old.node new.node old.recorder new.recorder old.sent new.sent
    (subst (λ (w : WriterState). IsWritten before w es) (sym ends.1.recorder) written) (ap (λ (w : WriterState). w.setting) ends.1.recorder)
    (λ c. subst IsClosed (sym ends.1.recorder) c)
    (makes_application at order old.node new.node ends.0) (makes_settings at order old.node new.node ends.0)
    (order_withheld s at h.stamp order old.node new.node old.recorder es old.sent request ends.0 is) is ends.1.sent_are

-- what stands of the halves after a tick
tick_sent : (s : ℕ) (at : Moment) → at.stamp < 2 ^ 32 → (p : Pdu) (n m : Node) (w : WriterState) (es : List Entry) (old : Option Datagrams) → m ≡ after_tick n at
    → next_repeat n.manager at ≡ Some p
    → IsKept s n w es old → HalvesFollow (Unit {0}) s n.application.outfit (came n.application) m.manager (Send s (pdu_text p) ∷ log_at s (past es)) (IsClosed w)
tick_sent s at fits p n m w es old after due is =
    subst (λ (x : Node). HalvesFollow (Unit {0}) s n.application.outfit (came n.application) x.manager (Send s (pdu_text p) ∷ log_at s (past es)) (IsClosed w)) (sym
    after)
    (halves_repeat s n.application.outfit (came n.application) n.manager _ (IsClosed w) at.now at.stamp fits p is.halves (exercise_own s n w.setting is.station)
    (address_own s n w.setting is.station) due)

tick_quiet : (s : ℕ) (at : Moment) (n m : Node) (w : WriterState) (es : List Entry) (old : Option Datagrams) → m ≡ after_tick n at → IsKept s n w es old
    → HalvesFollow (Unit {0}) s n.application.outfit (came n.application) m.manager (log_at s (past es)) (IsClosed w)
tick_quiet s at n m w es old after is =
    subst (λ (x : Node). HalvesFollow (Unit {0}) s n.application.outfit (came n.application) x.manager (log_at s (past es)) (IsClosed w)) (sym after)
    (halves_tick s n.application.outfit (came n.application) n.manager _ (IsClosed w) at.now at.stamp is.halves)

-- nothing was written at a tick
keeps_tick : (s : ℕ) (at : Moment) (old new : State) (before : Option (List ℕ)) (es : List Entry) → new.node ≡ after_tick old.node at → Rests old new
    → IsWritten before old.recorder es → IsKept s old.node old.recorder es old.sent → KeepsOn s before es new.node old.recorder new.recorder new.sent
keeps_tick s at old new before es after rests written is =
    keeps_quiet s before es old.node new.node old.recorder new.recorder old.sent new.sent
    (subst (λ (w : WriterState). IsWritten before w es) (sym rests.recorder) written) (ap (λ (w : WriterState). w.setting) rests.recorder)
    (λ c. subst IsClosed (sym rests.recorder) c)
    (ap (λ (x : Node). x.application) after) (ap (λ (x : Node). x.manager.settings) after)
    (tick_quiet s at old.node new.node old.recorder es old.sent after is) is rests.sent_are

pub keeps_nudge : (s : ℕ) (at : Moment) (old new : State) (result : Result Bool IssueFault) → Fits at → NudgeEndsAt s at old new result
    → Keeps s old.node old.recorder old.sent new.node new.recorder new.sent
keeps_nudge s at old new (Ok true) h ends = λ before es written is.
    keeps_text s at.now (pdu_text ends.1.repeat) old.node new.node old.recorder new.recorder before es old.sent new.sent h.now ends.1.goes.entry
    (ap (λ (x : Node). x.application) ends.0) (ap (λ (x : Node). x.manager.settings) ends.0)
    (tick_sent s at h.stamp ends.1.repeat old.node new.node old.recorder es old.sent ends.0 ends.1.due is)
    (handed_text s at.now (pdu_text ends.1.repeat) es old.sent new.sent is.handed_are (inl ends.1.goes.sent_are)) written is
keeps_nudge s at old new (Ok false) h ends = λ before es written is. keeps_tick s at old new before es ends.0 ends.2 written is
keeps_nudge s at old new (Err (issue_faults.Order fault)) h ends = absurd ends
keeps_nudge s at old new (Err issue_faults.Send) h ends = λ before es written is.
    keeps_text s at.now (pdu_text ends.1.repeat) old.node new.node old.recorder new.recorder before es old.sent new.sent h.now ends.1.left.entry
    (ap (λ (x : Node). x.application) ends.0) (ap (λ (x : Node). x.manager.settings) ends.0)
    (tick_sent s at h.stamp ends.1.repeat old.node new.node old.recorder es old.sent ends.0 ends.1.due is)
    (handed_text s at.now (pdu_text ends.1.repeat) es old.sent new.sent is.handed_are ends.1.left.may_be_sent) written is
keeps_nudge s at old new (Err (issue_faults.Record fault)) h ends = λ before es written is.
    (let text = pdu_text ends.1.repeat in
    keeps_quiet s before es old.node new.node old.recorder new.recorder old.sent new.sent
    (written_none before old.recorder new.recorder es (Sent s at.now text) fault (now_stamped at.now h.now) written ends.1.left.refused)
    (setting_none old.recorder new.recorder (Sent s at.now text) fault ends.1.left.refused)
    (λ c. closed_none old.recorder new.recorder (Sent s at.now text) fault (good_sent s at.now text old.recorder.setting old.node is.station ends.1.size)
    ends.1.left.refused)
    (ap (λ (x : Node). x.application) ends.0) (ap (λ (x : Node). x.manager.settings) ends.0)
    (tick_quiet s at old.node new.node old.recorder es old.sent ends.0 is) is ends.1.left.sent_are)
keeps_nudge s at old new (Err issue_faults.Memory) h ends = λ before es written is. keeps_tick s at old new before es ends.0 ends.2 written is

-- Nothing was done.
pub keeps_nothing : (s : ℕ) (n : Node) (w : WriterState) (handed : Option Datagrams) → Keeps s n w handed n w handed
keeps_nothing s n w handed = λ before es written is.
    keeps_unwritten s before es n w w handed handed written refl (λ closed. closed) is (same_itself handed)
