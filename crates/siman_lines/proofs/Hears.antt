-- What a station keeps as it takes datagrams.
use Rattle.std.proofs.Common.{◌≡◌, ℕ, ◌<◌, ◌^◌, List, [], ◌∷◌, ◌++◌, refl, sym, ◌∙◌, subst, inl, append_assoc, append-nil}
use Rattle.std.specs.Prelude.{Option, Some, None}
use Rattle.siman_pdus.specs.declared.pdu.Pdu.{Pdu}
use Rattle.siman_pdus.specs.Reading.{reading}
use Rattle.exercise_model.specs.Entry.{Entry, Received}
use Rattle.exercise_model.specs.History.{History, Get, past, log_at}
use Rattle.exercise_recording.specs.Writer.{WriterState}
use Rattle.siman_application.specs.AppProfile.{AppProfile}
use Rattle.siman_application.specs.OwnLog.{sent_after}
use Rattle.siman_manager.specs.Book.{Book}
use Rattle.siman_stations.specs.declared.moment.Moment.{Moment}
use Rattle.siman_stations.specs.Recording.{WritesOne}
use Rattle.siman_stations.specs.StationTurn.{sent_as, AreOf, RecordsAll}
use Rattle.siman_stations.specs.Halves.{HalvesFollow}
use Rattle.siman_stations.proofs.Offered.{past-came, log-own, own_sent, all_append, halves_take, halves_pass, halves_closed, none_missing}
use Rattle.siman_lines.specs.LineDatagrams.{Datagrams}
use Rattle.siman_lines.specs.Serving.{requests_with, pdus_after, taken_with, book_after, reply_with, reply_at, entries_after, IsBytes, AreBytes}
use Rattle.siman_lines.specs.KeptAtLine.{IsClosed}
use Rattle.siman_lines.proofs.Taking.{records_split}
use Rattle.siman_lines.proofs.Writings.{is_open, closed_all}

-- One datagram.

hear_by : (s stamp : ℕ) → stamp < 2 ^ 32 → (a : AppProfile) (ds : List Pdu) (k : Book) (log : History) (closed : Type 0) (b : List ℕ) → (closed → ⊥) → IsBytes b
    → HalvesFollow (Unit {0}) s a ds k log closed
    → (o : Option Pdu) → reading b ≡ o
    → HalvesFollow (Unit {0}) s a (requests_with a ds o) (taken_with k o) (sent_after s (reply_with a ds o stamp) (Get s b ∷ log)) closed
hear_by s stamp fits a ds k log closed b takes bytes is None e = halves_pass s a ds k log closed b (inl e) is
hear_by s stamp fits a ds k log closed b takes bytes is (Some q) e =
    halves_take s a ds k log closed b q stamp is (none_missing s a ds k log closed is takes) (record { bytes = bytes; read = e })
    fits

-- ONE MORE DATAGRAM is taken
pub hear_one : (s : ℕ) (at : Moment) → at.stamp < 2 ^ 32 → (a : AppProfile) (ds : List Pdu) (k : Book) (es : List Entry) (w new : WriterState) (b : List ℕ) → IsBytes b
    → HalvesFollow (Unit {0}) s a ds k (log_at s (past es)) (IsClosed w)
    → RecordsAll WritesOne (Received s at.now b ∷ sent_as s at.now (reply_with a ds (reading b) at.stamp)) w new
    → HalvesFollow (Unit {0}) s a (requests_with a ds (reading b)) (taken_with k (reading b))
    (log_at s (past (es ++ (Received s at.now b ∷ sent_as s at.now (reply_with a ds (reading b) at.stamp))))) (IsClosed new)
hear_one s at fits a ds k es w new b bytes is all =
    let o = reply_with a ds (reading b) at.stamp in
    let more = Received s at.now b ∷ sent_as s at.now o in
    subst (λ (log : History). HalvesFollow (Unit {0}) s a (requests_with a ds (reading b)) (taken_with k (reading b)) log (IsClosed new))
    (sym (log-own s es more (refl, own_sent s at.now o) ∙ past-came s at.now b o (log_at s (past es))))
    (halves_closed s a _ _ _ (IsClosed w) (IsClosed new) (closed_all more w new all)
    (hear_by s at.stamp fits a ds k (log_at s (past es)) (IsClosed w) b (is_open w (Received s at.now b) all.1.taken) bytes is (reading b) refl))

-- DATAGRAMS are taken
pub hear_all : (s : ℕ) (at : Moment) → at.stamp < 2 ^ 32 → (a : AppProfile) (ds : List Pdu) (k : Book) (es : List Entry) (bs : Datagrams) (w new : WriterState) → AreBytes bs
    → HalvesFollow (Unit {0}) s a ds k (log_at s (past es)) (IsClosed w) → RecordsAll WritesOne (entries_after a ds s at bs) w new
    → HalvesFollow (Unit {0}) s a (pdus_after a ds bs) (book_after k bs) (log_at s (past (es ++ entries_after a ds s at bs))) (IsClosed new)
hear_all s at fits a ds k es [] w new bytes is all =
    subst (λ (l : List Entry). HalvesFollow (Unit {0}) s a ds k (log_at s (past l)) (IsClosed new)) (sym (append-nil es))
    (halves_closed s a ds k _ (IsClosed w) (IsClosed new) (λ h. subst IsClosed (sym all) h) is)
hear_all s at fits a ds k es (b ∷ bs) w new bytes is all =
    let first = entries_after a ds s at bs in
    let o = reply_at a ds at.stamp bs b in
    let split = records_split WritesOne first (Received s at.now b ∷ sent_as s at.now o) w new all in
    subst (λ (l : List Entry). HalvesFollow (Unit {0}) s a (pdus_after a ds (b ∷ bs)) (book_after k (b ∷ bs)) (log_at s (past l)) (IsClosed new))
    (append_assoc es first (Received s at.now b ∷ sent_as s at.now o))
    (hear_one s at fits a (pdus_after a ds bs) (book_after k bs) (es ++ first) split.mid new b bytes.0
    (hear_all s at fits a ds k es bs w split.mid bytes.1 is split.first) split.rest)

-- all entries are of the station
pub own_entries : (s : ℕ) (at : Moment) (a : AppProfile) (ds : List Pdu) (bs : Datagrams) → AreOf s (entries_after a ds s at bs)
own_entries s at a ds [] = tt
own_entries s at a ds (b ∷ bs) =
    all_append _ (entries_after a ds s at bs) _ (own_entries s at a ds bs) (refl, own_sent s at.now (reply_at a ds at.stamp bs b))
