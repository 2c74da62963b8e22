-- What comes of lists of calls, from the start of a recording on.
use Rattle.std.proofs.Common.{◌≡◌, ℕ, ◌<◌, List, [], ◌∷◌, length, ap, sym, ◌∙◌, subst, inr, arith}
use Rattle.std.specs.Prelude.{true, nat_lt, Option}
use Rattle.std.specs.List.{AllByRecursion}
use Rattle.std.proofs.lemmas.Bool.{and_parts}
use Rattle.std.proofs.lemmas.Bool.Decides.{nat_tests}
use Rattle.exercise_model.specs.Entry.{Entry}
use Rattle.exercise_model.specs.History.{History, station_of, past, log_at}
use Rattle.exercise_model.specs.Recording.{IsRecording}
use Rattle.exercise_model.specs.Run.{IsRun}
use Rattle.exercise_model.specs.Setting.{SettingData, station_in}
use Rattle.exercise_model.proofs.Offered.{within, past_within}
use Rattle.exercise_model.specs.Station.{StationData}
use Rattle.exercise_recording.specs.Writer.{WriterState}
use Rattle.siman_application.specs.OwnLog.{AreOneOrder}
use Rattle.siman_application.specs.Application.{came}
use Rattle.siman_stations.specs.declared.turn.Node.{Node}
use Rattle.siman_stations.specs.Deeds.{DeedsHaveNoCause, ReceivesSent, RequestsAreOrdered}
use Rattle.siman_stations.proofs.Offered.{all_run, requests_ordered, deeds_stand}
use Rattle.siman_lines.specs.LineDatagrams.{Datagrams}
use Rattle.siman_lines.specs.KeptAtLine.{IsClosed, IsKept}
use Rattle.siman_lines.specs.Calls.{IsFresh, Stations, HasStation, AreAll, AreBegun, AreCalls, AreKept, ComesOfCalls}
use Rattle.siman_lines.proofs.Identifiers.{OrdersOwn, numbered, are_one}
use Rattle.siman_lines.proofs.Stations.{started, fresh, found, all_calls}

-- Stations as they are begun.

all_fresh : (w : SettingData) (x : Stations) → x.recorder.setting ≡ w → (stations : List ℕ)
    → AllByRecursion (λ s. IsFresh s (x.node s) w (x.handed s)) stations
    → AllByRecursion (λ s. IsKept s (x.node s) x.recorder [] (x.handed s)) stations
all_fresh w x e [] all = tt
all_fresh w x e (s ∷ ss) all = (
  fresh s (x.node s) x.recorder (x.handed s) (subst (λ (v : SettingData). IsFresh s (x.node s) v (x.handed s)) (sym e) all.0),
  all_fresh w x e ss all.1,
)

begun : (before : Option (List ℕ)) (w : SettingData) (stations : List ℕ) (x : Stations) → AreBegun before w stations x
    → AreKept before stations x []
begun before w stations x is = record {
  written = started before w x.recorder is.setting is.starts;
  kept = all_fresh w x is.starts.setting stations is.fresh;
}

-- What stands of a station that all is kept of.

pub requests_kept : (s : ℕ) (n : Node) (w : WriterState) (es : List Entry) (handed : Option Datagrams) → IsKept s n w es handed
    → RequestsAreOrdered w.setting.exercise n.manager (log_at s (past es))
requests_kept s n w es handed is =
    subst (λ (x : ℕ). RequestsAreOrdered x n.manager (log_at s (past es))) is.station.exercise
    (requests_ordered s n.application.outfit (came n.application) n.manager (log_at s (past es)) (IsClosed w) is.halves)

pub deeds_kept : (s : ℕ) (n : Node) (w : WriterState) (es : List Entry) (handed : Option Datagrams) → IsKept s n w es handed
    → AreOneOrder n.application.outfit (log_at s (past es)) → DeedsHaveNoCause w.setting.exercise (station_in w.setting s) (log_at s (past es))
deeds_kept s n w es handed is one =
    subst (λ (x : ℕ). DeedsHaveNoCause x (station_in w.setting s) (log_at s (past es))) is.station.exercise
    (subst (λ (o : StationData). DeedsHaveNoCause n.application.outfit.exercise o (log_at s (past es))) is.station.station
    (deeds_stand s n.application.outfit (came n.application) n.manager (log_at s (past es)) (IsClosed w) is.halves
    (is.station.address ∙ sym (ap (λ (o : StationData). o.address) is.station.station)) (inr one)))

-- Entries that are a run.

below_true : (a b : ℕ) → nat_lt a b ≡ true → a < b
below_true a b e = grind (arith, nat_tests)

each_within : (n : ℕ) (h : History) → within n h ≡ true → AllByRecursion (λ v. station_of v < n) h
each_within n [] e = tt
each_within n (v ∷ h) e =
    let parts = and_parts (nat_lt (station_of v) n) (within n h) e in
    (below_true (station_of v) n parts.0, each_within n h parts.1)

pub all_within : (w : WriterState) (es : List Entry) → IsRecording (record { setting = w.setting; entries = es })
    → AllByRecursion (λ v. station_of v < length w.setting.stations) (past es)
all_within w es is = each_within (length w.setting.stations) (past es) (past_within (record { setting = w.setting; entries = es }) is)

own_orders : (s : ℕ) (n : Node) (w : WriterState) (es : List Entry) (handed : Option Datagrams) → IsKept s n w es handed
    → OrdersOwn w.setting (past es) s n.manager
own_orders s n w es handed is = record {
  address = is.station.address;
  ordered = requests_kept s n w es handed is;
  numbered = numbered n.manager is.halves.calls is.halves.fit is.halves.manager;
}

pub one_kept : (before : Option (List ℕ)) (stations : List ℕ) (x : Stations) (es : List Entry) → AreAll x.recorder.setting stations
    → AreKept before stations x es → ReceivesSent x.recorder.setting (past es) → (s : ℕ) → s < length x.recorder.setting.stations
    → AreOneOrder (x.node s).application.outfit (log_at s (past es))
one_kept before stations x es all are received s within =
    let kept : (t : ℕ) → t < length x.recorder.setting.stations → IsKept t (x.node t) x.recorder es (x.handed t) =
    λ t below. found before x es t stations (all t below) are.kept in
    are_one (record { setting = x.recorder.setting; entries = es }) (λ t. (x.node t).manager) are.written.recording
    (λ t below. own_orders t (x.node t) x.recorder es (x.handed t) (kept t below)) (all_within x.recorder es are.written.recording) received s
    (x.node s).application.outfit (kept s within).station.exercise

pub run_kept : (before : Option (List ℕ)) (stations : List ℕ) (x : Stations) (es : List Entry) → AreAll x.recorder.setting stations
    → AreKept before stations x es → ReceivesSent x.recorder.setting (past es) → IsRun x.recorder.setting (past es)
run_kept before stations x es all are received =
    all_run x.recorder.setting (past es)
    (λ s below. deeds_kept s (x.node s) x.recorder es (x.handed s) (found before x es s stations (all s below) are.kept)
    (one_kept before stations x es all are received s below))
    (all_within x.recorder es are.written.recording) received

pub comes : (before : Option (List ℕ)) (w : SettingData) (stations calls : List ℕ) (old new : Stations) → AreBegun before w stations old
    → AllByRecursion (λ s. HasStation s stations) calls
    → AreCalls calls old new → ComesOfCalls before w stations new
comes before w stations calls old new is has are =
    let all = all_calls before stations calls old new [] has (begun before w stations old is) are in
    by all.0 (all.1 ∙ is.starts.setting) all.2 where
      by : (es : List Entry) → new.recorder.setting ≡ w → AreKept before stations new es → ComesOfCalls before w stations new
      by es e kept = record {
        entries = es;
        setting = e;
        kept = kept;
        run = subst (λ (v : SettingData). ReceivesSent v (past es) → IsRun v (past es)) e
            (run_kept before stations new es (subst (λ (v : SettingData). AreAll v stations) (sym e) is.all) kept);
      }
