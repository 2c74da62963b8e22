-- WHERE THE DEEDS OF EACH STATION STAND, and each datagram that is received was sent before, a history is a run.
use Rattle.std.proofs.Common.{◌≡◌, ℕ, zero, suc, ◌<◌, List, [], ◌∷◌, length, refl, ap, subst, ◌⊎◌, inl, inr, arith}
use Rattle.std.specs.Prelude.{Bool, true, false, ◌==◌, ◌||◌, not, cond, drop, slice_index_or, Option, Some, None, option_and_then, bytes_eq}
use Rattle.std.specs.List.{AllByRecursion, list_any}
use Rattle.std.proofs.lemmas.Bool.{or_left, or_right}
use Rattle.std.proofs.lemmas.Slice.Eq.{bytes_eq-Decides}
use Rattle.siman_pdus.specs.declared.pdu.Pdu.{Pdu}
use Rattle.exercise_model.specs.declared.cause.Cause.{Cause}
use Rattle.exercise_model.specs.declared.cause.Cause.TheVariants.{WrongSender, WrongState}
use Rattle.exercise_model.specs.Cause.{first_cause, send_rows, send_cause, sends, was_sent, get_cause, same_state, cause_of, IsAllowed}
use Rattle.exercise_model.specs.History.{Event, Send, Get, Tell, History, station_of, log_at}
use Rattle.exercise_model.specs.Meaning.{meaning}
use Rattle.exercise_model.specs.Run.{IsRun}
use Rattle.exercise_model.specs.Setting.{SettingData, nowhere, station_in, is_from, is_recorded}
use Rattle.exercise_model.specs.State.{state_after}
use Rattle.exercise_model.specs.Station.{StationData}
use Rattle.exercise_model.proofs.Offered.{get_where_sent}
use Rattle.siman_stations.specs.Deeds.{DeedsHaveNoCause, ReceivesSent}
use Rattle.siman_stations.proofs.Entries.{log-first}

any_at : {X : Type 0} (test : X → Bool) (xs : List X) (k : ℕ) (d : X) → k < length xs → test (slice_index_or xs k d) ≡ true
    → list_any test xs ≡ true
any_at test [] k d within e = absurd (omega arith)
any_at test (x ∷ xs) zero d within e = or_left (test x) (list_any test xs) e
any_at test (x ∷ xs) (suc k) d within e = or_right (test x) (list_any test xs) (any_at test xs k d (omega arith) e)

stand_tail : (x : ℕ) (o : StationData) (v : Event) (log : History) → DeedsHaveNoCause x o (v ∷ log) → DeedsHaveNoCause x o log
stand_tail x o (Send s b) log h = h.1
stand_tail x o (Get s b) log h = h
stand_tail x o (Tell s e y) log h = h.1

log_case : (s : ℕ) (v : Event) (h : History) (b : Bool) → (station_of v == s) ≡ b → log_at s (v ∷ h) ≡ cond b (v ∷ log_at s h) (log_at s h)
unfolding log_at
log_case s v h b e = ap (λ (t : Bool). cond t (v ∷ log_at s h) (log_at s h)) e

log_tail : (x : ℕ) (o : StationData) (s : ℕ) (v : Event) (h : History) (b : Bool) → (station_of v == s) ≡ b → DeedsHaveNoCause x o (log_at s (v ∷ h))
    → DeedsHaveNoCause x o (log_at s h)
log_tail x o s v h true e is = stand_tail x o v (log_at s h) (subst (DeedsHaveNoCause x o) (log_case s v h true e) is)
log_tail x o s v h false e is = subst (DeedsHaveNoCause x o) (log_case s v h false e) is

-- the logs of all stations stand
abbrev pub AllStand : SettingData → History → Type 0
AllStand w h = (s : ℕ) → s < length w.stations → DeedsHaveNoCause w.exercise (station_in w s) (log_at s h)

pub all_tail : (w : SettingData) (v : Event) (h : History) → AllStand w (v ∷ h) → AllStand w h
all_tail w v h all = λ s within. log_tail w.exercise (station_in w s) s v h (station_of v == s) refl (all s within)

-- what a station sends comes from it
own_row : (from : Bool) (rest : List (Bool × Cause)) → first_cause ((not from, WrongSender) ∷ rest) ≡ None → from ≡ true
own_row true rest e = refl
own_row false rest e = absurd cc

sent_own : (x : ℕ) (o : StationData) (log : History) (p : Pdu) → send_cause x o log p ≡ None → is_from o.address p ≡ true
unfolding send_cause
sent_own x o log p e = own_row (is_from o.address p) (drop 1 (send_rows x o log p)) e

first_stands : (w : SettingData) (s : ℕ) (b : List ℕ) (h : History) → AllStand w (Send s b ∷ h) → s < length w.stations
    → (p : Pdu) → meaning w.exercise b ≡ Some p → send_cause w.exercise (station_in w s) (log_at s h) p ≡ None
first_stands w s b h all within p e =
    (subst (DeedsHaveNoCause w.exercise (station_in w s)) (log-first s (Send s b) h refl) (all s within)).0 p e

either : (a b : Bool) → (a || b) ≡ true → (a ≡ true) ⊎ (b ≡ true)
either true b e = inl refl
either false b e = inr e

recorded_by : (w : SettingData) (p : Pdu) (s : ℕ) → s < length w.stations → is_from (station_in w s).address p ≡ true → is_recorded w p ≡ true
unfolding is_recorded
recorded_by w p s within own = any_at (λ (o : StationData). is_from o.address p) w.stations s nowhere within own

sent_recorded : (w : SettingData) (b : List ℕ) (p : Pdu) (h : History) → AllStand w h → AllByRecursion (λ v. station_of v < length w.stations) h
    → meaning w.exercise b ≡ Some p → list_any (sends b) h ≡ true → is_recorded w p ≡ true
sent_recorded w b p [] all within e sent = absurd cc
sent_recorded w b p (Send s c ∷ h) all within e sent =
    by (either (bytes_eq b c) (list_any (sends b) h) sent) (λ before. sent_recorded w b p h (all_tail w (Send s c) h all) within.1 e before) where
      by : (bytes_eq b c ≡ true) ⊎ (list_any (sends b) h ≡ true) → (list_any (sends b) h ≡ true → is_recorded w p ≡ true) → is_recorded w p ≡ true
      by (inl same) rest =
          recorded_by w p s within.0
          (sent_own w.exercise (station_in w s) (log_at s h) p
          (first_stands w s c h all within.0 p (subst (λ (d : List ℕ). meaning w.exercise d ≡ Some p) ((bytes_eq-Decides b c).0 same) e)))
      by (inr before) rest = rest before
sent_recorded w b p (Get s c ∷ h) all within e sent = sent_recorded w b p h (all_tail w (Get s c) h all) within.1 e sent
sent_recorded w b p (Tell s n y ∷ h) all within e sent = sent_recorded w b p h (all_tail w (Tell s n y) h all) within.1 e sent

was_recorded : (w : SettingData) (b : List ℕ) (p : Pdu) (h : History) → AllStand w h → AllByRecursion (λ v. station_of v < length w.stations) h
    → meaning w.exercise b ≡ Some p → was_sent b h ≡ true → is_recorded w p ≡ true
unfolding was_sent
was_recorded w b p h all within e sent = sent_recorded w b p h all within e sent

none_of : {X : Type 0} (f : X → Option Cause) (o : Option X) → ((x : X) → o ≡ Some x → f x ≡ None) → option_and_then f o ≡ None
none_of f None each = refl
none_of f (Some x) each = each x refl

tell_none : (same : Bool) → same ≡ true → first_cause ((not same, WrongState) ∷ []) ≡ None
tell_none true e = refl
tell_none false e = absurd cc

-- nothing stands against what is received
abbrev pub GetsStand : SettingData → History → Type 0
GetsStand w [] = Unit {0}
GetsStand w (Send s b ∷ h) = GetsStand w h
GetsStand w (Get s b ∷ h) = ((p : Pdu) → meaning w.exercise b ≡ Some p → get_cause w h b p ≡ None) × GetsStand w h
GetsStand w (Tell s e y ∷ h) = GetsStand w h

event_allowed : (w : SettingData) (v : Event) (h : History) → AllStand w (v ∷ h) → station_of v < length w.stations → GetsStand w (v ∷ h)
    → IsAllowed w h v
unfolding cause_of
event_allowed w (Send s b) h all within gets =
    none_of (send_cause w.exercise (station_in w s) (log_at s h)) (meaning w.exercise b) (first_stands w s b h all within)
event_allowed w (Get s b) h all within gets = none_of (get_cause w h b) (meaning w.exercise b) gets.0
event_allowed w (Tell s e y) h all within gets =
    tell_none (same_state y (state_after w.exercise (station_in w s) (log_at s h) e))
    (subst (DeedsHaveNoCause w.exercise (station_in w s)) (log-first s (Tell s e y) h refl) (all s within)).0

gets_tail : (w : SettingData) (v : Event) (h : History) → GetsStand w (v ∷ h) → GetsStand w h
gets_tail w (Send s b) h r = r
gets_tail w (Get s b) h r = r.1
gets_tail w (Tell s e y) h r = r

-- WHERE THE DEEDS OF EACH STATION STAND, and nothing against what is received, a history is a run
pub heard_run : (w : SettingData) (h : History) → AllStand w h → AllByRecursion (λ v. station_of v < length w.stations) h → GetsStand w h → IsRun w h
heard_run w [] all within gets = tt
heard_run w (v ∷ h) all within gets =
    (heard_run w h (all_tail w v h all) within.1 (gets_tail w v h gets), event_allowed w v h all within.0 gets)

-- what was sent before may be received
sent_stand : (w : SettingData) (h : History) → AllStand w h → AllByRecursion (λ v. station_of v < length w.stations) h → ReceivesSent w h → GetsStand w h
sent_stand w [] all within received = tt
sent_stand w (Send s b ∷ h) all within received = sent_stand w h (all_tail w (Send s b) h all) within.1 received
sent_stand w (Get s b ∷ h) all within received = (
  λ p e. get_where_sent w h b p (was_recorded w b p h (all_tail w (Get s b) h all) within.1 e (received.0 p e)) (received.0 p e),
  sent_stand w h (all_tail w (Get s b) h all) within.1 received.1,
)
sent_stand w (Tell s e y ∷ h) all within received = sent_stand w h (all_tail w (Tell s e y) h all) within.1 received

pub all_run : (w : SettingData) (h : History) → AllStand w h → AllByRecursion (λ v. station_of v < length w.stations) h → ReceivesSent w h → IsRun w h
all_run w h all within received = heard_run w h all within (sent_stand w h all within received)
