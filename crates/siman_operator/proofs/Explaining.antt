-- What one station records is explained.
use Rattle.std.proofs.Common.{◌≡◌, ℕ, ◌<◌, List, [], ◌∷◌, ◌++◌, length, refl, ap, subst, arith}
use Rattle.std.specs.Prelude.{Bool, true, false, ◌&&◌, ◌||◌, not, Option, None}
use Rattle.std.specs.List.{AllByRecursion}
use Rattle.siman_pdus.specs.declared.pdu.Pdu.{Pdu}
use Rattle.exercise_model.specs.declared.cause.Cause.TheVariants.{Stranger, NeverSent}
use Rattle.exercise_model.specs.Cause.{first_cause, get_cause, was_sent}
use Rattle.exercise_model.specs.Entry.{Entry}
use Rattle.exercise_model.specs.History.{Event, Send, Get, Tell, History, station_of, past, log_at, log_of}
use Rattle.exercise_model.specs.Run.{Explains}
use Rattle.exercise_model.specs.Setting.{SettingData, is_open, may_be_heard, must_have_sent, is_recorded}
use Rattle.exercise_model.proofs.Offered.{past-append}
use Rattle.exercise_recording.specs.Writer.{WriterState}
use Rattle.siman_application.specs.OwnLog.{AreOneOrder}
use Rattle.siman_stations.specs.declared.turn.Node.{Node}
use Rattle.siman_stations.proofs.Offered.{AllStand, all_tail, GetsStand, heard_run}
use Rattle.siman_lines.specs.KeptAtLine.{IsWritten, IsKept}
use Rattle.siman_lines.specs.LineDatagrams.{Datagrams}
use Rattle.siman_lines.proofs.Offered.{all_within, deeds_kept}
use Rattle.siman_operator.specs.Explained.{HearsOwnSent}

-- of what comes from a station that must have sent it, it was sent
row_none : (heard must sent : Bool) → heard ≡ true → (must ≡ true → sent ≡ true)
    → first_cause ((not heard, Stranger) ∷ (must && not sent, NeverSent) ∷ []) ≡ None
row_none false must sent heard own = absurd cc
row_none true false sent heard own = refl
row_none true true true heard own = refl
row_none true true false heard own = let no : false ≡ true = own refl in absurd cc

open_hears : (w : SettingData) (p : Pdu) → is_open w.form ≡ true → may_be_heard w p ≡ true
unfolding may_be_heard
open_hears w p open_form = ap (λ (b : Bool). b || is_recorded w p) open_form

get_stands : (w : SettingData) (h : History) (b : List ℕ) (p : Pdu) → is_open w.form ≡ true → (must_have_sent w p ≡ true → was_sent b h ≡ true)
    → get_cause w h b p ≡ None
unfolding get_cause
get_stands w h b p open_form own = row_none (may_be_heard w p) (must_have_sent w p) (was_sent b h) (open_hears w p open_form) own

gets_stand : (w : SettingData) (h : History) → is_open w.form ≡ true → HearsOwnSent w h → GetsStand w h
gets_stand w [] open_form hears = tt
gets_stand w (Send s b ∷ h) open_form hears = gets_stand w h open_form hears
gets_stand w (Get s b ∷ h) open_form hears = (λ p e. get_stands w h b p open_form (hears.0 p e), gets_stand w h open_form hears.1)
gets_stand w (Tell s e y ∷ h) open_form hears = gets_stand w h open_form hears

all_front : (w : SettingData) (later h : History) → AllStand w (later ++ h) → AllStand w h
all_front w [] h all = all
all_front w (v ∷ later) h all = all_front w later h (all_tail w v (later ++ h) all)

within_front : (P : Event → Type 0) (later h : History) → AllByRecursion P (later ++ h) → AllByRecursion P h
within_front P [] h all = all
within_front P (v ∷ later) h all = within_front P later h all.1

zero_only : (P : ℕ → Type 0) (n : ℕ) → n ≡ 1 → P 0 → (s : ℕ) → s < n → P s
zero_only P n one at s within = let e : 0 ≡ s = omega (arith, one, within) in subst P e at

pub own_explained : (before : Option (List ℕ)) (n : Node) (w : WriterState) (handed : Option Datagrams) (front back : List Entry)
    → is_open w.setting.form ≡ true → length w.setting.stations ≡ 1 → IsWritten before w (front ++ back) → IsKept 0 n w (front ++ back) handed
    → AreOneOrder n.application.outfit (log_at 0 (past (front ++ back))) → HearsOwnSent w.setting (past front)
    → Explains (record { setting = w.setting; entries = front }) (past front)
unfolding log_of
own_explained before n w handed front back open_form one written kept orders hears =
    let all : AllStand w.setting (past (front ++ back)) =
    zero_only (λ s. _) (length w.setting.stations) one (deeds_kept 0 n w (front ++ back) handed kept orders) in
    record {
      run = heard_run w.setting (past front)
          (all_front w.setting (past back) (past front) (subst (AllStand w.setting) (past-append front back) all))
          (within_front (λ v. station_of v < length w.setting.stations) (past back) (past front)
          (subst (AllByRecursion (λ v. station_of v < length w.setting.stations)) (past-append front back) (all_within w (front ++ back) written.recording)))
          (gets_stand w.setting (past front) open_form hears);
      logs = λ s. refl;
    }
