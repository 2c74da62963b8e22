-- What one look at an entry finds of it.
use Rattle.std.proofs.Common.{◌≡◌, ℕ, ◌<◌, ◌≤◌, ◌+◌, List, [], length, take, cond, Bool, Option, Some, None, true, false, refl, sym, ap, ◌∙◌, ⊎_elim, arith}
use Rattle.std.specs.Prelude.{IfSome, slice_get, option_and_then, is_none, if◌then◌else◌}
use Rattle.std.specs.Option.{option_map_or}
use Rattle.dis_records.specs.declared.entity_state.EntityState.{EntityState}
use Rattle.std.proofs.lemmas.Option.{same_Some, slice_get_cases, slice_get_past}
use Rattle.std.proofs.Math.Seq.{take-length}
use Rattle.siman_pdus.specs.declared.pdu.Pdu.{Pdu}
use Rattle.exercise_model.specs.Entry.{Entry, Sent, Received, Told}
use Rattle.exercise_model.specs.Recording.{PlainRecording, IsRecording}
use Rattle.exercise_model.specs.History.{event_of, station_at}
use Rattle.exercise_model.specs.Meaning.{meaning}
use Rattle.exercise_model.specs.Setting.{is_from}
use Rattle.exercise_model.specs.State.{change_by, state_after}
use Rattle.exercise_model.specs.Cause.{send_cause, get_cause, cause_of, tell_rows, first_cause}
use Rattle.exercise_model.specs.Exchange.{is_answer_body}
use Rattle.exercise_model.specs.Place.{log_before, entry_taken_up}
use Rattle.exercise_model.specs.declared.cause.Cause.{Cause}
use Rattle.exercise_model.specs.Account.{pair_of_sent, pair_of_entry, pair_of, changed_by, change_at, sender_of, is_other, others_among, others_of}
use Rattle.exercise_model.proofs.Offered.{others-more}
use Rattle.exercise_findings.specs.declared.found.Found.{Found}
use Rattle.exercise_findings.specs.Number.{entry_number, entry_of}
use Rattle.exercise_findings.proofs.Columns.{number_back}
use Rattle.exercise_findings.proofs.Keyed.{taken_earlier}
use Rattle.exercise_findings.proofs.Sources.{unmeant, sent_from}
use Rattle.exercise_model.specs.Change.{able, unable, responds, key_of}
use Rattle.exercise_findings.specs.declared.key.Key.{Key}
use Rattle.exercise_findings.specs.Hashed.{key_base}
use Rattle.exercise_findings.specs.Firsts.{acknowledged_key, answer_base, sent_key, received_key, event_key, key_at}
use Rattle.exercise_findings.specs.Behind.{change_key, event_change_key, change_key_at}
use Rattle.exercise_findings.specs.Requests.{IsSendOf}
use Rattle.exercise_findings.specs.Answered.{is_unasked, unasked_by, unasked_at}
use Rattle.exercise_findings.specs.Source.{source_by, source_at}
use Rattle.exercise_findings.specs.FirstSends.{IsNewSend}
use Rattle.exercise_findings.specs.Tables.{event_own_cause, own_cause, other_at, IsFound}

pub cause_here : (r : PlainRecording) (n : ℕ) (e : Entry) → slice_get r.entries n ≡ Some e → own_cause r n ≡ event_own_cause r n (event_of e)
unfolding own_cause
cause_here r n e at = ap (option_and_then (λ e. event_own_cause r n (event_of e))) at

pub pair_here : (r : PlainRecording) (n : ℕ) (e : Entry) → slice_get r.entries n ≡ Some e → pair_of r n ≡ pair_of_entry r n e
unfolding pair_of
pair_here r n e at = ap (option_and_then (pair_of_entry r n)) at

pub unasked_here : (r : PlainRecording) (n : ℕ) (e : Entry) → slice_get r.entries n ≡ Some e → unasked_at r n ≡ unasked_by r n (event_of e)
unfolding unasked_at
unasked_here r n e at = ap (λ o. option_map_or (λ e. unasked_by r n (event_of e)) o false) at

pub change_here : (r : PlainRecording) (n : ℕ) (e : Entry) → slice_get r.entries n ≡ Some e → change_at r n ≡ changed_by r n (event_of e)
unfolding change_at
change_here r n e at = ap (option_and_then (λ e. changed_by r n (event_of e))) at

key_here : (r : PlainRecording) (n : ℕ) (e : Entry) → slice_get r.entries n ≡ Some e → key_at r n ≡ event_key r (event_of e)
unfolding key_at
key_here r n e at = ap (option_and_then (λ e. event_key r (event_of e))) at

pub behind_here : (r : PlainRecording) (n : ℕ) (e : Entry) → slice_get r.entries n ≡ Some e → change_key_at r n ≡ event_change_key r (event_of e)
unfolding change_key_at
behind_here r n e at = ap (option_and_then (λ e. event_change_key r (event_of e))) at

source_here : (r : PlainRecording) (n : ℕ) (e : Entry) → slice_get r.entries n ≡ Some e → source_at r n ≡ source_by r n e
unfolding source_at
source_here r n e at = ap (λ o. option_map_or (source_by r n) o false) at

other_here : (r : PlainRecording) (n : ℕ) (e : Entry) → slice_get r.entries n ≡ Some e → other_at r n ≡ is_other r.setting.exercise e
unfolding other_at
other_here r n e at = ap (λ o. option_map_or (is_other r.setting.exercise) o false) at

pub below : (o : Option ℕ) (m n : ℕ) → m < n → IfSome o (λ e. e < m) → IfSome o (λ e. e < n)
below None m n l e = tt
below (Some x) m n l e = omega (arith, l, e)

-- the request that an answer takes up was received earlier
pub pair_earlier : (r : PlainRecording) (n : ℕ) → IfSome (pair_of r n) (λ e. e < n)
unfolding pair_of
pair_earlier r n =
    elim (slice_get r.entries n) as (λ o. IfSome (option_and_then (pair_of_entry r n) o) (λ e. e < n)) [
      | None ↦ tt
      | Some e ↦ elim e as (λ e. IfSome (pair_of_entry r n e) (λ e. e < n)) [
        | Sent s stamp b ↦ elim (meaning r.setting.exercise b) as (λ o. IfSome (option_and_then (pair_of_sent r s n) o) (λ e. e < n)) [
          | None ↦ tt
          | Some p ↦ elim (is_answer_body p.body) as (λ t. IfSome (if t then entry_taken_up r s p n else None) (λ e. e < n)) [
            | true ↦ taken_earlier r s p n
            | false ↦ tt
          ]
        ]
        | Received s stamp b ↦ tt
        | Told s e y ↦ tt
      ]
    ]

pub pair_number : (r : PlainRecording) (n : ℕ) → n < 4294967295 → entry_of (entry_number (pair_of r n)) ≡ pair_of r n
pair_number r n few = number_back (pair_of r n) (below (pair_of r n) n 4294967295 few (pair_earlier r n))

-- ---- what is found of an entry is what its event says

found : (r : PlainRecording) (n : ℕ) (e : Entry) (f : Found) → slice_get r.entries n ≡ Some e → f.cause ≡ event_own_cause r n (event_of e)
    → f.pair ≡ pair_of_entry r n e → f.is_unasked ≡ unasked_by r n (event_of e) → f.change ≡ changed_by r n (event_of e) → f.key ≡ event_key r (event_of e)
    → ((k : Key) → Some k ≡ f.key → f.base ≡ key_base k) → f.behind ≡ event_change_key r (event_of e) → f.is_source ≡ source_by r n e → (f.is_new ≡ true → IsNewSend r n) → f.other ≡ is_other r.setting.exercise e → IsFound r n f
found r n e f at cause pair unasked change key based behind source fresh other = record {
  cause = cause ∙ sym (cause_here r n e at);
  pair = pair ∙ sym (pair_here r n e at);
  unasked = unasked ∙ sym (unasked_here r n e at);
  change = change ∙ sym (change_here r n e at);
  key = key ∙ sym (key_here r n e at);
  based = λ k is. based k (is ∙ sym (key ∙ sym (key_here r n e at)));
  behind = behind ∙ sym (behind_here r n e at);
  source = source ∙ sym (source_here r n e at);
  fresh = fresh;
  other = other ∙ sym (other_here r n e at);
}

-- an entry that this cause speaks against, or none, and of which nothing else is found
abbrev pub plain : Option Cause → Found
plain x = record { cause = x; pair = None; is_unasked = false; change = None; key = None; base = 0; behind = None; is_source = false; is_new = false; other = false }

-- an "other" datagram
abbrev pub other_found : Found
other_found = record { cause = None; pair = None; is_unasked = false; change = None; key = None; base = 0; behind = None; is_source = false; is_new = false; other = true }

-- the base of the keys of an answer is that of the key that it has
sent_based : (s : ℕ) (p : Pdu) (k : Key) → Some k ≡ sent_key s p → answer_base s p ≡ key_base k
sent_based s p k =
    elim (key_of p) as (λ o. Some k ≡ option_and_then (λ l. cond (responds able p) (Some (acknowledged_key s able l))
    (cond (responds unable p) (Some (acknowledged_key s unable l)) None)) o → option_map_or (λ l. key_base (acknowledged_key s able l)) o 0 ≡ key_base k) [
      | None ↦ λ is. absurd (cc is)
      | Some l ↦ elim (responds able p) as (λ b. Some k ≡ cond b (Some (acknowledged_key s able l))
          (cond (responds unable p) (Some (acknowledged_key s unable l)) None) → key_base (acknowledged_key s able l) ≡ key_base k) [
            | true ↦ λ is. ap key_base (sym (same_Some {A = Key} k (acknowledged_key s able l) is))
            | false ↦ elim (responds unable p) as (λ b. Some k ≡ cond b (Some (acknowledged_key s unable l)) None → key_base (acknowledged_key s able l) ≡ key_base k) [
              | true ↦ λ is. ap key_base (sym (same_Some {A = Key} k (acknowledged_key s unable l) is))
              | false ↦ λ is. absurd (cc is)
            ]
          ]
    ]

-- a PDU that was sent
pub sent_found : (r : PlainRecording) (n s : ℕ) (p : Pdu) (f : Found) → IsRecording r → s < length r.setting.stations → IsSendOf r n s p
    → f.cause ≡ send_cause r.setting.exercise (station_at r s) (log_before r s n) p
    → f.pair ≡ pair_of_sent r s n p → f.is_unasked ≡ is_unasked r s n p → f.change ≡ change_by r.setting.exercise (station_at r s) (log_before r s n) p → f.key ≡ sent_key s p → f.base ≡ answer_base s p
    → f.behind ≡ None → f.is_source ≡ is_from (station_at r s).address p → (f.is_new ≡ true → IsNewSend r n) → f.other ≡ false → IsFound r n f
sent_found r n s p f limits here send cause pair unasked change key base behind source fresh other =
    found r n (Sent s send.stamp send.bytes) f send.at
    (cause ∙ sym (ap (option_and_then (send_cause r.setting.exercise (station_at r s) (log_before r s n))) send.means))
    (pair ∙ sym (ap (option_and_then (pair_of_sent r s n)) send.means))
    (unasked ∙ sym (ap (λ o. option_map_or (is_unasked r s n) o false) send.means))
    (change ∙ sym (ap (option_and_then (change_by r.setting.exercise (station_at r s) (log_before r s n))) send.means))
    (key ∙ sym (ap (option_and_then (sent_key s)) send.means))
    (λ k is. base ∙ sent_based s p k (is ∙ key))
    behind
    (source ∙ sym (sent_from r n s send.stamp send.bytes p limits here send.at send.means))
    fresh
    (other ∙ sym (ap is_none send.means))

-- an "other" datagram that was sent
pub other_sent : (r : PlainRecording) (n s stamp : ℕ) (b : List ℕ) → slice_get r.entries n ≡ Some (Sent s stamp b)
    → meaning r.setting.exercise b ≡ None → IsFound r n other_found
other_sent r n s stamp b at other =
    found r n (Sent s stamp b) other_found at
    (sym (ap (option_and_then (send_cause r.setting.exercise (station_at r s) (log_before r s n))) other))
    (sym (ap (option_and_then (pair_of_sent r s n)) other))
    (sym (ap (λ o. option_map_or (is_unasked r s n) o false) other))
    (sym (ap (option_and_then (change_by r.setting.exercise (station_at r s) (log_before r s n))) other))
    (sym (ap (option_and_then (sent_key s)) other))
    (λ k is. absurd (cc is))
    refl
    (sym (unmeant r b n other))
    (λ e. absurd (cc e))
    (sym (ap is_none other))

get_here : (r : PlainRecording) (s : ℕ) (b : List ℕ) → cause_of r.setting [] (event_of (Received s 0 b)) ≡
    option_and_then (get_cause r.setting [] b) (meaning r.setting.exercise b)
unfolding cause_of
get_here r s b = refl

-- a PDU that was received
pub received_found : (r : PlainRecording) (n s stamp : ℕ) (b : List ℕ) (p : Pdu) (f : Found) → slice_get r.entries n ≡ Some (Received s stamp b)
    → meaning r.setting.exercise b ≡ Some p → f.cause ≡ get_cause r.setting [] b p → f.pair ≡ None → f.is_unasked ≡ false → f.change ≡ None
    → f.key ≡ received_key s (station_at r s).address p → ((k : Key) → Some k ≡ f.key → f.base ≡ key_base k) → f.behind ≡ change_key (sender_of r p) p → f.is_source ≡ false → f.is_new ≡ false → f.other ≡ false
    → IsFound r n f
received_found r n s stamp b p f at means cause pair unasked change key based behind source new other =
    found r n (Received s stamp b) f at
    (cause ∙ sym (get_here r s b ∙ ap (option_and_then (get_cause r.setting [] b)) means))
    pair unasked change
    (key ∙ sym (ap (option_and_then (received_key s (station_at r s).address)) means))
    based
    (behind ∙ sym (ap (option_and_then (λ p. change_key (sender_of r p) p)) means))
    source
    (λ e. absurd (cc (sym new ∙ e)))
    (other ∙ sym (ap is_none means))

-- an "other" datagram that was received
pub other_received : (r : PlainRecording) (n s stamp : ℕ) (b : List ℕ) → slice_get r.entries n ≡ Some (Received s stamp b)
    → meaning r.setting.exercise b ≡ None → IsFound r n other_found
other_received r n s stamp b at other =
    found r n (Received s stamp b) other_found at
    (sym (get_here r s b ∙ ap (option_and_then (get_cause r.setting [] b)) other))
    refl refl refl
    (sym (ap (option_and_then (received_key s (station_at r s).address)) other))
    (λ k is. absurd (cc is))
    (sym (ap (option_and_then (λ p. change_key (sender_of r p) p)) other))
    refl
    (λ e. absurd (cc e))
    (sym (ap is_none other))

-- a state that was told
pub told_found : (r : PlainRecording) (n s e : ℕ) (y : EntityState) (x : Option Cause) → slice_get r.entries n ≡ Some (Told s e y)
    → x ≡ first_cause (tell_rows y (state_after r.setting.exercise (station_at r s) (log_before r s n) e)) → IsFound r n (plain x)
told_found r n s e y x at cause = found r n (Told s e y) (plain x) at cause refl refl refl refl (λ k is. absurd (cc is)) refl refl (λ e. absurd (cc e)) refl

-- ---- how many are "other"

pub at_most_one : (b : Bool) → cond {A = ℕ} b 1 0 ≤ 1
at_most_one true = omega arith
at_most_one false = omega arith

pub others_next : (r : PlainRecording) (n : ℕ) → n < length r.entries
    → others_among r.setting.exercise (take (n + 1) r.entries) ≡ others_among r.setting.exercise (take n r.entries) + cond {A = ℕ} (other_at r n) 1 0
others_next r n within = ⊎_elim
    (λ here. others-more r.setting.exercise r.entries n here.0 here.2
    ∙ ap (λ b. others_among r.setting.exercise (take n r.entries) + cond {A = ℕ} b 1 0) (sym (other_here r n here.0 here.2)))
    (λ past. absurd (omega (arith, within, past.0)))
    (slice_get_cases r.entries n).1

pub others_whole : (r : PlainRecording) → others_among r.setting.exercise (take (length r.entries) r.entries) ≡ others_of r
unfolding others_of
others_whole r = ap (others_among r.setting.exercise) (take-length r.entries)

-- none takes up a request past the last entry
pub pair_past : (r : PlainRecording) (k : ℕ) → length r.entries ≤ k → pair_of r k ≡ None
unfolding pair_of
pair_past r k past = ap (option_and_then (pair_of_entry r k)) (slice_get_past r.entries k past)

-- nothing speaks against what is past the last entry
pub cause_past : (r : PlainRecording) (k : ℕ) → length r.entries ≤ k → own_cause r k ≡ None
unfolding own_cause
cause_past r k past = ap (option_and_then (λ e. event_own_cause r k (event_of e))) (slice_get_past r.entries k past)

-- and it changes nothing
pub change_past : (r : PlainRecording) (k : ℕ) → length r.entries ≤ k → change_at r k ≡ None
unfolding change_at
change_past r k past = ap (option_and_then (λ e. changed_by r k (event_of e))) (slice_get_past r.entries k past)
