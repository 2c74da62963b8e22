-- What is missing by an entry, and that each run of a wider recording has it.
use Rattle.std.proofs.Common.{◌≡◌, ⊎_elim, ℕ, zero, suc, ◌<◌, ◌≤◌, List, [], ◌∷◌, ◌++◌, length, cond, Bool, Option, Some, None, true, false, refl, sym, ap, ◌∙◌, subst, arith, append_assoc}
use Rattle.std.specs.List.{list_any}
use Rattle.std.specs.Prelude.{slice_get, slice_index_or, is_none, is_some, ◌||◌, option_map, option_and_then, if◌then◌else◌}
use Rattle.std.specs.Option.{option_map_or, option_or}
use Rattle.std.proofs.lemmas.List.Folds.{list_any_at}
use Rattle.std.proofs.lemmas.Bool.{cases_lt, eq-eqb}
use Rattle.std.proofs.lemmas.Option.{same_Some}
use Rattle.siman_pdus.specs.declared.pdu.Pdu.{Pdu}
use Rattle.exercise_model.specs.Entry.{Entry, Sent, Received, Told}
use Rattle.exercise_model.specs.Recording.{PlainRecording, IsRecording}
use Rattle.exercise_model.specs.History.{Event, Send, History, event_of, station_of, log_at, station_at}
use Rattle.exercise_model.specs.Station.{StationData}
use Rattle.exercise_model.specs.Setting.{SettingData, nowhere, is_from, is_recorded, station_in}
use Rattle.exercise_model.specs.Meaning.{meaning}
use Rattle.exercise_model.specs.Cause.{sends}
use Rattle.exercise_model.specs.Place.{first_below}
use Rattle.exercise_model.specs.Run.{Explains, Contains}
use Rattle.exercise_model.specs.Headline.{WasSent}
use Rattle.exercise_model.specs.Account.{sender_of}
use Rattle.exercise_model.proofs.Offered.{explained_holds, log_at-append, log_before-all, sender_found, first_found}
use Rattle.exercise_findings.specs.Source.{sends_here, first_send, source_of_pdu, source_of}
use Rattle.exercise_findings.proofs.Offered.{bytes_same, source_here}
use Rattle.exercise_findings.specs.declared.missing.Missing.{Missing}
use Rattle.exercise_findings.specs.Missing.{is_first_receipt, place_of, missing_from, missing_pdu, missing_entry, missing_at}
use Rattle.exercise_conflict.specs.Wider.{anything, IsWider}
use Rattle.exercise_conflict.specs.Needed.{HasSend, IsNeeded}
use Rattle.exercise_conflict.proofs.Places.{later_place, own_here, in_log}

-- what the log of a sender lacks: the datagram that entry i receives
pub record IsLacking (r : PlainRecording) (i : ℕ) (m : Missing) : Type 0 where
  pub station : ℕ
  pub stamp : ℕ
  pub bytes : List ℕ
  pub pdu : Pdu
  pub got : slice_get r.entries i ≡ Some (Received station stamp bytes)
  pub meant : meaning r.setting.exercise bytes ≡ Some pdu
  pub sender : sender_of r pdu ≡ Some m.sender
  pub unsent : source_of r i ≡ None
  pub first : is_first_receipt r i bytes ≡ true
  pub place : m.after ≡ place_of r m.sender pdu

pub lacking : (r : PlainRecording) (i : ℕ) (m : Missing) → missing_at r i ≡ Some m → IsLacking r i m
unfolding missing_at
lacking r i m is =
    elim (source_of r i) as (λ o. source_of r i ≡ o → (if is_none o then option_and_then (missing_entry r i) (slice_get r.entries i) else None) ≡ Some m → IsLacking r i m) [
      | Some k ↦ λ _ e. absurd (cc)
      | None ↦ λ unsent. elim (slice_get r.entries i) as (λ o. slice_get r.entries i ≡ o → option_and_then (missing_entry r i) o ≡ Some m → IsLacking r i m) [
        | None ↦ λ _ e. absurd (cc)
        | Some e ↦ λ at. of_entry unsent e at
      ] refl
    ] refl is
  where
    of_sender : source_of r i ≡ None → (s stamp : ℕ) (b : List ℕ) → is_first_receipt r i b ≡ true → slice_get r.entries i ≡ Some (Received s stamp b) → (p : Pdu)
        → meaning r.setting.exercise b ≡ Some p → (o : Option ℕ) → sender_of r p ≡ o → option_map (missing_from r p) o ≡ Some m → IsLacking r i m
    of_sender unsent s stamp b first at p meant None sender e = absurd (cc)
    of_sender unsent s stamp b first at p meant (Some t) sender e = record {
      station = s;
      stamp = stamp;
      bytes = b;
      pdu = p;
      got = at;
      meant = meant;
      sender = sender ∙ ap (λ (x : Missing). Some x.sender) (same_Some (missing_from r p t) m e);
      unsent = unsent;
      first = first;
      place =
          let same = same_Some (missing_from r p t) m e in
          sym (ap (λ (x : Missing). x.after) same) ∙ ap (λ k. place_of r k p) (ap (λ (x : Missing). x.sender) same);
    }

    of_pdu : source_of r i ≡ None → (s stamp : ℕ) (b : List ℕ) → is_first_receipt r i b ≡ true → slice_get r.entries i ≡ Some (Received s stamp b) → (o : Option Pdu)
        → meaning r.setting.exercise b ≡ o → option_and_then (missing_pdu r) o ≡ Some m → IsLacking r i m
    of_pdu unsent s stamp b first at None meant e = absurd (cc)
    of_pdu unsent s stamp b first at (Some p) meant e = of_sender unsent s stamp b first at p meant (sender_of r p) refl e

    of_entry : source_of r i ≡ None → (e : Entry) → slice_get r.entries i ≡ Some e → missing_entry r i e ≡ Some m → IsLacking r i m
    of_entry unsent (Sent s stamp b) at e = absurd (cc)
    of_entry unsent (Told s n y) at e = absurd (cc)
    of_entry unsent (Received s stamp b) at e =
        elim (is_first_receipt r i b) as (λ t. is_first_receipt r i b ≡ t → (if t then option_and_then (missing_pdu r) (meaning r.setting.exercise b) else None) ≡ Some m
        → IsLacking r i m) [
          | false ↦ λ _ e. absurd (cc)
          | true ↦ λ first e. of_pdu unsent s stamp b first at (meaning r.setting.exercise b) refl e
        ] refl e

-- ---- its sender has no such send

pub none_passes : (test : ℕ → Bool) (n i : ℕ) → first_below test n ≡ None → i < n → test i ≡ true → ⊥
unfolding first_below
none_passes test zero i none within passes = absurd (omega (arith, within))
none_passes test (suc n) i none within passes =
    elim (first_below test n) as (λ o. first_below test n ≡ o → option_or o (if test n then Some n else None) ≡ None → ⊥) [
      | Some j ↦ λ _ e. absurd (cc)
      | None ↦ λ before e. ⊎_elim
          (λ (less : i < n). none_passes test n i before less passes)
          (λ (most : n ≤ i).
          let at : i ≡ n = omega (arith, within, most) in
          absurd (cc (sym e ∙ ap (λ (b : Bool). if b then Some n else None) (ap test (sym at) ∙ passes))))
          (cases_lt i n)
    ] refl none

pub unsent_there : (r : PlainRecording) (b : List ℕ) (t : ℕ) → first_send r b t ≡ None → HasSend r t b → ⊥
unfolding first_send
unsent_there r b t none sent =
    let found = in_log r t (length r.entries) sent.0 (Send t b) sent.1.0 (sent.1.1 ∙ sym (log_before-all r t)) in
    none_passes (sends_here r b t) (length r.entries) found.0 none found.1 (ap (λ o. option_map_or (sends b) o false) found.2.own ∙ bytes_same b)

pub lacks_send : (r : PlainRecording) (i : ℕ) (m : Missing) → (lack : IsLacking r i m) → HasSend r m.sender lack.bytes → ⊥
lacks_send r i m lack =
    unsent_there r lack.bytes m.sender
    (sym (ap (option_and_then (first_send r lack.bytes)) lack.sender) ∙ sym (ap (option_and_then (source_of_pdu r lack.bytes)) lack.meant)
    ∙ sym (source_here r i (Received lack.station lack.stamp lack.bytes) lack.got) ∙ lack.unsent)

-- ---- each run of a wider recording has it

pub contains_on : (h before earlier : History) (v w : Event) → Contains h before w → Contains before earlier v → Contains h earlier v
contains_on h before earlier v w one other =
    (one.0 ++ w ∷ other.0, append_assoc one.0 (w ∷ other.0) (v ∷ earlier) ∙ ap (λ xs. one.0 ++ w ∷ xs) other.1 ∙ one.1)

pub own_first : (v : Event) (h : History) → log_at (station_of v) (v ∷ h) ≡ v ∷ log_at (station_of v) h
unfolding log_at
own_first v h = ap (λ b. cond b (v ∷ log_at (station_of v) h) (log_at (station_of v) h)) (eq-eqb (station_of v) (station_of v) refl)

-- an event of a run stands in the log of its station
pub in_own_log : (h before : History) (v : Event) → Contains h before v → Contains (log_at (station_of v) h) (log_at (station_of v) before) v
in_own_log h before v within =
    let s : ℕ = station_of v in (
      log_at s within.0,
      ap (λ k. log_at s within.0 ++ k) (sym (own_first v before)) ∙ sym (log_at-append s within.0 (v ∷ before)) ∙ ap (log_at s) within.1,
    )

-- the sender of a datagram is a matter of the setting
sender_in : SettingData → Pdu → Option ℕ
sender_in w p = first_below (λ t. is_from (station_in w t).address p) (length w.stations)

sender_by : (r : PlainRecording) (p : Pdu) → sender_of r p ≡ sender_in r.setting p
unfolding sender_of sender_in
sender_by r p = refl

sender_same : (r wide : PlainRecording) (p : Pdu) → wide.setting ≡ r.setting → sender_of wide p ≡ sender_of r p
sender_same r wide p same = sender_by wide p ∙ ap (λ w. sender_in w p) same ∙ sym (sender_by r p)

pub recorded_where_found : (r : PlainRecording) (p : Pdu) (t : ℕ) → sender_of r p ≡ Some t → is_recorded r.setting p ≡ true
unfolding sender_of is_recorded
recorded_where_found r p t found =
    let first = first_found (λ s. is_from (station_at r s).address p) (length r.setting.stations) t found in
    list_any_at (λ (o : StationData). is_from o.address p) r.setting.stations t nowhere first.below first.passes

-- a station that passes
any_place : (test : StationData → Bool) (ss : List StationData) → list_any test ss ≡ true → (i : ℕ) × (i < length ss) × (test (slice_index_or ss i nowhere) ≡ true)
any_place test [] some = absurd (cc)
any_place test (s ∷ ss) some =
    elim (test s) as (λ b. test s ≡ b → (b || list_any test ss) ≡ true → (i : ℕ) × (i < length (s ∷ ss)) × (test (slice_index_or (s ∷ ss) i nowhere) ≡ true)) [
      | true ↦ λ here _. (0, omega arith, here)
      | false ↦ λ _ there. let rest = any_place test ss there in (suc rest.0, omega (arith, rest.1), rest.2)
    ] refl some

-- a PDU comes from a recorded station exactly where there is a sender
pub recorded_sender : (r : PlainRecording) (p : Pdu) → is_some (sender_of r p) ≡ is_recorded r.setting p
unfolding sender_of is_recorded
recorded_sender r p =
    let test : ℕ → Bool = λ t. is_from (station_at r t).address p in
    elim (first_below test (length r.setting.stations)) as (λ o. first_below test (length r.setting.stations) ≡ o
    → is_some o ≡ list_any (λ (o : StationData). is_from o.address p) r.setting.stations) [
      | Some t ↦ λ found.
          let first = first_found test (length r.setting.stations) t found in
          sym (list_any_at (λ (o : StationData). is_from o.address p) r.setting.stations t nowhere first.below first.passes)
      | None ↦ λ none. elim (list_any (λ (o : StationData). is_from o.address p) r.setting.stations) as
          (λ b. list_any (λ (o : StationData). is_from o.address p) r.setting.stations ≡ b → false ≡ b) [
            | false ↦ λ _. refl
            | true ↦ λ some.
                let at = any_place (λ (o : StationData). is_from o.address p) r.setting.stations some in
                absurd (none_passes test (length r.setting.stations) at.0 none at.1 at.2)
          ] refl
    ] refl

-- WHAT IS MISSING IS NEEDED
pub needed : (r wide : PlainRecording) (h : History) (i : ℕ) (m : Missing) → IsRecording wide → IsWider r wide → Explains wide h
    → missing_at r i ≡ Some m → IsNeeded r wide i m
needed r wide h i m limits wider explains is =
    let lack = lacking r i m is in
    let e : Entry = Received lack.station lack.stamp lack.bytes in
    let place = later_place r wide anything h i (event_of e) wider.setting wider.logs explains (own_here r i e lack.got) in
    let meant : meaning wide.setting.exercise lack.bytes ≡ Some lack.pdu = ap (λ (w : SettingData). meaning w.exercise lack.bytes) wider.setting ∙ lack.meant in
    let sender : sender_of wide lack.pdu ≡ Some m.sender = sender_same r wide lack.pdu wider.setting ∙ lack.sender in
    let sent : WasSent wide place.before lack.bytes lack.pdu = (explained_holds wide h limits explains).received place.before lack.station lack.bytes lack.pdu
    place.within meant (recorded_where_found wide lack.pdu m.sender sender) in
    let same : sent.station ≡ m.sender = same_Some sent.station m.sender (sym (sender_found wide limits lack.pdu sent.station sent.recorded sent.own) ∙ sender) in
    let there = in_own_log h sent.earlier (Send sent.station lack.bytes)
    (contains_on h place.before sent.earlier (Send sent.station lack.bytes) (event_of e) place.within sent.sent) in
    record {
      station = lack.station;
      stamp = lack.stamp;
      bytes = lack.bytes;
      got = lack.got;
      lacks = lacks_send r i m lack;
      sent = subst (λ t. HasSend wide t lack.bytes) same
          (log_at sent.station sent.earlier, subst (λ l. Contains l (log_at sent.station sent.earlier) (Send sent.station lack.bytes)) (explains.logs sent.station) there);
    }
