-- Who asks for an answer is the station that the answer goes to.
use Rattle.std.proofs.Common.{◌≡◌, inl, inr, ℕ, List, length, cond, Bool, Option, Some, None, true, false, refl, sym, ap, ◌∙◌, arith}
use Rattle.std.specs.Prelude.{slice_get, nat_eq, option_and_then, ◌&&◌, if◌then◌else◌}
use Rattle.std.specs.Option.{option_map_or}
use Rattle.std.proofs.lemmas.Bool.{eq-eqb, eqb-true, cases_Bool}
use Rattle.std.proofs.lemmas.Option.{same_Some}
use Rattle.siman_pdus.specs.declared.pdu.Pdu.{Pdu}
use Rattle.siman_pdus.specs.Role.{is_request_body, request_id_of}
use Rattle.siman_pdus.specs.Answers.{same_id, same_pair}
use Rattle.exercise_model.specs.Entry.{Entry, Sent, Received, Told}
use Rattle.exercise_model.specs.Recording.{PlainRecording, IsRecording}
use Rattle.exercise_model.specs.Setting.{is_from}
use Rattle.exercise_model.specs.History.{Event, event_of, station_of, station_at}
use Rattle.exercise_model.specs.Meaning.{meaning}
use Rattle.exercise_model.specs.Place.{event_at, own_event, first_below}
use Rattle.exercise_model.proofs.Offered.{entry_station, sender_found}
use Rattle.exercise_findings.proofs.Offered.{no_first}
use Rattle.exercise_conflict.specs.Clash.{is_asking, asks_by, asks_at, asker_of}
use Rattle.exercise_conflict.proofs.Contradicting.{both}

-- an entry that asks for an answer is one of the station that the answer goes to
record IsAskers (r : PlainRecording) (p : Pdu) (i : ℕ) : Type 0 where
  pub station : ℕ
  pub asker : asker_of r p ≡ Some station
  pub event : Event
  pub own : own_event r station i ≡ Some event

own_here : (r : PlainRecording) (i : ℕ) (e : Entry) → slice_get r.entries i ≡ Some e → own_event r (station_of (event_of e)) i ≡ Some (event_of e)
unfolding own_event
own_here r i e at =
    ap (option_and_then (λ x. event_at (station_of (event_of e)) (event_of x))) at
    ∙ ap (λ b. cond b (Some (event_of e)) None) (eq-eqb (station_of (event_of e)) (station_of (event_of e)) refl)

asks_there : (r : PlainRecording) → IsRecording r → (p : Pdu) (i : ℕ) → asks_at r p i ≡ true → IsAskers r p i
unfolding asks_at
asks_there r limits p i asks =
    elim (slice_get r.entries i) as (λ o. slice_get r.entries i ≡ o → option_map_or (asks_by r p) o false ≡ true → IsAskers r p i) [
      | None ↦ λ _ e. absurd (cc)
      | Some e ↦ λ at asks. of_entry e at asks
    ] refl asks
  where
    of_pdu : (t stamp : ℕ) (b : List ℕ) → slice_get r.entries i ≡ Some (Sent t stamp b) → (q : Pdu)
        → (is_from (station_at r t).address q && is_asking p q) ≡ true → IsAskers r p i
    of_pdu t stamp b at q asks =
        let parts = both (is_from (station_at r t).address q) (is_asking p q) asks in
        let asking = both (is_request_body q.body) (same_id (request_id_of p.body) (request_id_of q.body) && same_pair q.origin p.target) parts.1 in
        let pair = both (same_id (request_id_of p.body) (request_id_of q.body)) (same_pair q.origin p.target) asking.1 in
        record {
          station = t;
          asker = sender_found r limits (record p { origin = p.target }) t (entry_station (length r.setting.stations) r.entries i (Sent t stamp b) limits.each_entry at)
              (turned (station_at r t).address.site (station_at r t).address.application q.origin.site q.origin.application p.target.site p.target.application parts.0 pair.1);
          event = event_of (Sent t stamp b);
          own = own_here r i (Sent t stamp b) at;
        }
      where
        turned : (a c x y v w : ℕ) → (nat_eq x a && nat_eq y c) ≡ true → (nat_eq x v && nat_eq y w) ≡ true → (nat_eq v a && nat_eq w c) ≡ true
        turned a c x y v w one other =
            let here = both (nat_eq x a) (nat_eq y c) one in
            let there = both (nat_eq x v) (nat_eq y w) other in
            let site : v ≡ a = sym (eqb-true x v there.0) ∙ eqb-true x a here.0 in
            let application : w ≡ c = sym (eqb-true y w there.1) ∙ eqb-true y c here.1 in
            ap (λ b. b && nat_eq w c) (eq-eqb v a site) ∙ eq-eqb w c application

    of_meaning : (t stamp : ℕ) (b : List ℕ) → slice_get r.entries i ≡ Some (Sent t stamp b) → (o : Option Pdu)
        → option_map_or (λ q. is_from (station_at r t).address q && is_asking p q) o false ≡ true → IsAskers r p i
    of_meaning t stamp b at None asks = absurd (cc)
    of_meaning t stamp b at (Some q) asks = of_pdu t stamp b at q asks

    of_entry : (e : Entry) → slice_get r.entries i ≡ Some e → asks_by r p e ≡ true → IsAskers r p i
    of_entry (Sent t stamp b) at asks = of_meaning t stamp b at (meaning r.setting.exercise b) asks
    of_entry (Received t stamp b) at asks = absurd (cc)
    of_entry (Told t e y) at asks = absurd (cc)

-- where the answer goes to no recorded station nobody asks for it
pub nobody_asks : (r : PlainRecording) (p : Pdu) → IsRecording r → asker_of r p ≡ None → first_below (asks_at r p) (length r.entries) ≡ None
nobody_asks r p limits none =
    no_first (asks_at r p) (λ i. elim (cases_Bool (asks_at r p i)) [
      | inl asks ↦ let there = asks_there r limits p i asks in absurd (cc (sym none ∙ there.asker))
      | inr off ↦ off
    ]) (length r.entries)

-- and else none of another station does
pub asker_asks : (r : PlainRecording) (p : Pdu) (s i : ℕ) → IsRecording r → asker_of r p ≡ Some s → own_event r s i ≡ None → asks_at r p i ≡ false
asker_asks r p s i limits asker none =
    elim (cases_Bool (asks_at r p i)) [
      | inl asks ↦
          let there = asks_there r limits p i asks in
          let same : there.station ≡ s = same_Some there.station s (sym there.asker ∙ asker) in
          absurd (cc (sym there.own ∙ ap (λ t. own_event r t i) same ∙ none))
      | inr off ↦ off
    ]
