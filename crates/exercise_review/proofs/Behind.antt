-- An answer goes to whoever asked, under the identifier of what it takes up.
use Rattle.std.proofs.Common.{◌≡◌, ℕ, List, true, false, Option, Some, None, refl, sym, ap, ◌∙◌}
use Rattle.std.specs.Prelude.{slice_get, ◌==◌, option_map, option_and_then, if◌then◌else◌}
use Rattle.std.proofs.lemmas.Bool.{eqb-true, and_parts}
use Rattle.dis_records.specs.declared.entity.EntityId.{EntityId}
use Rattle.dis_records.specs.Entity.{site_application_of, is_addressed}
use Rattle.siman_pdus.specs.declared.pdu.Pdu.{Pdu}
use Rattle.siman_pdus.specs.Answers.{same_id, same_pair}
use Rattle.siman_pdus.specs.Role.{is_request_body, request_id_of}
use Rattle.exercise_model.specs.Account.{pair_of as pair_at, pair_of_sent, pair_of_entry}
use Rattle.exercise_model.specs.Entry.{Entry, Sent, Received, Told}
use Rattle.exercise_model.specs.Exchange.{is_answer_body, is_asked}
use Rattle.exercise_model.specs.History.{station_at}
use Rattle.exercise_model.specs.Meaning.{meaning}
use Rattle.exercise_model.specs.Place.{brings_request, entry_taken_up, first_below}
use Rattle.exercise_model.specs.Recording.{PlainRecording}
use Rattle.exercise_model.proofs.Offered.{first_found}
use Rattle.exercise_review.specs.Entries.{bytes_of, bytes_received, pdu_received, pdu_at}
use Rattle.exercise_review.specs.Span.{request_behind}
use Rattle.exercise_review.proofs.Brought.{brings_is}
use Rattle.exercise_review.proofs.Heard.{meant_got}
use Rattle.exercise_review.proofs.Runs.{there}
use Rattle.exercise_review.proofs.Under.{ids_are}

same_address : (i j : EntityId) → same_pair i j ≡ true → site_application_of i ≡ site_application_of j
same_address i j same =
    let parts = and_parts (i.site == j.site) (i.application == j.application) same in
    ap (λ x. record { site = x; application = i.application }) (eqb-true i.site j.site parts.0)
    ∙ ap (λ x. record { site = j.site; application = x }) (eqb-true i.application j.application parts.1)

meant_here : (r : PlainRecording) (s j : ℕ) (q : Pdu) → pdu_received r s j ≡ Some q → pdu_at r j ≡ Some q
unfolding pdu_received
meant_here r s j q got = by_bytes (bytes_received r s j) refl got
  where
    by_bytes : (o : Option (List ℕ)) → bytes_received r s j ≡ o → option_and_then (meaning r.setting.exercise) o ≡ Some q → pdu_at r j ≡ Some q
    by_bytes None is h = absurd (cc)
    by_bytes (Some b) is h = meant_got r s j b is ∙ h

-- who asked for what an answer takes up, and under which identifier
pub record IsAskedBy (r : PlainRecording) (i : ℕ) (p : Pdu) : Type 0 where
  pub by : Some (site_application_of p.target) ≡ option_map (λ (q : Pdu). site_application_of q.origin) (request_behind r i)
  pub request : request_id_of p.body ≡ option_and_then (λ (q : Pdu). request_id_of q.body) (request_behind r i)

asked_for : (r : PlainRecording) (s i j : ℕ) (p : Pdu) → pair_at r i ≡ Some j → brings_request r s p j ≡ true → IsAskedBy r i p
unfolding request_behind
asked_for r s i j p pair brings =
    let asked = there (is_asked (station_at r s).address p) (pdu_received r s j) (sym (brings_is r s p j) ∙ brings) in
    let q : Pdu = asked.0 in
    let behind = ap (option_and_then (pdu_at r)) pair ∙ meant_here r s j q asked.1 in
    let parts = and_parts (is_request_body q.body) _ asked.2 in
    let addressed = and_parts (is_addressed q.target (station_at r s).address) _ parts.1 in
    let same = and_parts (same_id (request_id_of p.body) (request_id_of q.body)) (same_pair q.origin p.target) addressed.1 in
    record {
      by = sym (ap (option_map (λ (x : Pdu). site_application_of x.origin)) behind ∙ ap Some (same_address q.origin p.target same.1));
      request = ids_are (request_id_of p.body) (request_id_of q.body) same.0 ∙ sym (ap (option_and_then (λ (x : Pdu). request_id_of x.body)) behind);
    }

-- AN ANSWER THAT TAKES UP A REQUEST tells who asked for it, and under which identifier
pub asked_by : (r : PlainRecording) (i j : ℕ) (p : Pdu) → pair_at r i ≡ Some j → pdu_at r i ≡ Some p → IsAskedBy r i p
unfolding pair_at pdu_at entry_taken_up
asked_by r i j p pair meant = by_entry (slice_get r.entries i) refl pair meant
  where
    of_pdu : (s : ℕ) (x : Pdu) → x ≡ p → pair_of_sent r s i x ≡ Some j → IsAskedBy r i p
    of_pdu s x same = elim (is_answer_body x.body) as (λ k. (if k then first_below (brings_request r s x) i else None) ≡ Some j → IsAskedBy r i p) [
      | true ↦ λ taken. asked_for r s i j p pair (ap (λ y. brings_request r s y j) (sym same) ∙ (first_found (brings_request r s x) i j taken).passes)
      | false ↦ λ h. absurd (cc)
    ]

    of_meaning : (s : ℕ) (m : Option Pdu) → option_and_then (pair_of_sent r s i) m ≡ Some j → m ≡ Some p → IsAskedBy r i p
    of_meaning s None h is = absurd (cc)
    of_meaning s (Some x) h is = of_pdu s x (let same : x ≡ p = cc in same) h

    by_entry : (o : Option Entry) → slice_get r.entries i ≡ o → option_and_then (pair_of_entry r i) o ≡ Some j
        → option_and_then (meaning r.setting.exercise) (option_and_then bytes_of o) ≡ Some p → IsAskedBy r i p
    by_entry None at h m = absurd (cc)
    by_entry (Some (Sent s stamp b)) at h m = of_meaning s (meaning r.setting.exercise b) h m
    by_entry (Some (Received s stamp b)) at h m = absurd (cc)
    by_entry (Some (Told s n y)) at h m = absurd (cc)

-- WHAT TAKES UP NOTHING has no request behind it
pub nothing_behind : (r : PlainRecording) (i : ℕ) → pair_at r i ≡ None → request_behind r i ≡ None
unfolding request_behind
nothing_behind r i none = ap (option_and_then (pdu_at r)) none

-- what takes up a request means something
pub taking_means : {X : Type 0} (r : PlainRecording) (i j : ℕ) → pair_at r i ≡ Some j → pdu_at r i ≡ None → X
unfolding pair_at pdu_at
taking_means {X} r i j pair none = by_entry (slice_get r.entries i) pair none
  where
    of_meaning : (s : ℕ) (m : Option Pdu) → option_and_then (pair_of_sent r s i) m ≡ Some j → m ≡ None → X
    of_meaning s None h is = absurd (cc)
    of_meaning s (Some x) h is = absurd (cc)

    by_entry : (o : Option Entry) → option_and_then (pair_of_entry r i) o ≡ Some j → option_and_then (meaning r.setting.exercise) (option_and_then bytes_of o) ≡ None → X
    by_entry None h m = absurd (cc)
    by_entry (Some (Sent s stamp b)) h m = of_meaning s (meaning r.setting.exercise b) h m
    by_entry (Some (Received s stamp b)) h m = absurd (cc)
    by_entry (Some (Told s n y)) h m = absurd (cc)
