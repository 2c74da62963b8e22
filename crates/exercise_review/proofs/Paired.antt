-- What takes up a request is an answer, and so no order.
use Rattle.std.proofs.Common.{◌≡◌, ℕ, List, length, cond, true, false, Option, Some, None, refl, sym, ap, ◌∙◌}
use Rattle.std.specs.Prelude.{nat_eq, slice_get, is_some, option_and_then, if◌then◌else◌}
use Rattle.std.proofs.lemmas.Bool.{and_parts, eqb-true, eq-eqb}
use Rattle.std.proofs.lemmas.Option.{same_Some}
use Rattle.siman_pdus.specs.declared.pdu.Body.{Body}
use Rattle.siman_pdus.specs.declared.pdu.Pdu.{Pdu}
use Rattle.siman_pdus.specs.declared.roles.Role.{Role}
use Rattle.siman_pdus.specs.declared.roles.Role.TheVariants as roles
use Rattle.siman_pdus.specs.Answers.{same_id}
use Rattle.siman_pdus.specs.Role.{role_of, is_request_role, is_request_body}
use Rattle.exercise_model.specs.Account.{pair_of_sent, pair_of_entry, pair_of}
use Rattle.exercise_model.specs.Entry.{Entry, Sent, Received, Told}
use Rattle.exercise_model.specs.Exchange.{is_answer_role, is_answer_body}
use Rattle.exercise_model.specs.Meaning.{meaning}
use Rattle.exercise_model.specs.History.{station_at}
use Rattle.exercise_model.specs.Exchange.{is_asked}
use Rattle.exercise_model.specs.Place.{brings_request, entry_taken_up, first_below}
use Rattle.exercise_model.proofs.Offered.{first_found}
use Rattle.exercise_model.specs.Recording.{PlainRecording}
use Rattle.exercise_review.specs.Digest.{digest_of}
use Rattle.exercise_review.specs.Entries.{bytes_sent_by, bytes_sent, pdu_received}
use Rattle.exercise_review.specs.Order.{sends_order, sent_head, head_of_entry, head_of, order_of_entry, order_at}
use Rattle.exercise_review.specs.Register.{order_key, sent_key, entry_key, key_at}
use Rattle.exercise_review.proofs.Brought.{brings_is}
use Rattle.exercise_review.proofs.Runs.{there}
use Rattle.exercise_review.proofs.Under.{answer_key}

role_answer : (r : Role) → is_answer_role r ≡ true → is_request_role r ≡ false
role_answer roles.Request e = absurd (cc)
role_answer roles.Answer e = refl
role_answer roles.Notice e = absurd (cc)
role_answer roles.Outside e = absurd (cc)

answer_asks_nothing : (body : Body) → is_answer_body body ≡ true → is_request_body body ≡ false
answer_asks_nothing body e = role_answer (role_of body) e

-- the pair of what is sent
pair_sent : (r : PlainRecording) (s i : ℕ) (b : List ℕ) → bytes_sent r s i ≡ Some b
    → pair_of r i ≡ option_and_then (pair_of_sent r s i) (meaning r.setting.exercise b)
unfolding bytes_sent pair_of
pair_sent r s i b =
    elim (slice_get r.entries i) as (λ o. option_and_then (bytes_sent_by s) o ≡ Some b
    → option_and_then (pair_of_entry r i) o ≡ option_and_then (pair_of_sent r s i) (meaning r.setting.exercise b)) [
      | None ↦ λ h. absurd (cc)
      | Some e ↦ of_entry e
    ]
  where
    of_entry : (e : Entry) → bytes_sent_by s e ≡ Some b → pair_of_entry r i e ≡ option_and_then (pair_of_sent r s i) (meaning r.setting.exercise b)
    of_entry (Sent t stamp c) = elim (nat_eq t s) as (λ k. nat_eq t s ≡ k → cond k (Some c) None ≡ Some b
        → option_and_then (pair_of_sent r t i) (meaning r.setting.exercise c) ≡ option_and_then (pair_of_sent r s i) (meaning r.setting.exercise b)) [
          | true ↦ λ same h.
              ap (λ u. option_and_then (pair_of_sent r u i) (meaning r.setting.exercise c)) (eqb-true t s same)
              ∙ ap (λ d. option_and_then (pair_of_sent r s i) (meaning r.setting.exercise d)) (same_Some c b h)
          | false ↦ λ _ h. absurd (cc)
        ] refl
    of_entry (Received t stamp c) = λ h. absurd (cc)
    of_entry (Told t n y) = λ h. absurd (cc)

-- WHAT TAKES UP A REQUEST means a PDU, and that asks nothing
pub paired : (r : PlainRecording) (s i j : ℕ) (b : List ℕ) → bytes_sent r s i ≡ Some b → pair_of r i ≡ Some j
    → (p : Pdu) × (meaning r.setting.exercise b ≡ Some p) × (is_request_body p.body ≡ false)
paired r s i j b sent pair = of_meaning (meaning r.setting.exercise b) refl (sym (pair_sent r s i b sent) ∙ pair)
  where
    of_pdu : (p : Pdu) → pair_of_sent r s i p ≡ Some j → is_request_body p.body ≡ false
    of_pdu p = elim (is_answer_body p.body) as (λ k. is_answer_body p.body ≡ k → (if k then entry_taken_up r s p i else None) ≡ Some j → is_request_body p.body ≡ false) [
      | true ↦ λ answers _. answer_asks_nothing p.body answers
      | false ↦ λ _ h. absurd (cc)
    ] refl

    of_meaning : (m : Option Pdu) → meaning r.setting.exercise b ≡ m → option_and_then (pair_of_sent r s i) m ≡ Some j
        → (p : Pdu) × (meaning r.setting.exercise b ≡ Some p) × (is_request_body p.body ≡ false)
    of_meaning None means h = absurd (cc)
    of_meaning (Some p) means h = (p, means, of_pdu p h)

-- its key is that of the request
pub answer_kept : (r : PlainRecording) (s i j : ℕ) (b : List ℕ) → bytes_sent r s i ≡ Some b → pair_of r i ≡ Some j
    → option_and_then (sent_key r s i) (meaning r.setting.exercise b) ≡ option_and_then (order_key s) (pdu_received r s j)
answer_kept r s i j b sent pair =
    let p = paired r s i j b sent pair in
    ap (option_and_then (sent_key r s i)) p.1 ∙ answer_key r s i p.0 p.2 ∙ ap (λ o. option_and_then (order_key s) (option_and_then (pdu_received r s) o)) pair

-- and of what takes up none it is that of an order, if it is one
pub alone_kept : (r : PlainRecording) (s i : ℕ) (m : Option Pdu) → pair_of r i ≡ None → option_and_then (sent_key r s i) m ≡ option_and_then (order_key s) m
unfolding sent_key order_key
alone_kept r s i None pair = refl
alone_kept r s i (Some p) pair =
    ap (λ o. if is_request_body p.body then order_key s p else option_and_then (order_key s) (option_and_then (pdu_received r s) o)) pair
    ∙ elim (is_request_body p.body) as (λ k. (if k then (if k then Some (digest_of s p) else None) else None) ≡ (if k then Some (digest_of s p) else None)) [ true ↦ refl | false ↦ refl ]

-- nor has it a head
pub no_head : (r : PlainRecording) (s i j : ℕ) (b : List ℕ) → bytes_sent r s i ≡ Some b → pair_of r i ≡ Some j
    → same_id (option_and_then (sent_head r s) (meaning r.setting.exercise b)) (Some i) ≡ false
no_head r s i j b sent pair =
    let p = paired r s i j b sent pair in
    ap (λ m. same_id (option_and_then (sent_head r s) m) (Some i)) p.1
    ∙ ap (λ k. same_id (if k then first_below (sends_order r s p.0) (length r.entries) else None) (Some i)) p.2

-- what is taken up was received at the station, and asks for something
taken_asks : (r : PlainRecording) (s i j : ℕ) (b : List ℕ) → bytes_sent r s i ≡ Some b → pair_of r i ≡ Some j
    → (q : Pdu) × (pdu_received r s j ≡ Some q) × (is_request_body q.body ≡ true)
unfolding entry_taken_up
taken_asks r s i j b sent pair = of_meaning (meaning r.setting.exercise b) (sym (pair_sent r s i b sent) ∙ pair)
  where
    asked : (p : Pdu) → brings_request r s p j ≡ true → (q : Pdu) × (pdu_received r s j ≡ Some q) × (is_request_body q.body ≡ true)
    asked p brings =
        let got = there (is_asked (station_at r s).address p) (pdu_received r s j) (sym (brings_is r s p j) ∙ brings) in
        (got.0, got.1, (and_parts (is_request_body got.0.body) _ got.2).0)

    of_pdu : (p : Pdu) → pair_of_sent r s i p ≡ Some j → (q : Pdu) × (pdu_received r s j ≡ Some q) × (is_request_body q.body ≡ true)
    of_pdu p = elim (is_answer_body p.body) as (λ k. (if k then first_below (brings_request r s p) i else None) ≡ Some j
        → (q : Pdu) × (pdu_received r s j ≡ Some q) × (is_request_body q.body ≡ true)) [
          | true ↦ λ taken. asked p (first_found (brings_request r s p) i j taken).passes
          | false ↦ λ h. absurd (cc)
        ]

    of_meaning : (m : Option Pdu) → option_and_then (pair_of_sent r s i) m ≡ Some j → (q : Pdu) × (pdu_received r s j ≡ Some q) × (is_request_body q.body ≡ true)
    of_meaning None h = absurd (cc)
    of_meaning (Some p) h = of_pdu p h

-- WHAT IS TAKEN UP was received at the station
pub paired_got : (r : PlainRecording) (s i j : ℕ) (b : List ℕ) → bytes_sent r s i ≡ Some b → pair_of r i ≡ Some j → is_some (pdu_received r s j) ≡ true
paired_got r s i j b sent pair = ap is_some (taken_asks r s i j b sent pair).1

-- WHAT TAKES UP A REQUEST has a key
paired_keyed : (r : PlainRecording) (s i j stamp : ℕ) (b : List ℕ) → slice_get r.entries i ≡ Some (Sent s stamp b) → pair_of r i ≡ Some j
    → is_some (key_at r i) ≡ true
unfolding key_at order_key bytes_sent
paired_keyed r s i j stamp b at pair =
    let sent : bytes_sent r s i ≡ Some b = ap (option_and_then (bytes_sent_by s)) at ∙ ap (λ c. if c then Some b else None) (eq-eqb s s refl) in
    let taken = taken_asks r s i j b sent pair in
    ap (λ o. is_some (option_and_then (entry_key r i) o)) at
    ∙ ap is_some (answer_kept r s i j b sent pair)
    ∙ ap (λ o. is_some (option_and_then (order_key s) o)) taken.1
    ∙ ap (λ c. is_some (if c then Some (digest_of s taken.0) else None)) taken.2

-- so what has none takes up none
pub unpaired : (r : PlainRecording) (i : ℕ) → key_at r i ≡ None → is_some (pair_of r i) ≡ false
unfolding pair_of
unpaired r i none = of_entry (slice_get r.entries i) refl
  where
    of_pair : (s stamp : ℕ) (b : List ℕ) (o : Option ℕ) → slice_get r.entries i ≡ Some (Sent s stamp b) → pair_of r i ≡ o → is_some o ≡ false
    of_pair s stamp b None at is = refl
    of_pair s stamp b (Some j) at is = absurd (let no : false ≡ true = ap is_some (sym none) ∙ paired_keyed r s i j stamp b at is in cc)

    of_entry : (o : Option Entry) → slice_get r.entries i ≡ o → is_some (option_and_then (pair_of_entry r i) o) ≡ false
    of_entry None at = refl
    of_entry (Some (Sent s stamp b)) at = of_pair s stamp b (pair_of_entry r i (Sent s stamp b)) at (ap (option_and_then (pair_of_entry r i)) at)
    of_entry (Some (Received s stamp b)) at = refl
    of_entry (Some (Told s e y)) at = refl

-- AN ENTRY THAT TAKES UP A REQUEST is the head of no order
pub paired_no_order : (r : PlainRecording) (i j : ℕ) → pair_of r i ≡ Some j → None ≡ order_at r i
unfolding pair_of head_of order_at bytes_sent
paired_no_order r i j pair = by_entry (slice_get r.entries i) refl pair
  where
    headless : (e : Entry) → slice_get r.entries i ≡ Some e → same_id (head_of_entry r e) (Some i) ≡ false → None ≡ order_at r i
    headless e at none =
        sym (ap (λ o. if same_id (option_and_then (head_of_entry r) o) (Some i) then option_and_then (order_of_entry r i) (slice_get r.entries i) else None) at
        ∙ ap (λ b. if b then option_and_then (order_of_entry r i) (slice_get r.entries i) else None) none)

    sent : (s stamp : ℕ) (b : List ℕ) → slice_get r.entries i ≡ Some (Sent s stamp b) → bytes_sent r s i ≡ Some b
    sent s stamp b at = ap (option_and_then (bytes_sent_by s)) at ∙ ap (λ c. if c then Some b else None) (eq-eqb s s refl)

    by_entry : (o : Option Entry) → slice_get r.entries i ≡ o → option_and_then (pair_of_entry r i) o ≡ Some j → None ≡ order_at r i
    by_entry None at h = absurd (cc)
    by_entry (Some (Sent s stamp b)) at h = headless (Sent s stamp b) at (no_head r s i j b (sent s stamp b at) pair)
    by_entry (Some (Received s stamp b)) at h = absurd (cc)
    by_entry (Some (Told s e y)) at h = absurd (cc)
