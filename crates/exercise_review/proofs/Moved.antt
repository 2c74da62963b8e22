-- What a station receives has the key of what sends the same bytes, told at its own station.
use Rattle.std.proofs.Common.{◌≡◌, ℕ, ◌+◌, ◌-◌, ◌%◌, ◌^◌, ◌<◌, List, length, cond, true, false, Option, Some, None, refl, sym, ap, ◌∙◌, arith}
use Rattle.std.specs.Prelude.{nat_eq, slice_get, is_some, bytes_eq, option_and_then, if◌then◌else◌}
use Rattle.std.specs.Option.{option_map_or}
use Rattle.std.specs.Cmp.Lexicographic.{bytes_decides}
use Rattle.std.proofs.lemmas.Bool.{eqb-true, eq-eqb}
use Rattle.std.proofs.lemmas.Option.{same_Some}
use Rattle.siman_pdus.specs.declared.pdu.Pdu.{Pdu}
use Rattle.siman_pdus.specs.Role.{is_request_body}
use Rattle.exercise_model.specs.Account.{pair_of, sender_of}
use Rattle.exercise_model.specs.Cause.{sends}
use Rattle.exercise_model.specs.Entry.{Entry, Sent, Received, Told}
use Rattle.exercise_model.specs.History.{event_of, station_of}
use Rattle.exercise_model.specs.Meaning.{meaning}
use Rattle.exercise_model.specs.Place.{event_at, own_event}
use Rattle.exercise_model.specs.Recording.{PlainRecording}
use Rattle.exercise_model.specs.Setting.{is_open}
use Rattle.exercise_model.proofs.Offered.{first_found}
use Rattle.exercise_findings.specs.Source.{sends_here, first_send, source_of_pdu, source_of}
use Rattle.exercise_findings.proofs.Offered.{sends_there, source_here}
use Rattle.exercise_review.specs.Digest.{digest_of}
use Rattle.exercise_review.specs.Entries.{bytes_received_by, bytes_sent_by, bytes_sent, bytes_received, pdu_received}
use Rattle.exercise_review.specs.Register.{order_key, sent_key, receipt_key, entry_key, key_at}
use Rattle.exercise_review.proofs.KnownKeys.{known_key}
use Rattle.exercise_review.proofs.Paired.{paired, alone_kept}

-- ---- digests

-- so far back for one station
pub digest_back : (x d key : ℕ) → x < 2 ^ 64 → key ≡ (d + x) % 2 ^ 64 → (key + (2 ^ 64 - x)) % 2 ^ 64 ≡ d % 2 ^ 64
digest_back x d key l is = omega (arith, l, is)

-- and so far on for another
pub digest_moved : (y d e : ℕ) → e ≡ d % 2 ^ 64 → (e + y) % 2 ^ 64 ≡ (d + y) % 2 ^ 64
digest_moved y d e is = omega (arith, is)

-- ---- what an entry is the source of

-- an entry that sends these bytes at a station
abbrev pub IsSend : PlainRecording → List ℕ → ℕ → ℕ → Type 0
IsSend r b t j = (stamp : ℕ) × (slice_get r.entries j ≡ Some (Sent t stamp b))

sends_none : (r : PlainRecording) (b : List ℕ) (t j : ℕ) → slice_get r.entries j ≡ None → sends_here r b t j ≡ false
unfolding own_event
sends_none r b t j at = ap (λ o. option_map_or (sends b) (option_and_then (λ e. event_at t (event_of e)) o) false) at

sends_never : (r : PlainRecording) (b : List ℕ) (t j : ℕ) (e : Entry) → slice_get r.entries j ≡ Some e → sends b (event_of e) ≡ false
    → sends_here r b t j ≡ false
unfolding own_event
sends_never r b t j e at none =
    ap (λ o. option_map_or (sends b) (option_and_then (λ e. event_at t (event_of e)) o) false) at
    ∙ elim (nat_eq (station_of (event_of e)) t) as (λ q. option_map_or (sends b) (cond q (Some (event_of e)) None) false ≡ false)
    [ true ↦ none | false ↦ refl ]

sent_here : (r : PlainRecording) (b : List ℕ) (t j : ℕ) → sends_here r b t j ≡ true → IsSend r b t j
sent_here r b t j sent = by_entry (slice_get r.entries j) refl
  where
    by_entry : (o : Option Entry) → slice_get r.entries j ≡ o → IsSend r b t j
    by_entry None at = absurd (cc (sym (sends_none r b t j at) ∙ sent))
    by_entry (Some (Sent s stamp c)) at =
        elim (nat_eq s t) as (λ q. nat_eq s t ≡ q → cond q (bytes_eq b c) false ≡ true → IsSend r b t j) [
          | false ↦ λ _ none. absurd (cc none)
          | true ↦ λ same eq.
              (stamp, at ∙ ap (λ u. Some (Sent u stamp c)) (eqb-true s t same) ∙ ap (λ (x : List ℕ). Some (Sent t stamp x)) (sym ((bytes_decides b c).0 eq)))
        ] refl (sym (sends_there r j s stamp c b t at) ∙ sent)
    by_entry (Some (Received s stamp c)) at = absurd (cc (sym (sends_never r b t j (Received s stamp c) at refl) ∙ sent))
    by_entry (Some (Told s e y)) at = absurd (cc (sym (sends_never r b t j (Told s e y) at refl) ∙ sent))

-- the source of what is received: what it means, and the station that sends the same bytes there
pub source_sends : (r : PlainRecording) (i j s stamp : ℕ) (b : List ℕ) → slice_get r.entries i ≡ Some (Received s stamp b) → source_of r i ≡ Some j
    → (p : Pdu) × (meaning r.setting.exercise b ≡ Some p) × ((t : ℕ) × IsSend r b t j)
unfolding first_send
source_sends r i j s stamp b at source = by_meaning (meaning r.setting.exercise b) refl (sym (source_here r i (Received s stamp b) at) ∙ source)
  where
    by_sender : (o : Option ℕ) → option_and_then (first_send r b) o ≡ Some j → (t : ℕ) × IsSend r b t j
    by_sender None h = absurd (cc)
    by_sender (Some t) h = (t, sent_here r b t j (first_found (sends_here r b t) (length r.entries) j h).passes)

    by_meaning : (o : Option Pdu) → meaning r.setting.exercise b ≡ o → option_and_then (source_of_pdu r b) o ≡ Some j
        → (p : Pdu) × (meaning r.setting.exercise b ≡ Some p) × ((t : ℕ) × IsSend r b t j)
    by_meaning None means h = absurd (cc)
    by_meaning (Some p) means h = (p, means, by_sender (sender_of r p) h)

-- ---- keys

-- what is received in a recording that is not open has the key of the request that it means
pub key_received : (r : PlainRecording) (i s stamp : ℕ) (b : List ℕ) (p : Pdu) → slice_get r.entries i ≡ Some (Received s stamp b)
    → is_open r.setting.form ≡ false → meaning r.setting.exercise b ≡ Some p → key_at r i ≡ order_key s p
unfolding pdu_received bytes_received
key_received r i s stamp b p at closed means =
    known_key r s i stamp b at closed
    ∙ ap (λ o. option_and_then (order_key s) (option_and_then (meaning r.setting.exercise) (option_and_then (bytes_received_by s) o))) at
    ∙ ap (λ c. option_and_then (order_key s) (option_and_then (meaning r.setting.exercise) (if c then Some b else None))) (eq-eqb s s refl)
    ∙ ap (option_and_then (order_key s)) means

-- and so has what is sent and takes up none
key_sent : (r : PlainRecording) (j t stamp : ℕ) (b : List ℕ) (p : Pdu) → slice_get r.entries j ≡ Some (Sent t stamp b)
    → meaning r.setting.exercise b ≡ Some p → pair_of r j ≡ None → key_at r j ≡ order_key t p
unfolding key_at
key_sent r j t stamp b p at means pair =
    ap (option_and_then (entry_key r j)) at
    ∙ alone_kept r t j (meaning r.setting.exercise b) pair
    ∙ ap (option_and_then (order_key t)) means

sends_bytes : (r : PlainRecording) (j t stamp : ℕ) (b : List ℕ) → slice_get r.entries j ≡ Some (Sent t stamp b) → bytes_sent r t j ≡ Some b
unfolding bytes_sent
sends_bytes r j t stamp b at = ap (option_and_then (bytes_sent_by t)) at ∙ ap (λ c. if c then Some b else None) (eq-eqb t t refl)

-- what asks nothing has none
pub no_order : (s : ℕ) (p : Pdu) → is_request_body p.body ≡ false → order_key s p ≡ None
unfolding order_key
no_order s p asks = ap (λ c. if c then Some (digest_of s p) else None) asks

-- an entry that receives these bytes at a station
pub got_entry : (r : PlainRecording) (s i : ℕ) (b : List ℕ) → bytes_received r s i ≡ Some b → (stamp : ℕ) × (slice_get r.entries i ≡ Some (Received s stamp b))
unfolding bytes_received
got_entry r s i b got = by_entry (slice_get r.entries i) refl got
  where
    by_entry : (o : Option Entry) → slice_get r.entries i ≡ o → option_and_then (bytes_received_by s) o ≡ Some b
        → (stamp : ℕ) × (slice_get r.entries i ≡ Some (Received s stamp b))
    by_entry None at h = absurd (cc)
    by_entry (Some (Sent t stamp c)) at h = absurd (cc)
    by_entry (Some (Received t stamp c)) at h = elim (nat_eq t s) as (λ k. nat_eq t s ≡ k → cond k (Some c) None ≡ Some b
        → (stamp : ℕ) × (slice_get r.entries i ≡ Some (Received s stamp b))) [
          | true ↦ λ same is. (stamp, at ∙ ap (λ u. Some (Received u stamp c)) (eqb-true t s same) ∙ ap (λ (x : List ℕ). Some (Received s stamp x)) (same_Some c b is))
          | false ↦ λ _ is. absurd (cc)
        ] refl h
    by_entry (Some (Told t n y)) at h = absurd (cc)

some_bytes : (o : Option (List ℕ)) → is_some o ≡ true → (b : List ℕ) × (o ≡ Some b)
some_bytes None h = absurd (cc)
some_bytes (Some b) h = (b, refl)

-- the key of what is received, in whatever form
pub key_got : (r : PlainRecording) (s i : ℕ) (b : List ℕ) → bytes_received r s i ≡ Some b
    → key_at r i ≡ option_and_then (receipt_key r.setting.form s) (meaning r.setting.exercise b)
unfolding key_at
key_got r s i b got = ap (option_and_then (entry_key r i)) (got_entry r s i b got).1

-- WHAT IS RECEIVED FROM AN ENTRY THAT TAKES UP A REQUEST has no key
pub answer_brought : (r : PlainRecording) (s i j : ℕ) → is_some (bytes_received r s i) ≡ true → is_open r.setting.form ≡ false → source_of r i ≡ Some j
    → is_some (pair_of r j) ≡ true → None ≡ key_at r i
answer_brought r s i j got closed source pair = by_pair (pair_of r j) refl pair
  where
    by_pair : (o : Option ℕ) → pair_of r j ≡ o → is_some o ≡ true → None ≡ key_at r i
    by_pair None at h = absurd (cc)
    by_pair (Some k) at h =
        let bytes = some_bytes (bytes_received r s i) got in
        let b : List ℕ = bytes.0 in
        let entry = got_entry r s i b bytes.1 in
        let from = source_sends r i j s entry.0 b entry.1 source in
        let send = from.2.1 in
        let answer = paired r from.2.0 j k b (sends_bytes r j from.2.0 send.0 b send.1) at in
        sym (key_received r i s entry.0 b answer.0 entry.1 closed answer.1 ∙ no_order s answer.0 answer.2)

-- WHAT IS RECEIVED FROM ANOTHER has the key of the request that is sent there, if it is one
pub request_brought : (r : PlainRecording) (s i j : ℕ) (e : Entry) → is_some (bytes_received r s i) ≡ true → is_open r.setting.form ≡ false → source_of r i ≡ Some j
    → slice_get r.entries j ≡ Some e → pair_of r j ≡ None
    → (p : Pdu) × (key_at r j ≡ order_key (station_of (event_of e)) p) × (order_key s p ≡ key_at r i)
request_brought r s i j e got closed source at pair =
    let bytes = some_bytes (bytes_received r s i) got in
    let b : List ℕ = bytes.0 in
    let entry = got_entry r s i b bytes.1 in
    let from = source_sends r i j s entry.0 b entry.1 source in
    let t : ℕ = from.2.0 in
    let send = from.2.1 in
    let same : Sent t send.0 b ≡ e = same_Some (Sent t send.0 b) e (sym send.1 ∙ at) in (
      from.0,
      key_sent r j t send.0 b from.0 send.1 from.1 pair ∙ ap (λ v. order_key (station_of (event_of v)) from.0) same,
      sym (key_received r i s entry.0 b from.0 entry.1 closed from.1),
    )

-- the key of a request that was received at a station, in a recording that is not open
pub request_key : (r : PlainRecording) (s j : ℕ) → is_some (pdu_received r s j) ≡ true → is_open r.setting.form ≡ false
    → key_at r j ≡ option_and_then (order_key s) (pdu_received r s j)
unfolding pdu_received
request_key r s j got closed = by_bytes (bytes_received r s j) refl got
  where
    by_bytes : (o : Option (List ℕ)) → bytes_received r s j ≡ o → is_some (option_and_then (meaning r.setting.exercise) o) ≡ true
        → key_at r j ≡ option_and_then (order_key s) (option_and_then (meaning r.setting.exercise) (bytes_received r s j))
    by_bytes None is h = absurd (cc)
    by_bytes (Some b) is h = let entry = got_entry r s j b is in known_key r s j entry.0 b entry.1 closed

-- an entry that sends these bytes at a station
pub sent_entry : (r : PlainRecording) (s i : ℕ) (b : List ℕ) → bytes_sent r s i ≡ Some b → (stamp : ℕ) × (slice_get r.entries i ≡ Some (Sent s stamp b))
unfolding bytes_sent
sent_entry r s i b sent = by_entry (slice_get r.entries i) refl sent
  where
    by_entry : (o : Option Entry) → slice_get r.entries i ≡ o → option_and_then (bytes_sent_by s) o ≡ Some b
        → (stamp : ℕ) × (slice_get r.entries i ≡ Some (Sent s stamp b))
    by_entry None at h = absurd (cc)
    by_entry (Some (Sent t stamp c)) at h = elim (nat_eq t s) as (λ k. nat_eq t s ≡ k → cond k (Some c) None ≡ Some b
        → (stamp : ℕ) × (slice_get r.entries i ≡ Some (Sent s stamp b))) [
          | true ↦ λ same is. (stamp, at ∙ ap (λ u. Some (Sent u stamp c)) (eqb-true t s same) ∙ ap (λ (x : List ℕ). Some (Sent s stamp x)) (same_Some c b is))
          | false ↦ λ _ is. absurd (cc)
        ] refl h
    by_entry (Some (Received t stamp c)) at h = absurd (cc)
    by_entry (Some (Told t n y)) at h = absurd (cc)

-- the key of what is sent
pub key_of_sent : (r : PlainRecording) (s i : ℕ) (b : List ℕ) → bytes_sent r s i ≡ Some b
    → key_at r i ≡ option_and_then (sent_key r s i) (meaning r.setting.exercise b)
unfolding key_at
key_of_sent r s i b sent = ap (option_and_then (entry_key r i)) (sent_entry r s i b sent).1
