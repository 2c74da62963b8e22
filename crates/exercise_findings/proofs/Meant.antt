-- What is kept under a key or an identifier is no datagram that is "other".
use Rattle.std.proofs.Common.{◌≡◌, ◌<◌, ℕ, length, cond, Option, Some, None, true, false, refl}
use Rattle.std.specs.Prelude.{is_some, slice_get, nat_eq, option_and_then}
use Rattle.std.specs.Option.{option_map_or}
use Rattle.std.proofs.lemmas.Option.{slice_get_within}
use Rattle.siman_pdus.specs.declared.pdu.Pdu.{Pdu}
use Rattle.exercise_model.specs.Recording.{PlainRecording}
use Rattle.exercise_model.specs.History.{Event, Send, Get, Tell, event_of, station_at}
use Rattle.exercise_model.specs.Meaning.{meaning}
use Rattle.exercise_model.specs.Exchange.{request_brought}
use Rattle.exercise_model.specs.Place.{event_at, own_event, brings_request, entry_taken_up}
use Rattle.exercise_findings.specs.declared.key.Key.{Key}
use Rattle.exercise_findings.specs.declared.kept.Kept.{Kept}
use Rattle.exercise_findings.specs.declared.requests.Identifier.{Identifier}
use Rattle.exercise_findings.specs.declared.requests.Requests.{Requests}
use Rattle.exercise_findings.specs.Hashed.{key_hash}
use Rattle.exercise_findings.specs.Slots.{HasSlot}
use Rattle.exercise_findings.specs.Sent.{meant_by, is_meant}
use Rattle.exercise_findings.specs.Firsts.{same_key, sent_key, received_key, event_key, key_at, has_key, AreFirsts}
use Rattle.exercise_findings.specs.Requests.{request_by, request_at, asks_at, first_request, AreRequests}
use Rattle.exercise_findings.proofs.Keeping.{order_stands}
use Rattle.exercise_findings.proofs.Keyed.{passes}

some_first : {A B : Type 0} (f : A → Option B) (o : Option A) → is_some (option_and_then f o) ≡ true → is_some o ≡ true
some_first f (Some x) e = refl
some_first f None e = absurd cc

pub meant_within : (r : PlainRecording) (i : ℕ) → is_meant r i ≡ true → i < length r.entries
unfolding is_meant
meant_within r i is =
    elim (slice_get r.entries i) as (λ o. slice_get r.entries i ≡ o → is_some (option_and_then (λ e. meant_by r.setting.exercise (event_of e)) o) ≡ true
    → i < length r.entries) [
      | None ↦ λ _ none. absurd cc
      | Some e ↦ λ at _. slice_get_within r.entries i e at
    ] refl is

-- what has a key
event_meant : (r : PlainRecording) (k : Key) (v : Event) → option_map_or (same_key k) (event_key r v) false ≡ true
    → is_some (meant_by r.setting.exercise v) ≡ true
event_meant r k (Send s b) has =
    elim (meaning r.setting.exercise b) as (λ o. option_map_or (same_key k) (option_and_then (sent_key s) o) false ≡ true → is_some o ≡ true) [
      | None ↦ λ none. absurd cc
      | Some p ↦ λ _. refl
    ] has
event_meant r k (Get s b) has =
    elim (meaning r.setting.exercise b) as (λ o. option_map_or (same_key k) (option_and_then (received_key s (station_at r s).address) o) false ≡ true
    → is_some o ≡ true) [
      | None ↦ λ none. absurd cc
      | Some p ↦ λ _. refl
    ] has
event_meant r k (Tell s e y) has = absurd cc

pub key_meant : (r : PlainRecording) (k : Key) (i : ℕ) → has_key r k i ≡ true → is_meant r i ≡ true
unfolding is_meant key_at
key_meant r k i has =
    elim (slice_get r.entries i) as (λ o. option_map_or (same_key k) (option_and_then (λ e. event_key r (event_of e)) o) false ≡ true
    → is_some (option_and_then (λ e. meant_by r.setting.exercise (event_of e)) o) ≡ true) [
      | None ↦ λ none. absurd cc
      | Some e ↦ λ has. event_meant r k (event_of e) has
    ] has

-- what sends a request under an identifier
request_meant : (r : PlainRecording) (k : Identifier) (v : Event) → is_some (request_by r k v) ≡ true → is_some (meant_by r.setting.exercise v) ≡ true
request_meant r k (Send s b) asks = some_first _ (meaning r.setting.exercise b) asks
request_meant r k (Get s b) asks = absurd cc
request_meant r k (Tell s e y) asks = absurd cc

pub asks_meant : (r : PlainRecording) (k : Identifier) (i : ℕ) → asks_at r k i ≡ true → is_meant r i ≡ true
unfolding is_meant request_at
asks_meant r k i asks =
    elim (slice_get r.entries i) as (λ o. is_some (option_and_then (λ e. request_by r k (event_of e)) o) ≡ true
    → is_some (option_and_then (λ e. meant_by r.setting.exercise (event_of e)) o) ≡ true) [
      | None ↦ λ none. absurd cc
      | Some e ↦ λ asks. request_meant r k (event_of e) asks
    ] asks

pub first_meant : (r : PlainRecording) (k : Identifier) (n i : ℕ) → first_request r k n ≡ Some i → is_meant r i ≡ true
unfolding first_request
first_meant r k n i first = asks_meant r k i (passes (asks_at r k) n i first).1

-- what stands in slots
pub firsts_meant : (r : PlainRecording) (n : ℕ) (firsts : Kept) → AreFirsts r n firsts → (e : ℕ) → HasSlot firsts.slots.slots e → is_meant r e ≡ true
firsts_meant r n firsts tied e stands = let keyed = tied.first.keyed e stands in key_meant r keyed.0 e keyed.1

pub order_meant : (r : PlainRecording) (n : ℕ) (firsts : Kept) → AreFirsts r n firsts → (i e : ℕ) → slice_get firsts.order.items i ≡ Some e → is_meant r e ≡ true
order_meant r n firsts tied i e at = firsts_meant r n firsts tied e (order_stands (has_key r) key_hash n firsts i e tied at)

pub requests_meant : (r : PlainRecording) (n : ℕ) (requests : Requests) → AreRequests r n requests → (e : ℕ)
    → HasSlot requests.firsts.slots.slots e → is_meant r e ≡ true
requests_meant r n requests tied e stands = let keyed = tied.firsts.first.keyed e stands in asks_meant r keyed.0 e keyed.1

-- what brings a request
brought_meant : (r : PlainRecording) (s : ℕ) (p : Pdu) (v : Event)
    → is_some (option_and_then (request_brought r.setting.exercise (station_at r s).address p) (event_at s v)) ≡ true
    → is_some (meant_by r.setting.exercise v) ≡ true
brought_meant r s p (Send t b) brings =
    elim (nat_eq t s) as (λ c. is_some (option_and_then (request_brought r.setting.exercise (station_at r s).address p) (cond c (Some (Send t b)) None)) ≡ true
    → is_some (meaning r.setting.exercise b) ≡ true) [
      | false ↦ λ none. absurd cc
      | true ↦ λ none. absurd cc
    ] brings
brought_meant r s p (Get t b) brings =
    elim (nat_eq t s) as (λ c. is_some (option_and_then (request_brought r.setting.exercise (station_at r s).address p) (cond c (Some (Get t b)) None)) ≡ true
    → is_some (meaning r.setting.exercise b) ≡ true) [
      | false ↦ λ none. absurd cc
      | true ↦ λ brings. some_first _ (meaning r.setting.exercise b) brings
    ] brings
brought_meant r s p (Tell t e y) brings =
    elim (nat_eq t s) as (λ c. is_some (option_and_then (request_brought r.setting.exercise (station_at r s).address p) (cond c (Some (Tell t e y)) None)) ≡ true
    → is_some (meant_by r.setting.exercise (Tell t e y)) ≡ true) [
      | false ↦ λ none. absurd cc
      | true ↦ λ none. absurd cc
    ] brings

brings_meant : (r : PlainRecording) (s : ℕ) (p : Pdu) (i : ℕ) → brings_request r s p i ≡ true → is_meant r i ≡ true
unfolding own_event is_meant
brings_meant r s p i brings =
    elim (slice_get r.entries i) as (λ o. is_some (option_and_then (request_brought r.setting.exercise (station_at r s).address p)
    (option_and_then (λ e. event_at s (event_of e)) o)) ≡ true
    → is_some (option_and_then (λ e. meant_by r.setting.exercise (event_of e)) o) ≡ true) [
      | None ↦ λ none. absurd cc
      | Some e ↦ λ brings. brought_meant r s p (event_of e) brings
    ] brings

pub taken_meant : (r : PlainRecording) (s : ℕ) (p : Pdu) (n i : ℕ) → entry_taken_up r s p n ≡ Some i → is_meant r i ≡ true
unfolding entry_taken_up
taken_meant r s p n i taken = brings_meant r s p i (passes (brings_request r s p) n i taken).1
