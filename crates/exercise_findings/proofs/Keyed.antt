-- What is looked up under a key is what a look through the log finds.
use Rattle.std.proofs.Common.{◌≡◌, ℕ, zero, suc, ◌+◌, ◌<◌, ◌∷◌, length, cond, Option, Some, None, Bool, true, false, refl, sym, ap, ◌∙◌, subst, arith}
use Rattle.std.specs.Prelude.{IfSome, ◌≢◌, is_some, slice_get, nat_eq, nat_lt, ◌&&◌, ◌||◌, option_map, option_and_then, if◌then◌else◌}
use Rattle.std.specs.Option.{option_map_or, option_or}
use Rattle.std.specs.List.{list_any}
use Rattle.std.proofs.lemmas.Bool.{eqb-true, eq-eqb, lt-ltb, le-ltb}
use Rattle.std.proofs.lemmas.Bool.Decides.{nat_tests}
use Rattle.std.proofs.lemmas.Option.{same_Some}
use Rattle.dis_records.specs.declared.address.SiteApplication.{SiteApplication}
use Rattle.dis_records.specs.Entity.{is_addressed}
use Rattle.siman_pdus.specs.declared.pdu.Pdu.{Pdu}
use Rattle.siman_pdus.specs.Role.{is_request_body, request_id_of}
use Rattle.siman_pdus.specs.Answers.{same_id, same_pair}
use Rattle.exercise_model.specs.declared.acknowledge.AcknowledgeKey.{AcknowledgeKey}
use Rattle.exercise_model.specs.Recording.{PlainRecording}
use Rattle.exercise_model.specs.History.{Event, Send, Get, Tell, event_of, station_at}
use Rattle.exercise_model.specs.Meaning.{meaning}
use Rattle.exercise_model.specs.Exchange.{is_asked, request_brought, request_taken_up}
use Rattle.exercise_model.specs.Change.{able, unable, responds, response_of, key_of, responds_under, sends_under, was_acknowledged}
use Rattle.exercise_model.specs.Change.{same_key as same_acknowledged}
use Rattle.exercise_model.specs.Place.{event_at, own_event, log_before, first_below, brings_request, entry_taken_up}
use Rattle.exercise_model.specs.Account.{sends_able, first_able}
use Rattle.exercise_model.proofs.Offered.{log_before-more, log_before-none}
use Rattle.exercise_findings.specs.declared.key.Key.{Key}
use Rattle.exercise_findings.specs.Firsts.{same_key, acknowledged_key, request_key, sent_key, received_key, answered_key, event_key, key_at, has_key, first_under}

nat_eq-comm : (a b : ℕ) → nat_eq a b ≡ nat_eq b a
nat_eq-comm a b = grind (arith, nat_tests)

and_true : (b : Bool) → (b && true) ≡ b
and_true true = refl
and_true false = refl

and_false : (b : Bool) → (b && false) ≡ false
and_false true = refl
and_false false = refl

or_none : {X : Type 0} (o : Option X) → option_or o None ≡ o
or_none None = refl
or_none (Some x) = refl

-- ---- the first number that passes

pub same_first : (f g : ℕ → Bool) → ((j : ℕ) → f j ≡ g j) → (n : ℕ) → first_below f n ≡ first_below g n
unfolding first_below
same_first f g same zero = refl
same_first f g same (suc n) =
    ap (λ o. option_or o (if f n then Some n else None)) (same_first f g same n)
    ∙ ap (λ b. option_or (first_below g n) (if b then Some n else None)) (same n)

pub no_first : (f : ℕ → Bool) → ((j : ℕ) → f j ≡ false) → (n : ℕ) → first_below f n ≡ None
unfolding first_below
no_first f none zero = refl
no_first f none (suc n) =
    ap (λ o. option_or o (if f n then Some n else None)) (no_first f none n) ∙ ap (λ b. if b then Some n else None) (none n)

-- it lies below, and passes
pub passes : (f : ℕ → Bool) (n j : ℕ) → first_below f n ≡ Some j → (j < n) × (f j ≡ true)
unfolding first_below
passes f zero j e = absurd (cc)
passes f (suc n) j e =
    elim (first_below f n) as (λ o. first_below f n ≡ o → option_or o (if f n then Some n else None) ≡ Some j → (j < suc n) × (f j ≡ true)) [
      | Some m ↦ λ found e. let before = passes f n j (found ∙ e) in (omega (arith, before.0), before.1)
      | None ↦ λ _ e. elim (f n) as (λ t. f n ≡ t → (if t then Some n else None) ≡ Some j → (j < suc n) × (f j ≡ true)) [
        | false ↦ λ _ e. absurd (cc)
        | true ↦ λ here e. let same : n ≡ j = same_Some n j e in (omega (arith, same), subst (λ m. f m ≡ true) same here)
      ] refl e
    ] refl e

-- ---- keys of requests

same_parts : (s i j a b c d : ℕ) → (nat_eq s s && (nat_eq i j && (nat_eq b a && (nat_eq d c && true)))) ≡ (nat_eq i j && (nat_eq a b && nat_eq c d))
same_parts s i j a b c d =
    ap (λ t. t && (nat_eq i j && (nat_eq b a && (nat_eq d c && true)))) (eq-eqb s s refl)
    ∙ ap (λ t. nat_eq i j && (t && (nat_eq d c && true))) (nat_eq-comm b a)
    ∙ ap (λ t. nat_eq i j && (nat_eq a b && t)) (and_true (nat_eq d c) ∙ nat_eq-comm d c)

-- a request at the station itself
got_same : (a : SiteApplication) (s : ℕ) (p q : Pdu) (id : ℕ) → request_id_of p.body ≡ Some id
    → option_map_or (same_key (request_key s p.target.site p.target.application id)) (received_key s a q) false ≡ is_asked a p q
got_same a s p q id e =
    let k : Key = request_key s p.target.site p.target.application id in
    elim (is_request_body q.body) as (λ t. option_map_or (same_key k) (cond (t && is_addressed q.target a)
    (option_map (request_key s q.origin.site q.origin.application) (request_id_of q.body)) None) false
    ≡ (t && (is_addressed q.target a && (same_id (Some id) (request_id_of q.body) && same_pair q.origin p.target)))) [
      | false ↦ refl
      | true ↦ elim (is_addressed q.target a) as (λ t. option_map_or (same_key k) (cond t
          (option_map (request_key s q.origin.site q.origin.application) (request_id_of q.body)) None) false
          ≡ (t && (same_id (Some id) (request_id_of q.body) && same_pair q.origin p.target))) [
            | false ↦ refl
            | true ↦ elim (request_id_of q.body) as (λ o. option_map_or (same_key k)
                (option_map (request_key s q.origin.site q.origin.application) o) false ≡ (same_id (Some id) o && same_pair q.origin p.target)) [
                  | None ↦ refl
                  | Some j ↦ same_parts s id j q.origin.site p.target.site q.origin.application p.target.application
                ]
          ]
    ]
    ∙ ap (λ o. is_request_body q.body && (is_addressed q.target a && (same_id o (request_id_of q.body) && same_pair q.origin p.target))) (sym e)

-- a request at another station
got_other : (a : SiteApplication) (s t site application id : ℕ) (q : Pdu) → nat_eq t s ≡ false
    → option_map_or (same_key (request_key s site application id)) (received_key t a q) false ≡ false
got_other a s t site application id q far =
    let k : Key = request_key s site application id in
    elim (is_request_body q.body && is_addressed q.target a) as (λ c. option_map_or (same_key k)
    (cond c (option_map (request_key t q.origin.site q.origin.application) (request_id_of q.body)) None) false ≡ false) [
      | false ↦ refl
      | true ↦ elim (request_id_of q.body) as (λ o. option_map_or (same_key k)
          (option_map (request_key t q.origin.site q.origin.application) o) false ≡ false) [
            | None ↦ refl
            | Some j ↦ ap (λ b. b && (nat_eq id j && (nat_eq site q.origin.site && (nat_eq application q.origin.application && true))))
                (nat_eq-comm s t ∙ far)
          ]
    ]

-- an Acknowledge has no request's key
sent_unasked : (s t site application id : ℕ) (p : Pdu) → option_map_or (same_key (request_key s site application id)) (sent_key t p) false ≡ false
sent_unasked s t site application id p =
    let k : Key = request_key s site application id in
    elim (key_of p) as (λ o. option_map_or (same_key k) (option_and_then (λ l. cond (responds able p) (Some (acknowledged_key t able l))
    (cond (responds unable p) (Some (acknowledged_key t unable l)) None)) o) false ≡ false) [
      | None ↦ refl
      | Some l ↦ elim (responds able p) as (λ b. option_map_or (same_key k) (cond b (Some (acknowledged_key t able l))
          (cond (responds unable p) (Some (acknowledged_key t unable l)) None)) false ≡ false) [
            | true ↦ refl
            | false ↦ elim (responds unable p) as (λ b. option_map_or (same_key k) (cond b (Some (acknowledged_key t unable l)) None) false ≡ false) [
              | true ↦ refl
              | false ↦ refl
            ]
          ]
    ]

-- an event brings a request for an answer where it has the answer's key
event_asked : (r : PlainRecording) (s : ℕ) (p : Pdu) (id : ℕ) → request_id_of p.body ≡ Some id → (v : Event)
    → is_some (option_and_then (request_brought r.setting.exercise (station_at r s).address p) (event_at s v))
    ≡ option_map_or (same_key (request_key s p.target.site p.target.application id)) (event_key r v) false
event_asked r s p id e (Tell t f y) =
    elim (nat_eq t s) as (λ c. is_some (option_and_then (request_brought r.setting.exercise (station_at r s).address p) (cond c (Some (Tell t f y)) None))
    ≡ false) [ true ↦ refl | false ↦ refl ]
event_asked r s p id e (Send t b) =
    let k : Key = request_key s p.target.site p.target.application id in
    let none : option_map_or (same_key k) (option_and_then (sent_key t) (meaning r.setting.exercise b)) false ≡ false =
    elim (meaning r.setting.exercise b) as (λ o. option_map_or (same_key k) (option_and_then (sent_key t) o) false ≡ false) [
      | None ↦ refl
      | Some q ↦ sent_unasked s t p.target.site p.target.application id q
    ] in
    elim (nat_eq t s) as (λ c. is_some (option_and_then (request_brought r.setting.exercise (station_at r s).address p) (cond c (Some (Send t b)) None))
    ≡ false) [ true ↦ refl | false ↦ refl ] ∙ sym none
event_asked r s p id e (Get t b) =
    let k : Key = request_key s p.target.site p.target.application id in
    let a : SiteApplication = (station_at r s).address in
    elim (nat_eq t s) as (λ c. nat_eq t s ≡ c → is_some (option_and_then (request_brought r.setting.exercise a p) (cond c (Some (Get t b)) None))
    ≡ option_map_or (same_key k) (option_and_then (received_key t (station_at r t).address) (meaning r.setting.exercise b)) false) [
      | true ↦ λ near. elim (meaning r.setting.exercise b) as (λ o. is_some (option_and_then (λ q. cond (is_asked a p q) (Some q) None) o)
          ≡ option_map_or (same_key k) (option_and_then (received_key t (station_at r t).address) o) false) [
            | None ↦ refl
            | Some q ↦ elim (is_asked a p q) as (λ c. is_some (cond c (Some q) None) ≡ c) [ true ↦ refl | false ↦ refl ]
                ∙ sym (got_same a s p q id e)
                ∙ ap (λ u. option_map_or (same_key k) (received_key u (station_at r u).address q) false) (sym (eqb-true t s near))
          ]
      | false ↦ λ far. sym (elim (meaning r.setting.exercise b) as
          (λ o. option_map_or (same_key k) (option_and_then (received_key t (station_at r t).address) o) false ≡ false) [
            | None ↦ refl
            | Some q ↦ got_other (station_at r t).address s t p.target.site p.target.application id q far
          ])
    ] refl

-- no event brings a request for what has no request identifier
event_unasked : (r : PlainRecording) (s : ℕ) (p : Pdu) → request_id_of p.body ≡ None → (v : Event)
    → is_some (option_and_then (request_brought r.setting.exercise (station_at r s).address p) (event_at s v)) ≡ false
event_unasked r s p e (Tell t f y) =
    elim (nat_eq t s) as (λ c. is_some (option_and_then (request_brought r.setting.exercise (station_at r s).address p) (cond c (Some (Tell t f y)) None))
    ≡ false) [ true ↦ refl | false ↦ refl ]
event_unasked r s p e (Send t b) =
    elim (nat_eq t s) as (λ c. is_some (option_and_then (request_brought r.setting.exercise (station_at r s).address p) (cond c (Some (Send t b)) None))
    ≡ false) [ true ↦ refl | false ↦ refl ]
event_unasked r s p e (Get t b) =
    let a : SiteApplication = (station_at r s).address in
    elim (nat_eq t s) as (λ c. is_some (option_and_then (request_brought r.setting.exercise a p) (cond c (Some (Get t b)) None)) ≡ false) [
      | false ↦ refl
      | true ↦ elim (meaning r.setting.exercise b) as (λ o. is_some (option_and_then (λ q. cond (is_asked a p q) (Some q) None) o) ≡ false) [
        | None ↦ refl
        | Some q ↦ ap (λ c. is_some (cond c (Some q) None)) (unasked a q)
      ]
    ]
  where
    unasked : (a : SiteApplication) (q : Pdu) → is_asked a p q ≡ false
    unasked a q =
        ap (λ o. is_request_body q.body && (is_addressed q.target a && (same_id o (request_id_of q.body) && same_pair q.origin p.target))) e
        ∙ ap (λ b. is_request_body q.body && b) (and_false (is_addressed q.target a)) ∙ and_false (is_request_body q.body)

pub asked_at : (r : PlainRecording) (s : ℕ) (p : Pdu) (id : ℕ) → request_id_of p.body ≡ Some id → (j : ℕ)
    → brings_request r s p j ≡ has_key r (request_key s p.target.site p.target.application id) j
unfolding own_event key_at
asked_at r s p id e j =
    elim (slice_get r.entries j) as (λ o. is_some (option_and_then (request_brought r.setting.exercise (station_at r s).address p)
    (option_and_then (λ y. event_at s (event_of y)) o))
    ≡ option_map_or (same_key (request_key s p.target.site p.target.application id)) (option_and_then (λ y. event_key r (event_of y)) o) false) [
      | None ↦ refl
      | Some y ↦ event_asked r s p id e (event_of y)
    ]

pub unasked_at : (r : PlainRecording) (s : ℕ) (p : Pdu) → request_id_of p.body ≡ None → (j : ℕ) → brings_request r s p j ≡ false
unfolding own_event
unasked_at r s p e j =
    elim (slice_get r.entries j) as (λ o. is_some (option_and_then (request_brought r.setting.exercise (station_at r s).address p)
    (option_and_then (λ y. event_at s (event_of y)) o)) ≡ false) [
      | None ↦ refl
      | Some y ↦ event_unasked r s p e (event_of y)
    ]

-- THE REQUEST THAT AN ANSWER TAKES UP, BY THE ANSWER'S KEY
pub taken_up_by_key : (r : PlainRecording) (s : ℕ) (p : Pdu) (n : ℕ)
    → entry_taken_up r s p n ≡ option_and_then (λ k. first_under r k n) (answered_key s p)
unfolding entry_taken_up first_under
taken_up_by_key r s p n =
    elim (request_id_of p.body) as (λ o. request_id_of p.body ≡ o
    → first_below (brings_request r s p) n ≡ option_and_then (λ k. first_below (has_key r k) n)
    (option_map (request_key s p.target.site p.target.application) o)) [
      | None ↦ λ e. no_first (brings_request r s p) (unasked_at r s p e) n
      | Some id ↦ λ e. same_first (brings_request r s p) (has_key r (request_key s p.target.site p.target.application id)) (asked_at r s p id e) n
    ] refl

-- the request itself is what that entry brings
request_more : (x : ℕ) (a : SiteApplication) (p : Pdu) (r : PlainRecording) (s i : ℕ)
    → request_taken_up x a p (log_before r s (suc i)) ≡ option_or (request_taken_up x a p (log_before r s i))
    (option_and_then (request_brought x a p) (own_event r s i))
unfolding request_taken_up
request_more x a p r s i =
    ap (request_taken_up x a p) (log_before-more r s i)
    ∙ elim (own_event r s i) as (λ o. request_taken_up x a p (option_map_or (λ v. v ∷ log_before r s i) o (log_before r s i))
    ≡ option_or (request_taken_up x a p (log_before r s i)) (option_and_then (request_brought x a p) o)) [
      | None ↦ sym (or_none (request_taken_up x a p (log_before r s i)))
      | Some v ↦ refl
    ]

pub request_by_entry : (r : PlainRecording) (s : ℕ) (p : Pdu) (n : ℕ)
    → request_taken_up r.setting.exercise (station_at r s).address p (log_before r s n)
    ≡ option_and_then (λ j. option_and_then (request_brought r.setting.exercise (station_at r s).address p) (own_event r s j)) (entry_taken_up r s p n)
unfolding entry_taken_up first_below request_taken_up
request_by_entry r s p zero = ap (request_taken_up r.setting.exercise (station_at r s).address p) (log_before-none r s)
request_by_entry r s p (suc n) =
    let brought : ℕ → Option Pdu = λ j. option_and_then (request_brought r.setting.exercise (station_at r s).address p) (own_event r s j) in
    request_more r.setting.exercise (station_at r s).address p r s n
    ∙ ap (λ o. option_or o (brought n)) (request_by_entry r s p n)
    ∙ elim (first_below (brings_request r s p) n) as (λ o. first_below (brings_request r s p) n ≡ o
    → option_or (option_and_then brought o) (brought n) ≡ option_and_then brought (option_or o (if is_some (brought n) then Some n else None))) [
      | None ↦ λ _. elim (brought n) as (λ b. brought n ≡ b → b ≡ option_and_then brought (if is_some b then Some n else None)) [
        | None ↦ λ _. refl
        | Some q ↦ λ e. sym e
      ] refl
      | Some j ↦ λ found. some_or (brought j) (brought n) (passes (brings_request r s p) n j found).1
    ] refl
  where
    some_or : (o q : Option Pdu) → is_some o ≡ true → option_or o q ≡ o
    some_or None q e = absurd (cc)
    some_or (Some x) q e = refl

-- ---- keys of Acknowledges

-- an Acknowledge of the station itself
pub sent_able : (s : ℕ) (k : AcknowledgeKey) (p : Pdu)
    → option_map_or (same_key (acknowledged_key s able k)) (sent_key s p) false ≡ responds_under able k p
sent_able s k p =
    elim (key_of p) as (λ o. option_map_or (same_key (acknowledged_key s able k)) (option_and_then (λ l. cond (responds able p)
    (Some (acknowledged_key s able l)) (cond (responds unable p) (Some (acknowledged_key s unable l)) None)) o) false
    ≡ (responds able p && option_map_or (same_acknowledged k) o false)) [
      | None ↦ sym (and_false (responds able p))
      | Some l ↦ elim (responds able p) as (λ b. option_map_or (same_key (acknowledged_key s able k)) (cond b
          (Some (acknowledged_key s able l)) (cond (responds unable p) (Some (acknowledged_key s unable l)) None)) false
          ≡ (b && same_acknowledged k l)) [
            | true ↦ ap (λ b. b && same_acknowledged k l) (eq-eqb s s refl)
            | false ↦ elim (responds unable p) as (λ b. option_map_or (same_key (acknowledged_key s able k))
                (cond b (Some (acknowledged_key s unable l)) None) false ≡ false) [ true ↦ refl | false ↦ refl ]
          ]
    ]

not_both : (p : Pdu) → responds able p ≡ true → responds unable p ≡ false
not_both p =
    elim (response_of p.body) as (λ o. same_id o (Some able) ≡ true → same_id o (Some unable) ≡ false) [
      | None ↦ λ _. refl
      | Some n ↦ λ e. ap (λ m. nat_eq m unable) (eqb-true n able e)
    ]

pub sent_unable : (s : ℕ) (k : AcknowledgeKey) (p : Pdu)
    → option_map_or (same_key (acknowledged_key s unable k)) (sent_key s p) false ≡ responds_under unable k p
sent_unable s k p =
    elim (key_of p) as (λ o. option_map_or (same_key (acknowledged_key s unable k)) (option_and_then (λ l. cond (responds able p)
    (Some (acknowledged_key s able l)) (cond (responds unable p) (Some (acknowledged_key s unable l)) None)) o) false
    ≡ (responds unable p && option_map_or (same_acknowledged k) o false)) [
      | None ↦ sym (and_false (responds unable p))
      | Some l ↦ elim (responds able p) as (λ b. responds able p ≡ b → option_map_or (same_key (acknowledged_key s unable k)) (cond b
          (Some (acknowledged_key s able l)) (cond (responds unable p) (Some (acknowledged_key s unable l)) None)) false
          ≡ (responds unable p && same_acknowledged k l)) [
            | true ↦ λ e. sym (ap (λ b. b && same_acknowledged k l) (not_both p e))
            | false ↦ λ _. elim (responds unable p) as (λ b. option_map_or (same_key (acknowledged_key s unable k))
                (cond b (Some (acknowledged_key s unable l)) None) false ≡ (b && same_acknowledged k l)) [
                  | true ↦ ap (λ b. b && same_acknowledged k l) (eq-eqb s s refl)
                  | false ↦ refl
                ]
          ] refl
    ]

-- an Acknowledge of another station
sent_far : (s t response : ℕ) (k : AcknowledgeKey) (p : Pdu) → nat_eq t s ≡ false
    → option_map_or (same_key (acknowledged_key s response k)) (sent_key t p) false ≡ false
sent_far s t response k p far =
    elim (key_of p) as (λ o. option_map_or (same_key (acknowledged_key s response k)) (option_and_then (λ l. cond (responds able p)
    (Some (acknowledged_key t able l)) (cond (responds unable p) (Some (acknowledged_key t unable l)) None)) o) false ≡ false) [
      | None ↦ refl
      | Some l ↦ elim (responds able p) as (λ b. option_map_or (same_key (acknowledged_key s response k)) (cond b
          (Some (acknowledged_key t able l)) (cond (responds unable p) (Some (acknowledged_key t unable l)) None)) false ≡ false) [
            | true ↦ other able l
            | false ↦ elim (responds unable p) as (λ b. option_map_or (same_key (acknowledged_key s response k))
                (cond b (Some (acknowledged_key t unable l)) None) false ≡ false) [ true ↦ other unable l | false ↦ refl ]
          ]
    ]
  where
    other : (n : ℕ) (l : AcknowledgeKey) → same_key (acknowledged_key s response k) (acknowledged_key t n l) ≡ false
    other n l = ap (λ b. nat_eq response n && (b && same_acknowledged k l)) (nat_eq-comm s t ∙ far) ∙ and_false (nat_eq response n)

-- a request has no Acknowledge's key
got_unsent : (s t response : ℕ) (a : SiteApplication) (k : AcknowledgeKey) (q : Pdu)
    → option_map_or (same_key (acknowledged_key s response k)) (received_key t a q) false ≡ false
got_unsent s t response a k q =
    elim (is_request_body q.body && is_addressed q.target a) as (λ c. option_map_or (same_key (acknowledged_key s response k))
    (cond c (option_map (request_key t q.origin.site q.origin.application) (request_id_of q.body)) None) false ≡ false) [
      | false ↦ refl
      | true ↦ elim (request_id_of q.body) as (λ o. option_map_or (same_key (acknowledged_key s response k))
          (option_map (request_key t q.origin.site q.origin.application) o) false ≡ false) [ None ↦ refl | Some j ↦ refl ]
    ]

-- Under this response flag what a station sends is found by its key.
abbrev IsKeyed : ℕ → ℕ → AcknowledgeKey → Type 0
IsKeyed s response k = (p : Pdu) → option_map_or (same_key (acknowledged_key s response k)) (sent_key s p) false ≡ responds_under response k p

event_sent : (r : PlainRecording) (s response : ℕ) (k : AcknowledgeKey) → IsKeyed s response k → (v : Event)
    → option_map_or (sends_under r.setting.exercise response k) (event_at s v) false
    ≡ option_map_or (same_key (acknowledged_key s response k)) (event_key r v) false
event_sent r s response k keyed (Tell t f y) =
    elim (nat_eq t s) as (λ c. option_map_or (sends_under r.setting.exercise response k) (cond c (Some (Tell t f y)) None) false ≡ false) [
      | true ↦ refl
      | false ↦ refl
    ]
event_sent r s response k keyed (Get t b) =
    elim (nat_eq t s) as (λ c. option_map_or (sends_under r.setting.exercise response k) (cond c (Some (Get t b)) None) false ≡ false) [
      | true ↦ refl
      | false ↦ refl
    ]
    ∙ sym (elim (meaning r.setting.exercise b) as (λ o. option_map_or (same_key (acknowledged_key s response k))
    (option_and_then (received_key t (station_at r t).address) o) false ≡ false) [
      | None ↦ refl
      | Some q ↦ got_unsent s t response (station_at r t).address k q
    ])
event_sent r s response k keyed (Send t b) =
    elim (nat_eq t s) as (λ c. nat_eq t s ≡ c → option_map_or (sends_under r.setting.exercise response k) (cond c (Some (Send t b)) None) false
    ≡ option_map_or (same_key (acknowledged_key s response k)) (option_and_then (sent_key t) (meaning r.setting.exercise b)) false) [
      | true ↦ λ near. elim (meaning r.setting.exercise b) as (λ o. option_map_or (responds_under response k) o false
          ≡ option_map_or (same_key (acknowledged_key s response k)) (option_and_then (sent_key t) o) false) [
            | None ↦ refl
            | Some p ↦ sym (keyed p) ∙ ap (λ u. option_map_or (same_key (acknowledged_key s response k)) (sent_key u p) false) (sym (eqb-true t s near))
          ]
      | false ↦ λ far. sym (elim (meaning r.setting.exercise b) as
          (λ o. option_map_or (same_key (acknowledged_key s response k)) (option_and_then (sent_key t) o) false ≡ false) [
            | None ↦ refl
            | Some p ↦ sent_far s t response k p far
          ])
    ] refl

sent_at : (r : PlainRecording) (s response : ℕ) (k : AcknowledgeKey) → IsKeyed s response k → (j : ℕ)
    → option_map_or (sends_under r.setting.exercise response k) (own_event r s j) false ≡ has_key r (acknowledged_key s response k) j
unfolding own_event key_at
sent_at r s response k keyed j =
    elim (slice_get r.entries j) as (λ o. option_map_or (sends_under r.setting.exercise response k) (option_and_then (λ y. event_at s (event_of y)) o) false
    ≡ option_map_or (same_key (acknowledged_key s response k)) (option_and_then (λ y. event_key r (event_of y)) o) false) [
      | None ↦ refl
      | Some y ↦ event_sent r s response k keyed (event_of y)
    ]

acknowledged_more : (x response : ℕ) (k : AcknowledgeKey) (r : PlainRecording) (s i : ℕ)
    → was_acknowledged x response k (log_before r s (suc i)) ≡
    (was_acknowledged x response k (log_before r s i) || option_map_or (sends_under x response k) (own_event r s i) false)
unfolding was_acknowledged
acknowledged_more x response k r s i =
    ap (list_any (sends_under x response k)) (log_before-more r s i)
    ∙ elim (own_event r s i) as (λ o. list_any (sends_under x response k) (option_map_or (λ v. v ∷ log_before r s i) o (log_before r s i))
    ≡ (list_any (sends_under x response k) (log_before r s i) || option_map_or (sends_under x response k) o false)) [
      | None ↦ sym (or_false (list_any (sends_under x response k) (log_before r s i)))
      | Some v ↦ or_comm (sends_under x response k v) (list_any (sends_under x response k) (log_before r s i))
    ]
  where
    or_false : (b : Bool) → (b || false) ≡ b
    or_false true = refl
    or_false false = refl

    or_comm : (a b : Bool) → (a || b) ≡ (b || a)
    or_comm true true = refl
    or_comm true false = refl
    or_comm false true = refl
    or_comm false false = refl

-- an Acknowledge was sent where there is a first under its key
acknowledged_first : (r : PlainRecording) (s response : ℕ) (k : AcknowledgeKey) → IsKeyed s response k → (n : ℕ)
    → was_acknowledged r.setting.exercise response k (log_before r s n) ≡ is_some (first_under r (acknowledged_key s response k) n)
unfolding was_acknowledged first_under first_below
acknowledged_first r s response k keyed zero = ap (list_any (sends_under r.setting.exercise response k)) (log_before-none r s)
acknowledged_first r s response k keyed (suc n) =
    let key : Key = acknowledged_key s response k in
    acknowledged_more r.setting.exercise response k r s n
    ∙ ap (λ b. b || option_map_or (sends_under r.setting.exercise response k) (own_event r s n) false) (acknowledged_first r s response k keyed n)
    ∙ ap (λ b. is_some (first_below (has_key r key) n) || b) (sent_at r s response k keyed n)
    ∙ elim (first_below (has_key r key) n) as (λ o. (is_some o || has_key r key n) ≡ is_some (option_or o (if has_key r key n then Some n else None))) [
      | Some j ↦ refl
      | None ↦ elim (has_key r key n) as (λ b. b ≡ is_some (if b then Some n else None)) [ true ↦ refl | false ↦ refl ]
    ]

pub able_by_key : (r : PlainRecording) (s : ℕ) (k : AcknowledgeKey) (n : ℕ)
    → was_acknowledged r.setting.exercise able k (log_before r s n) ≡ is_some (first_under r (acknowledged_key s able k) n)
able_by_key r s k n = acknowledged_first r s able k (sent_able s k) n

pub unable_by_key : (r : PlainRecording) (s : ℕ) (k : AcknowledgeKey) (n : ℕ)
    → was_acknowledged r.setting.exercise unable k (log_before r s n) ≡ is_some (first_under r (acknowledged_key s unable k) n)
unable_by_key r s k n = acknowledged_first r s unable k (sent_unable s k) n

-- THE FIRST ABLE OF A STATION UNDER A KEY, BY ITS KEY
pub first_able_by_key : (r : PlainRecording) (s : ℕ) (k : AcknowledgeKey)
    → first_able r k s ≡ first_under r (acknowledged_key s able k) (length r.entries)
unfolding first_able first_under
first_able_by_key r s k = same_first (sends_able r s k) (has_key r (acknowledged_key s able k)) (sent_at r s able k (sent_able s k)) (length r.entries)

-- ---- what the code asks

taken_below : (r : PlainRecording) (s : ℕ) (p : Pdu) (n j : ℕ) → entry_taken_up r s p n ≡ Some j → (j < n) × (brings_request r s p j ≡ true)
unfolding entry_taken_up
taken_below r s p n j e = passes (brings_request r s p) n j e

pub taken_earlier : (r : PlainRecording) (s : ℕ) (p : Pdu) (n : ℕ) → IfSome (entry_taken_up r s p n) (λ e. e < n)
taken_earlier r s p n =
    elim (entry_taken_up r s p n) as (λ o. entry_taken_up r s p n ≡ o → IfSome o (λ e. e < n)) [
      | None ↦ λ _. tt
      | Some j ↦ λ e. (taken_below r s p n j e).0
    ] refl

-- the entry of the request that is taken up does bring one
pub taken_brings : (r : PlainRecording) (s : ℕ) (p : Pdu) (n j : ℕ) → entry_taken_up r s p n ≡ Some j
    → option_and_then (request_brought r.setting.exercise (station_at r s).address p) (own_event r s j) ≢ None
taken_brings r s p n j e none = absurd (cc (sym (taken_below r s p n j e).1 ∙ ap is_some none))

under_below : (r : PlainRecording) (k : Key) (n j : ℕ) → first_under r k n ≡ Some j → j < n
unfolding first_under
under_below r k n j e = (passes (has_key r k) n j e).0

-- the first entry under a key lies below
pub under_earlier : (r : PlainRecording) (k : Key) (n : ℕ) → IfSome (first_under r k n) (λ e. e < n)
under_earlier r k n =
    elim (first_under r k n) as (λ o. first_under r k n ≡ o → IfSome o (λ e. e < n)) [
      | None ↦ λ _. tt
      | Some j ↦ λ e. under_below r k n j e
    ] refl

-- ---- the first entry before an entry, by what is known of later ones

-- an entry, where it comes before entry n
abbrev pub before_entry : ℕ → Option ℕ → Option ℕ
before_entry n o = option_and_then (λ e. if nat_lt e n then Some e else None) o

before_itself : (n : ℕ) (o : Option ℕ) → IfSome o (λ e. e < n) → before_entry n o ≡ o
before_itself n None below = refl
before_itself n (Some e) below = ap (λ b. if b then Some e else None) (lt-ltb e n below)

before_later : (n d : ℕ) (b : Bool) → before_entry n (if b then Some (n + d) else None) ≡ None
before_later n d false = refl
before_later n d true = ap (λ b. if b then Some (n + d) else None) (le-ltb (n + d) n (omega arith))

before_or : (n : ℕ) (o q : Option ℕ) → before_entry n q ≡ None → before_entry n (option_or o q) ≡ before_entry n o
before_or n None q none = none
before_or n (Some e) q none = refl

pub first_earlier : (f : ℕ → Bool) (n : ℕ) → IfSome (first_below f n) (λ e. e < n)
first_earlier f n =
    elim (first_below f n) as (λ o. first_below f n ≡ o → IfSome o (λ e. e < n)) [ None ↦ λ _. tt | Some e ↦ λ is. (passes f n e is).0 ] refl

pub first_before : (f : ℕ → Bool) (n d : ℕ) → before_entry n (first_below f (n + d)) ≡ first_below f n
unfolding first_below
first_before f n zero =
    let same : n + 0 ≡ n = omega arith in
    ap (λ m. before_entry n (first_below f m)) same ∙ before_itself n (first_below f n) (first_earlier f n)
first_before f n (suc d) =
    let same : n + suc d ≡ suc (n + d) = omega arith in
    ap (λ m. before_entry n (first_below f m)) same
    ∙ before_or n (first_below f (n + d)) (if f (n + d) then Some (n + d) else None) (before_later n d (f (n + d)))
    ∙ first_before f n d

pub ruleset key_steps = (taken_up_by_key, taken_earlier, able_by_key, unable_by_key, first_able_by_key)
