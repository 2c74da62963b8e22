-- Whether a request identifier was used for another order, by its first request.
use Rattle.std.proofs.Common.{◌≡◌, ℕ, zero, suc, ◌+◌, ◌<◌, ◌≤◌, List, ◌∷◌, length, cond, Option, Some, None, Bool, true, false, refl, sym, ap, ◌∙◌, subst, ⊎_elim, arith}
use Rattle.std.specs.Prelude.{IfSome, IfNone, is_some, not, slice_get, nat_eq, ◌&&◌, ◌||◌, option_map, option_and_then, if◌then◌else◌}
use Rattle.std.specs.Option.{option_map_or, option_or}
use Rattle.std.specs.List.{list_any}
use Rattle.std.proofs.Math.Numerals.{add-one}
use Rattle.std.proofs.lemmas.Bool.{eqb-true, eq-eqb, cases_lt}
use Rattle.std.proofs.lemmas.Bool.Decides.{nat_tests, Decides-like, same_from_decides}
use Rattle.exercise_findings.specs.Decided.{identifier_decides}
use Rattle.std.proofs.lemmas.Option.{same_Some}
use Rattle.std.specs.declared.hash.BuildHasherDefault.{BuildHasherDefault}
use Rattle.std.specs.declared.hash.DefaultHasher.{DefaultHasher}
use Rattle.indexmap.specs.IndexMap.{IndexMap, get}
use Rattle.siman_pdus.specs.declared.pdu.Pdu.{Pdu}
use Rattle.siman_pdus.specs.Role.{is_request_body, request_id_of}
use Rattle.siman_pdus.specs.Answers.{same_id}
use Rattle.siman_pdus.specs.Same.{IsSameOrder, is_same_order}
use Rattle.siman_pdus.proofs.Offered.{order_decides}
use Rattle.exercise_model.specs.Entry.{Entry}
use Rattle.exercise_model.specs.Recording.{PlainRecording}
use Rattle.exercise_model.specs.History.{Event, Send, Get, Tell, event_of}
use Rattle.exercise_model.specs.Meaning.{meaning}
use Rattle.exercise_model.specs.Cause.{is_other_order, sends_other, is_reused}
use Rattle.exercise_model.specs.Place.{event_at, own_event, log_before, first_below}
use Rattle.exercise_model.proofs.Offered.{log_before-more, log_before-none}
use Rattle.exercise_findings.specs.Sent.{meant_by_send}
use Rattle.exercise_findings.specs.declared.requests.Identifier.{Identifier}
use Rattle.exercise_findings.specs.declared.requests.Requests.{Requests}
use Rattle.exercise_findings.specs.declared.kept.Kept.{Kept}
use Rattle.exercise_findings.specs.Hashed.{identifier_hash}
use Rattle.exercise_findings.specs.Slots.{IsReached, HasSlot}
use Rattle.exercise_findings.specs.Kept.{IsAppended}
use Rattle.exercise_findings.specs.Requests.{same_identifier, identifier_of, request_under, request_by, request_at, asks_at, first_request, is_mixed, mixed_under, AreRequests, IsSendOf}
use Rattle.exercise_findings.proofs.Keeping.{looked_up, kept_none, kept_still, kept_later, kept_more}
use Rattle.exercise_findings.proofs.Keyed.{passes}

-- the table of the identifiers that are used for another order
abbrev Mixed : Type 0
Mixed = IndexMap Identifier Bool (BuildHasherDefault DefaultHasher)

nat_eq-comm : (a b : ℕ) → nat_eq a b ≡ nat_eq b a
nat_eq-comm a b = grind (arith, nat_tests)

and_false : (b : Bool) → (b && false) ≡ false
and_false true = refl
and_false false = refl

or_false : (b : Bool) → (b || false) ≡ b
or_false true = refl
or_false false = refl

or_true : (b : Bool) → (b || true) ≡ true
or_true true = refl
or_true false = refl

or_none : {X : Type 0} (o : Option X) → option_or o None ≡ o
or_none None = refl
or_none (Some x) = refl

-- ---- the same order is an equivalence

same_itself : (p : Pdu) → is_same_order p p ≡ true
same_itself p = (order_decides p p).1 refl

turned : (p q : Pdu) → IsSameOrder p q → IsSameOrder q p
turned p q s = sym (ap (λ (x : Pdu). record x { stamp = q.stamp; status = q.status }) s)

chained : (p q f : Pdu) → IsSameOrder p q → IsSameOrder q f → IsSameOrder p f
chained p q f s t = s ∙ ap (λ (x : Pdu). record x { stamp = p.stamp; status = p.status }) t

same-comm : (p q : Pdu) → is_same_order p q ≡ is_same_order q p
same-comm p q = same_from_decides _ _ (order_decides p q) (Decides-like (is_same_order q p) (turned q p) (turned p q) (order_decides q p))

same_beside : (p f q : Pdu) → is_same_order p f ≡ true → is_same_order p q ≡ is_same_order f q
same_beside p f q same =
    let s : IsSameOrder p f = (order_decides p f).0 same in
    same_from_decides _ _ (order_decides p q)
    (Decides-like (is_same_order f q) (chained p f q s) (chained f p q (turned p f s)) (order_decides f q))

-- ---- the requests under an identifier

abbrev identifier : ℕ → ℕ → Identifier
identifier s id = record { station = s; request = id }

-- q is another order than p
abbrev other : Pdu → Pdu → Bool
other p q = not (is_same_order p q)

chosen : (a b : Bool) (d : Pdu → Bool) (q : Pdu) → option_map_or d (cond (a && b) (Some q) None) false ≡ (a && (b && d q))
chosen true true d q = refl
chosen true false d q = refl
chosen false b d q = refl

under_is : (s t id : ℕ) (p q : Pdu) → request_id_of p.body ≡ Some id
    → option_map_or (other p) (request_under (identifier s id) t q) false ≡ (nat_eq t s && is_other_order p q)
under_is s t id p q e =
    let k : Identifier = identifier s id in
    elim (is_request_body q.body) as (λ b. option_map_or (other p)
    (cond (option_map_or (same_identifier k) (cond b (option_map (identifier t) (request_id_of q.body)) None) false) (Some q) None) false
    ≡ (nat_eq t s && (b && (same_id (Some id) (request_id_of q.body) && other p q)))) [
      | false ↦ sym (and_false (nat_eq t s))
      | true ↦ elim (request_id_of q.body) as (λ o. option_map_or (other p)
          (cond (option_map_or (same_identifier k) (option_map (identifier t) o) false) (Some q) None) false
          ≡ (nat_eq t s && (same_id (Some id) o && other p q))) [
            | None ↦ sym (and_false (nat_eq t s))
            | Some j ↦ ap (λ c. option_map_or (other p) (cond (c && nat_eq id j) (Some q) None) false) (nat_eq-comm s t)
                ∙ chosen (nat_eq t s) (nat_eq id j) (other p) q
          ]
    ]
    ∙ ap (λ o. nat_eq t s && (is_request_body q.body && (same_id o (request_id_of q.body) && other p q))) (sym e)

-- another order by an event of the station
event_other : (r : PlainRecording) (s id : ℕ) (p : Pdu) → request_id_of p.body ≡ Some id → (v : Event)
    → option_map_or (sends_other r.setting.exercise p) (event_at s v) false ≡ option_map_or (other p) (request_by r (identifier s id) v) false
event_other r s id p e (Get t b) =
    elim (nat_eq t s) as (λ c. option_map_or (sends_other r.setting.exercise p) (cond c (Some (Get t b)) None) false ≡ false) [ true ↦ refl | false ↦ refl ]
event_other r s id p e (Tell t f y) =
    elim (nat_eq t s) as (λ c. option_map_or (sends_other r.setting.exercise p) (cond c (Some (Tell t f y)) None) false ≡ false) [ true ↦ refl | false ↦ refl ]
event_other r s id p e (Send t b) =
    elim (nat_eq t s) as (λ c. option_map_or (sends_other r.setting.exercise p) (cond c (Some (Send t b)) None) false
    ≡ (c && option_map_or (is_other_order p) (meaning r.setting.exercise b) false)) [ true ↦ refl | false ↦ refl ]
    ∙ elim (meaning r.setting.exercise b) as (λ o. (nat_eq t s && option_map_or (is_other_order p) o false)
    ≡ option_map_or (other p) (option_and_then (request_under (identifier s id) t) o) false) [
      | None ↦ and_false (nat_eq t s)
      | Some q ↦ sym (under_is s t id p q e)
    ]

other_at : (r : PlainRecording) (s id : ℕ) (p : Pdu) → request_id_of p.body ≡ Some id → (j : ℕ)
    → option_map_or (sends_other r.setting.exercise p) (own_event r s j) false ≡ option_map_or (other p) (request_at r (identifier s id) j) false
unfolding own_event request_at
other_at r s id p e j =
    elim (slice_get r.entries j) as (λ o. option_map_or (sends_other r.setting.exercise p) (option_and_then (λ y. event_at s (event_of y)) o) false
    ≡ option_map_or (other p) (option_and_then (λ y. request_by r (identifier s id) (event_of y)) o) false) [
      | None ↦ refl
      | Some y ↦ event_other r s id p e (event_of y)
    ]

-- what was used for another order, one entry on
reused_on : (x : ℕ) (p : Pdu) (r : PlainRecording) (s i : ℕ)
    → is_reused x p (log_before r s (suc i)) ≡ (is_reused x p (log_before r s i) || option_map_or (sends_other x p) (own_event r s i) false)
unfolding is_reused
reused_on x p r s i =
    ap (list_any (sends_other x p)) (log_before-more r s i)
    ∙ elim (own_event r s i) as (λ o. list_any (sends_other x p) (option_map_or (λ v. v ∷ log_before r s i) o (log_before r s i))
    ≡ (list_any (sends_other x p) (log_before r s i) || option_map_or (sends_other x p) o false)) [
      | None ↦ sym (or_false (list_any (sends_other x p) (log_before r s i)))
      | Some v ↦ or_comm (sends_other x p v) (list_any (sends_other x p) (log_before r s i))
    ]
  where
    or_comm : (a b : Bool) → (a || b) ≡ (b || a)
    or_comm true true = refl
    or_comm true false = refl
    or_comm false true = refl
    or_comm false false = refl

-- the identifier of p was used for another order at station s before entry n
abbrev used : PlainRecording → ℕ → Pdu → ℕ → Bool
used r s p n = is_reused r.setting.exercise p (log_before r s n)

used_on : (r : PlainRecording) (s id : ℕ) (p : Pdu) → request_id_of p.body ≡ Some id → (n : ℕ)
    → used r s p (suc n) ≡ (used r s p n || option_map_or (other p) (request_at r (identifier s id) n) false)
used_on r s id p e n = reused_on r.setting.exercise p r s n ∙ ap (λ b. used r s p n || b) (other_at r s id p e n)

used_none : (r : PlainRecording) (s : ℕ) (p : Pdu) → used r s p 0 ≡ false
unfolding is_reused
used_none r s p = ap (list_any (sends_other r.setting.exercise p)) (log_before-none r s)

-- the first of them, one entry on
first_on : (r : PlainRecording) (k : Identifier) (n : ℕ)
    → first_request r k (suc n) ≡ option_or (first_request r k n) (if is_some (request_at r k n) then Some n else None)
unfolding first_request first_below
first_on r k n = refl

first_none : (r : PlainRecording) (k : Identifier) → first_request r k 0 ≡ None
unfolding first_request first_below
first_none r k = refl

pub first_is : (r : PlainRecording) (k : Identifier) (n j : ℕ) → first_request r k n ≡ Some j → (j < n) × (is_some (request_at r k j) ≡ true)
unfolding first_request
first_is r k n j e = passes (λ i. is_some (request_at r k i)) n j e

-- a request under an identifier has this identifier
request_has : (r : PlainRecording) (k : Identifier) (j : ℕ) (f : Pdu) → request_at r k j ≡ Some f → request_id_of f.body ≡ Some k.request
unfolding request_at
request_has r k j f =
    elim (slice_get r.entries j) as (λ o. option_and_then (λ e. request_by r k (event_of e)) o ≡ Some f → request_id_of f.body ≡ Some k.request) [
      | None ↦ λ h. absurd (cc)
      | Some e ↦ by_event (event_of e)
    ]
  where
    by_pdu : (t : ℕ) (q : Pdu) → request_under k t q ≡ Some f → request_id_of f.body ≡ Some k.request
    by_pdu t q =
        elim (is_request_body q.body) as (λ b. cond (option_map_or (same_identifier k) (cond b (option_map (identifier t) (request_id_of q.body)) None) false)
        (Some q) None ≡ Some f → request_id_of f.body ≡ Some k.request) [
          | false ↦ λ h. absurd (cc)
          | true ↦ elim (request_id_of q.body) as (λ o. request_id_of q.body ≡ o
              → cond (option_map_or (same_identifier k) (option_map (identifier t) o) false) (Some q) None ≡ Some f → request_id_of f.body ≡ Some k.request) [
                | None ↦ λ _ h. absurd (cc)
                | Some id ↦ λ has. elim (nat_eq k.station t) as (λ b. cond (b && nat_eq k.request id) (Some q) None ≡ Some f
                    → request_id_of f.body ≡ Some k.request) [
                      | false ↦ λ h. absurd (cc)
                      | true ↦ elim (nat_eq k.request id) as (λ b. nat_eq k.request id ≡ b → cond b (Some q) None ≡ Some f
                          → request_id_of f.body ≡ Some k.request) [
                            | false ↦ λ _ h. absurd (cc)
                            | true ↦ λ same h. ap (λ (x : Pdu). request_id_of x.body) (sym (same_Some q f h)) ∙ has
                                ∙ ap (λ n. Some n) (sym (eqb-true k.request id same))
                          ] refl
                    ]
              ] refl
        ]

    by_event : (v : Event) → request_by r k v ≡ Some f → request_id_of f.body ≡ Some k.request
    by_event (Get t b) = λ h. absurd (cc)
    by_event (Tell t e y) = λ h. absurd (cc)
    by_event (Send t b) =
        elim (meaning r.setting.exercise b) as (λ o. option_and_then (request_under k t) o ≡ Some f → request_id_of f.body ≡ Some k.request) [
          | None ↦ λ h. absurd (cc)
          | Some q ↦ by_pdu t q
        ]

-- ---- the same order as the first, or another one

-- an identifier under which nothing was sent was not used
unused : (r : PlainRecording) (s id : ℕ) (p : Pdu) → request_id_of p.body ≡ Some id → (n : ℕ)
    → first_request r (identifier s id) n ≡ None → used r s p n ≡ false
unused r s id p e zero none = used_none r s p
unused r s id p e (suc n) none =
    let k : Identifier = identifier s id in
    elim (first_request r k n) as (λ o. first_request r k n ≡ o → option_or o (if is_some (request_at r k n) then Some n else None) ≡ None
    → used r s p (suc n) ≡ false) [
      | Some j ↦ λ _ h. absurd (cc)
      | None ↦ λ before. elim (request_at r k n) as (λ q. request_at r k n ≡ q → (if is_some q then Some n else None) ≡ None → used r s p (suc n) ≡ false) [
        | Some q ↦ λ _ h. absurd (cc)
        | None ↦ λ here _. used_on r s id p e n ∙ ap (λ b. b || option_map_or (other p) (request_at r k n) false) (unused r s id p e n before)
            ∙ ap (λ o. option_map_or (other p) o false) here
      ] refl
    ] refl (sym (first_on r k n) ∙ none)

-- of two that are the same order
used_beside : (r : PlainRecording) (s id : ℕ) (p f : Pdu) → request_id_of p.body ≡ Some id → request_id_of f.body ≡ Some id
    → is_same_order p f ≡ true → (n : ℕ) → used r s p n ≡ used r s f n
used_beside r s id p f e d same zero = used_none r s p ∙ sym (used_none r s f)
used_beside r s id p f e d same (suc n) =
    let k : Identifier = identifier s id in
    used_on r s id p e n
    ∙ ap (λ b. b || option_map_or (other p) (request_at r k n) false) (used_beside r s id p f e d same n)
    ∙ ap (λ b. used r s f n || b) (elim (request_at r k n) as (λ o. option_map_or (other p) o false ≡ option_map_or (other f) o false) [
      | None ↦ refl
      | Some q ↦ ap not (same_beside p f q same)
    ])
    ∙ sym (used_on r s id f d n)

-- where another order was sent
used_apart : (r : PlainRecording) (s id : ℕ) (p f : Pdu) → request_id_of p.body ≡ Some id → (j : ℕ)
    → request_at r (identifier s id) j ≡ Some f → is_same_order p f ≡ false → (n : ℕ) → j < n → used r s p n ≡ true
used_apart r s id p f e j at apart zero l = absurd (omega arith)
used_apart r s id p f e j at apart (suc n) l =
    let k : Identifier = identifier s id in
    used_on r s id p e n
    ∙ ⊎_elim
    (λ (below : j < n). ap (λ b. b || option_map_or (other p) (request_at r k n) false) (used_apart r s id p f e j at apart n below))
    (λ (past : n ≤ j). let same : j ≡ n = omega arith in
    ap (λ o. used r s p n || option_map_or (other p) o false) (ap (request_at r k) (sym same) ∙ at)
    ∙ ap (λ b. used r s p n || not b) apart ∙ or_true (used r s p n))
    (cases_lt j n)

-- A REQUEST REUSES ITS IDENTIFIER where the first under it was followed by another order, or is another order itself
used_by_first : (r : PlainRecording) (s id : ℕ) (p f : Pdu) → request_id_of p.body ≡ Some id → (n j : ℕ) → j < n
    → request_at r (identifier s id) j ≡ Some f → used r s p n ≡ (used r s f n || other p f)
used_by_first r s id p f e n j l at =
    let k : Identifier = identifier s id in
    elim (is_same_order p f) as (λ b. is_same_order p f ≡ b → used r s p n ≡ (used r s f n || not b)) [
      | true ↦ λ same. used_beside r s id p f e (request_has r k j f at) same n ∙ sym (or_false (used r s f n))
      | false ↦ λ apart. used_apart r s id p f e j at apart n l ∙ sym (or_true (used r s f n))
    ] refl

-- ---- whether an identifier is used for another order than that of its first request, one entry on

mixed_on : (r : PlainRecording) (k : Identifier) (n j : ℕ) (f : Pdu) → request_at r k j ≡ Some f
    → is_mixed r k (suc n) j ≡ (used r k.station f n || option_map_or (other f) (request_at r k n) false)
mixed_on r k n j f at =
    ap (λ o. option_map_or (λ f. used r k.station f (suc n)) o false) at ∙ used_on r k.station k.request f (request_has r k j f at) n

-- an entry that sends nothing under it
mixed_still : (r : PlainRecording) (k : Identifier) (n : ℕ) → request_at r k n ≡ None → mixed_under r k (suc n) ≡ mixed_under r k n
mixed_still r k n none =
    ap (λ o. option_map_or (is_mixed r k (suc n)) o false)
    (first_on r k n ∙ ap (λ o. option_or (first_request r k n) (if is_some o then Some n else None)) none ∙ or_none (first_request r k n))
    ∙ elim (first_request r k n) as (λ o. first_request r k n ≡ o → option_map_or (is_mixed r k (suc n)) o false ≡ option_map_or (is_mixed r k n) o false) [
      | None ↦ λ _. refl
      | Some j ↦ λ first. still j (first_is r k n j first).1
    ] refl
  where
    still : (j : ℕ) → is_some (request_at r k j) ≡ true → is_mixed r k (suc n) j ≡ is_mixed r k n j
    still j there =
        elim (request_at r k j) as (λ o. request_at r k j ≡ o → is_some o ≡ true → is_mixed r k (suc n) j ≡ is_mixed r k n j) [
          | None ↦ λ _ h. absurd (cc)
          | Some f ↦ λ at _. mixed_on r k n j f at ∙ ap (λ o. used r k.station f n || option_map_or (other f) o false) none
              ∙ or_false (used r k.station f n) ∙ sym (ap (λ o. option_map_or (λ f. used r k.station f n) o false) at)
        ] refl there

-- an entry that sends the first request under it
mixed_first : (r : PlainRecording) (k : Identifier) (n : ℕ) (q : Pdu) → request_at r k n ≡ Some q → first_request r k n ≡ None
    → mixed_under r k (suc n) ≡ mixed_under r k n
mixed_first r k n q at none =
    ap (λ o. option_map_or (is_mixed r k (suc n)) o false)
    (first_on r k n ∙ ap (λ o. option_or o (if is_some (request_at r k n) then Some n else None)) none
    ∙ ap (λ o. if is_some o then Some n else None) at)
    ∙ mixed_on r k n n q at
    ∙ ap (λ o. used r k.station q n || option_map_or (other q) o false) at ∙ ap (λ b. used r k.station q n || not b) (same_itself q)
    ∙ or_false (used r k.station q n)
    ∙ unused r k.station k.request q (request_has r k n q at) n none
    ∙ sym (ap (λ o. option_map_or (is_mixed r k n) o false) none)

-- a further one: it is mixed where that one reuses it
mixed_again : (r : PlainRecording) (k : Identifier) (n j : ℕ) (q : Pdu) → request_at r k n ≡ Some q → first_request r k n ≡ Some j
    → mixed_under r k (suc n) ≡ used r k.station q n
mixed_again r k n j q at first =
    ap (λ o. option_map_or (is_mixed r k (suc n)) o false)
    (first_on r k n ∙ ap (λ o. option_or o (if is_some (request_at r k n) then Some n else None)) first)
    ∙ elim (request_at r k j) as (λ o. request_at r k j ≡ o → is_some o ≡ true → is_mixed r k (suc n) j ≡ used r k.station q n) [
      | None ↦ λ _ h. absurd (cc)
      | Some f ↦ λ there _. mixed_on r k n j f there ∙ ap (λ o. used r k.station f n || option_map_or (other f) o false) at
          ∙ ap (λ b. used r k.station f n || not b) (same-comm f q)
          ∙ sym (used_by_first r k.station k.request q f (request_has r k n q at) n j (first_is r k n j first).0 there)
    ] refl (first_is r k n j first).1

-- ---- what is kept, one entry on

-- what a station sends under an identifier is what it sends
sent_own : (r : PlainRecording) (k : Identifier) (j : ℕ) (f : Pdu) → request_at r k j ≡ Some f
    → option_and_then (meant_by_send r.setting.exercise) (own_event r k.station j) ≡ Some f
unfolding request_at own_event
sent_own r k j f =
    elim (slice_get r.entries j) as (λ o. option_and_then (λ e. request_by r k (event_of e)) o ≡ Some f
    → option_and_then (meant_by_send r.setting.exercise) (option_and_then (λ e. event_at k.station (event_of e)) o) ≡ Some f) [
      | None ↦ λ h. absurd (cc)
      | Some e ↦ by_event (event_of e)
    ]
  where
    by_pdu : (t : ℕ) (q : Pdu) (b : List ℕ) → meaning r.setting.exercise b ≡ Some q → request_under k t q ≡ Some f
        → option_and_then (meant_by_send r.setting.exercise) (event_at k.station (Send t b)) ≡ Some f
    by_pdu t q b means h =
        elim (nat_eq t k.station) as (λ c. nat_eq t k.station ≡ c
        → option_and_then (meant_by_send r.setting.exercise) (cond c (Some (Send t b)) None) ≡ Some f) [
          | true ↦ λ _. means ∙ taken (option_map_or (same_identifier k) (identifier_of t q) false) h
          | false ↦ λ far. absurd (cc (sym h ∙ ap (λ c. cond c (Some q) None) (apart far)))
        ] refl
      where
        taken : (c : Bool) → cond c (Some q) None ≡ Some f → Some q ≡ Some f
        taken true = λ h. h
        taken false = λ h. absurd (cc)

        apart : nat_eq t k.station ≡ false → option_map_or (same_identifier k) (identifier_of t q) false ≡ false
        apart far =
            elim (is_request_body q.body) as (λ c. option_map_or (same_identifier k) (cond c (option_map (identifier t) (request_id_of q.body)) None) false
            ≡ false) [
              | false ↦ refl
              | true ↦ elim (request_id_of q.body) as (λ o. option_map_or (same_identifier k) (option_map (identifier t) o) false ≡ false) [
                | None ↦ refl
                | Some id ↦ ap (λ c. c && nat_eq k.request id) (nat_eq-comm k.station t ∙ far)
              ]
            ]

    by_event : (v : Event) → request_by r k v ≡ Some f → option_and_then (meant_by_send r.setting.exercise) (event_at k.station v) ≡ Some f
    by_event (Get t b) = λ h. absurd (cc)
    by_event (Tell t e y) = λ h. absurd (cc)
    by_event (Send t b) =
        elim (meaning r.setting.exercise b) as (λ o. meaning r.setting.exercise b ≡ o → option_and_then (request_under k t) o ≡ Some f
        → option_and_then (meant_by_send r.setting.exercise) (event_at k.station (Send t b)) ≡ Some f) [
          | None ↦ λ _ h. absurd (cc)
          | Some q ↦ λ means h. by_pdu t q b means h
        ] refl

request_here : (r : PlainRecording) (n s : ℕ) (q : Pdu) → IsSendOf r n s q → (k : Identifier) → request_at r k n ≡ request_under k s q
unfolding request_at
request_here r n s q send k =
    ap (option_and_then (λ e. request_by r k (event_of e))) send.at ∙ ap (option_and_then (request_under k s)) send.means

pub itself : (k : Identifier) → same_identifier k k ≡ true
itself k = ap (λ b. b && nat_eq k.request k.request) (eq-eqb k.station k.station refl) ∙ eq-eqb k.request k.request refl

identifier-comm : (k l : Identifier) → same_identifier k l ≡ same_identifier l k
identifier-comm k l =
    ap (λ b. b && nat_eq k.request l.request) (nat_eq-comm k.station l.station) ∙ ap (λ b. nat_eq l.station k.station && b) (nat_eq-comm k.request l.request)

-- the request is at its identifier
pub request_own : (r : PlainRecording) (n s : ℕ) (q : Pdu) (k : Identifier) → IsSendOf r n s q → identifier_of s q ≡ Some k → request_at r k n ≡ Some q
request_own r n s q k send is =
    request_here r n s q send k ∙ ap (λ o. cond (option_map_or (same_identifier k) o false) (Some q) None) is
    ∙ ap (λ b. cond b (Some q) None) (itself k)

-- no entry is a request under an identifier but its own
own_identifier : (r : PlainRecording) (n s : ℕ) (q : Pdu) (l : Identifier) → IsSendOf r n s q → identifier_of s q ≡ Some l
    → (k : Identifier) → asks_at r k n ≡ true → k ≡ l
own_identifier r n s q l send is k asks = (identifier_decides k l).0 (held (same_identifier k l) (sym here ∙ asks))
  where
    here : asks_at r k n ≡ is_some (cond (same_identifier k l) (Some q) None)
    here = ap is_some (request_here r n s q send k ∙ ap (λ o. cond (option_map_or (same_identifier k) o false) (Some q) None) is)

    held : (b : Bool) → is_some (cond b (Some q) None) ≡ true → b ≡ true
    held true h = refl
    held false h = h

-- a request under another identifier
apart_here : (r : PlainRecording) (n s : ℕ) (q : Pdu) (l k : Identifier) → IsSendOf r n s q → identifier_of s q ≡ Some l
    → same_identifier l k ≡ false → request_at r k n ≡ None
apart_here r n s q l k send is apart =
    request_here r n s q send k
    ∙ ap (λ o. cond (option_map_or (same_identifier k) o false) (Some q) None) is
    ∙ ap (λ b. cond b (Some q) None) (identifier-comm k l ∙ apart)

-- an entry that sends no request
requests_none : (r : PlainRecording) (n : ℕ) (requests : Requests) → ((k : Identifier) → request_at r k n ≡ None)
    → AreRequests r n requests → AreRequests r (n + 1) requests
requests_none r n requests none tied = record {
  firsts = kept_still (asks_at r) identifier_hash n requests.firsts (λ k. ap is_some (none k)) tied.firsts;
  mixed = λ k. tied.mixed k ∙ sym (mixed_still r k n (none k)) ∙ ap (mixed_under r k) (sym (add-one n));
}

pub requests_still : (r : PlainRecording) (n s : ℕ) (q : Pdu) (requests : Requests) → IsSendOf r n s q → identifier_of s q ≡ None
    → AreRequests r n requests → AreRequests r (n + 1) requests
requests_still r n s q requests send none tied =
    requests_none r n requests
    (λ k. request_here r n s q send k ∙ ap (λ o. cond (option_map_or (same_identifier k) o false) (Some q) None) none) tied

-- an entry that sends the first request under its identifier
pub requests_first : (r : PlainRecording) (n s : ℕ) (q : Pdu) (l : Identifier) (old : Requests) (kept : Kept) → IsSendOf r n s q
    → identifier_of s q ≡ Some l → first_request r l n ≡ None → IsAppended (identifier_hash l) n old.firsts kept
    → AreRequests r n old → AreRequests r (n + 1) (record old { firsts = kept })
unfolding first_request
requests_first r n s q l old kept send is none behind tied = record {
  firsts = kept_more (asks_at r) identifier_hash n old.firsts kept l (own_identifier r n s q l send is)
      (ap is_some (request_own r n s q l send is)) none behind tied.firsts;
  mixed = λ k. tied.mixed k ∙ sym (on k (same_identifier l k) refl) ∙ ap (mixed_under r k) (sym (add-one n));
}
  where
    on : (k : Identifier) (b : Bool) → same_identifier l k ≡ b → mixed_under r k (suc n) ≡ mixed_under r k n
    on k false apart = mixed_still r k n (apart_here r n s q l k send is apart)
    on k true same =
        subst (λ m. mixed_under r m (suc n) ≡ mixed_under r m n) ((identifier_decides l k).0 same)
        (mixed_first r l n q (request_own r n s q l send is) none)

-- an entry that sends a further one
pub requests_again : (r : PlainRecording) (n s j : ℕ) (q : Pdu) (l : Identifier) (old : Requests) (mixed : Mixed) → IsSendOf r n s q
    → identifier_of s q ≡ Some l → first_request r l n ≡ Some j
    → is_some (get same_identifier mixed l) ≡ is_reused r.setting.exercise q (log_before r l.station n)
    → ((k : Identifier) → same_identifier l k ≡ false → get same_identifier mixed k ≡ get same_identifier old.mixed k)
    → AreRequests r n old → AreRequests r (n + 1) (record old { mixed = mixed })
unfolding first_request
requests_again r n s j q l old mixed send is first here rest tied = record {
  firsts = kept_later (asks_at r) identifier_hash n j old.firsts l (own_identifier r n s q l send is) first tied.firsts;
  mixed = λ k. on k (same_identifier l k) refl ∙ ap (mixed_under r k) (sym (add-one n));
}
  where
    on : (k : Identifier) (b : Bool) → same_identifier l k ≡ b → is_some (get same_identifier mixed k) ≡ mixed_under r k (suc n)
    on k false apart = ap is_some (rest k apart) ∙ tied.mixed k ∙ sym (mixed_still r k n (apart_here r n s q l k send is apart))
    on k true same =
        subst (λ m. is_some (get same_identifier mixed m) ≡ mixed_under r m (suc n)) ((identifier_decides l k).0 same)
        (here ∙ sym (mixed_again r l n j q (request_own r n s q l send is) first))

-- HOW A FURTHER REQUEST USES ITS IDENTIFIER: it reuses it where it is mixed, or where the first is another order
reused_again : (r : PlainRecording) (n s j : ℕ) (q : Pdu) (l : Identifier) (requests : Requests) → IsSendOf r n s q → identifier_of s q ≡ Some l
    → first_request r l n ≡ Some j → AreRequests r n requests
    → is_reused r.setting.exercise q (log_before r l.station n)
    ≡ (is_some (get same_identifier requests.mixed l)
    || option_map_or (other q) (option_and_then (meant_by_send r.setting.exercise) (own_event r l.station j)) false)
reused_again r n s j q l requests send is first tied =
    elim (request_at r l j) as (λ o. request_at r l j ≡ o → is_some o ≡ true → used r l.station q n ≡ (is_some (get same_identifier requests.mixed l)
    || option_map_or (other q) (option_and_then (meant_by_send r.setting.exercise) (own_event r l.station j)) false)) [
      | None ↦ λ _ h. absurd (cc)
      | Some f ↦ λ there _.
          used_by_first r l.station l.request q f (request_has r l n q (request_own r n s q l send is)) n j (first_is r l n j first).0 there
          ∙ ap (λ b. b || other q f) (sym (tied.mixed l ∙ ap (λ o. option_map_or (is_mixed r l n) o false) first
          ∙ ap (λ o. option_map_or (λ f. used r l.station f n) o false) there))
          ∙ ap (λ o. is_some (get same_identifier requests.mixed l) || option_map_or (other q) o false) (sym (sent_own r l j f there))
    ] refl (first_is r l n j first).1

-- where it is mixed
pub reused_mixed : (r : PlainRecording) (n s j : ℕ) (q : Pdu) (l : Identifier) (requests : Requests) → IsSendOf r n s q → identifier_of s q ≡ Some l
    → first_request r l n ≡ Some j → AreRequests r n requests → is_some (get same_identifier requests.mixed l) ≡ true
    → is_reused r.setting.exercise q (log_before r l.station n) ≡ true
reused_mixed r n s j q l requests send is first tied mixed =
    reused_again r n s j q l requests send is first tied
    ∙ ap (λ b. b || option_map_or (other q) (option_and_then (meant_by_send r.setting.exercise) (own_event r l.station j)) false) mixed

-- where it is not
pub reused_unmixed : (r : PlainRecording) (n s j : ℕ) (q : Pdu) (l : Identifier) (requests : Requests) → IsSendOf r n s q → identifier_of s q ≡ Some l
    → first_request r l n ≡ Some j → AreRequests r n requests → is_some (get same_identifier requests.mixed l) ≡ false
    → is_reused r.setting.exercise q (log_before r l.station n)
    ≡ option_map_or (other q) (option_and_then (meant_by_send r.setting.exercise) (own_event r l.station j)) false
reused_unmixed r n s j q l requests send is first tied pure =
    reused_again r n s j q l requests send is first tied
    ∙ ap (λ b. b || option_map_or (other q) (option_and_then (meant_by_send r.setting.exercise) (own_event r l.station j)) false) pure

-- THE FIRST REQUEST UNDER AN IDENTIFIER does not reuse it
pub reused_first : (r : PlainRecording) (n s : ℕ) (q : Pdu) (l : Identifier) → IsSendOf r n s q → identifier_of s q ≡ Some l → first_request r l n ≡ None
    → is_reused r.setting.exercise q (log_before r l.station n) ≡ false
reused_first r n s q l send is none = unused r l.station l.request q (request_has r l n q (request_own r n s q l send is)) n none

-- an entry that is no Send of a PDU
pub requests_pass : (r : PlainRecording) (n : ℕ) (e : Entry) (requests : Requests) → slice_get r.entries n ≡ Some e
    → ((k : Identifier) → request_by r k (event_of e) ≡ None) → AreRequests r n requests → AreRequests r (n + 1) requests
unfolding request_at
requests_pass r n e requests at none tied =
    requests_none r n requests (λ k. ap (option_and_then (λ e. request_by r k (event_of e))) at ∙ none k) tied

pub other_unasked : (r : PlainRecording) (s : ℕ) (b : List ℕ) → meaning r.setting.exercise b ≡ None → (k : Identifier) → request_by r k (Send s b) ≡ None
other_unasked r s b other k = ap (option_and_then (request_under k s)) other

-- before the first entry
pub none_kept : (r : PlainRecording) (requests : Requests) → length requests.firsts.slots.slots ≡ 0 → length requests.firsts.order.items ≡ 0
    → ((k : Identifier) → get same_identifier requests.mixed k ≡ None) → AreRequests r 0 requests
none_kept r requests none empty unmixed = record {
  firsts = kept_none (asks_at r) identifier_hash requests.firsts none empty;
  mixed = λ k. ap is_some (unmixed k) ∙ sym (ap (λ o. option_map_or (is_mixed r k 0) o false) (first_none r k));
}

-- ---- what is looked up

pub first_looked_up : (r : PlainRecording) (n : ℕ) (requests : Requests) (k : Identifier) (o : Option ℕ) → AreRequests r n requests
    → IfSome o (λ e. HasSlot requests.firsts.slots.slots e × (asks_at r k e ≡ true))
    → IfNone o ((e : ℕ) → IsReached requests.firsts.slots.slots (identifier_hash k) e → asks_at r k e ≡ false) → o ≡ first_request r k n
unfolding first_request
first_looked_up r n requests k o tied found absent =
    looked_up (asks_at r) identifier_hash n requests.firsts.slots.slots k (asks_at r k) tied.firsts.first (λ e stands. refl) o found absent
