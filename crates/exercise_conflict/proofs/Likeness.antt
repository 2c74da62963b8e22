-- What is found under the key of a send is the first that is like it.
use Rattle.std.proofs.Common.{◌≡◌, ℕ, ◌+◌, List, length, cond, Bool, true, false, Option, Some, None, refl, sym, ap, ◌∙◌, arith}
use Rattle.std.specs.Prelude.{slice_get, nat_eq, ◌&&◌, unwrap_or, option_map, option_and_then, if◌then◌else◌}
use Rattle.std.specs.Option.{option_map_or}
use Rattle.std.proofs.lemmas.Bool.{eq-eqb, eqb-true}
use Rattle.std.proofs.lemmas.Option.{same_Some}
use Rattle.indexmap.specs.IndexMap.{get}
use Rattle.dis_records.specs.Kind.{kind_code}
use Rattle.siman_pdus.specs.declared.pdu.Pdu.{Pdu}
use Rattle.siman_pdus.specs.Role.{request_id_of}
use Rattle.siman_pdus.specs.Answers.{same_id}
use Rattle.siman_pdus.specs.Same.{same_entity, is_same_order}
use Rattle.siman_pdus.specs.Spelling.{body_kind}
use Rattle.exercise_model.specs.Entry.{Entry, Sent, Received, Told}
use Rattle.exercise_model.specs.Recording.{PlainRecording}
use Rattle.exercise_model.specs.History.{Event, Send, Get, Tell, event_of}
use Rattle.exercise_model.specs.Meaning.{meaning}
use Rattle.exercise_model.specs.Place.{event_at, own_event, first_below}
use Rattle.exercise_findings.specs.Sent.{meant_by_send}
use Rattle.exercise_findings.proofs.Offered.{same_first}
use Rattle.exercise_conflict.specs.declared.nears.Near.{Near}
use Rattle.exercise_conflict.specs.Earlier.{sent_pdu}
use Rattle.exercise_conflict.specs.Clash.{is_near, sends_near_at}
use Rattle.exercise_conflict.specs.Near.{same_near, near_under, near_key, near_by, near_at, has_near, Nears, AreNears}
use Rattle.exercise_conflict.proofs.Tables.{both, nat_eq-comm, none_kept, kept_still, kept_here}

-- ---- one entry more

near_fields : (k l : Near) → k.station ≡ l.station → k.kind ≡ l.kind → k.site ≡ l.site → k.application ≡ l.application → k.entity ≡ l.entity → k.request ≡ l.request → k ≡ l
near_fields k l a b c d e f = rw (a, b, c, d, e, f) refl

near_equal : (k l : Near) → same_near k l ≡ true → k ≡ l
near_equal k l is =
    let one = both _ _ is in
    let two = both _ _ one.1 in
    let three = both _ _ two.1 in
    let four = both _ _ three.1 in
    let five = both _ _ four.1 in
    near_fields k l (eqb-true _ _ one.0) (eqb-true _ _ two.0) (eqb-true _ _ three.0) (eqb-true _ _ four.0) (eqb-true _ _ five.0) (eqb-true _ _ five.1)

six : (a b c d e f g h i j k l : Bool) → a ≡ g → b ≡ h → c ≡ i → d ≡ j → e ≡ k → f ≡ l → (a && (b && (c && (d && (e && f))))) ≡ (g && (h && (i && (j && (k && l)))))
six a b c d e f g h i j k l p q r s t u = rw (p, q, r, s, t, u) refl

near-comm : (k l : Near) → same_near k l ≡ same_near l k
near-comm k l =
    six _ _ _ _ _ _ _ _ _ _ _ _ (nat_eq-comm k.station l.station) (nat_eq-comm k.kind l.kind) (nat_eq-comm k.site l.site)
    (nat_eq-comm k.application l.application) (nat_eq-comm k.entity l.entity) (nat_eq-comm k.request l.request)

pub no_nears : (r : PlainRecording) (nears : Nears) → ((k : Near) → get same_near nears k ≡ None) → AreNears r 0 nears
no_nears r nears none k = none k ∙ sym (none_kept (has_near r k))

pub nears_still : (r : PlainRecording) (n : ℕ) (nears : Nears) → near_at r n ≡ None → AreNears r n nears → AreNears r (n + 1) nears
nears_still r n nears none tied k = kept_still (has_near r k) n _ (ap (λ o. option_map_or (same_near k) o false) none) (tied k)

pub nears_more : (r : PlainRecording) (n kept : ℕ) (near : Near) (old new : Nears) → near_at r n ≡ Some near → kept ≡ unwrap_or (get same_near old near) n
    → ((k : Near) → get same_near new k ≡ (if same_near near k then Some kept else get same_near old k)) → AreNears r n old → AreNears r (n + 1) new
nears_more r n kept near old new at first is tied k =
    let here : has_near r k n ≡ same_near near k = ap (λ o. option_map_or (same_near k) o false) at ∙ near-comm k near in
    is k
    ∙ elim (same_near near k) as (λ q. same_near near k ≡ q → cond q (Some kept) (get same_near old k) ≡ first_below (has_near r k) (n + 1)) [
      | false ↦ λ apart. kept_still (has_near r k) n _ (here ∙ apart) (tied k)
      | true ↦ λ same.
          ap Some first
          ∙ kept_here (has_near r k) n (get same_near old near) (here ∙ same) (tied near ∙ ap (λ x. first_below (has_near r x) n) (near_equal near k same))
    ] refl

-- ---- what is under a key is like it

regrouped : (a b c d e : Bool) → (a && (b && (c && (d && e)))) ≡ (a && ((b && (c && d)) && e))
regrouped true true true d e = refl
regrouped true true false d e = refl
regrouped true false c d e = refl
regrouped false b c d e = refl

-- of one station: by the kind, the receiver and the identifier
near_is : (t : ℕ) (p q : Pdu) (id : ℕ) → request_id_of p.body ≡ Some id
    → option_map_or (same_near (near_under t p id)) (near_key t q) false ≡ is_near p q
near_is t p q id e =
    elim (request_id_of q.body) as (λ o. option_map_or (same_near (near_under t p id)) (option_map (near_under t q) o) false
    ≡ (nat_eq (kind_code (body_kind p.body)) (kind_code (body_kind q.body)) && (same_entity p.target q.target && same_id (Some id) o))) [
      | None ↦ sym (off (nat_eq (kind_code (body_kind p.body)) (kind_code (body_kind q.body))) (same_entity p.target q.target))
      | Some j ↦
          ap (λ b. b && (nat_eq (kind_code (body_kind p.body)) (kind_code (body_kind q.body)) && (nat_eq p.target.site q.target.site
          && (nat_eq p.target.application q.target.application && (nat_eq p.target.entity q.target.entity && nat_eq id j))))) (eq-eqb t t refl)
          ∙ regrouped (nat_eq (kind_code (body_kind p.body)) (kind_code (body_kind q.body))) (nat_eq p.target.site q.target.site)
          (nat_eq p.target.application q.target.application) (nat_eq p.target.entity q.target.entity) (nat_eq id j)
    ]
    ∙ ap (λ o. option_map_or (λ id. nat_eq (kind_code (body_kind p.body)) (kind_code (body_kind q.body)) && (same_entity p.target q.target && same_id (Some id) (request_id_of q.body)))
    o (is_same_order p q)) (sym e)
  where
    off : (a b : Bool) → (a && (b && false)) ≡ false
    off true true = refl
    off true false = refl
    off false b = refl

-- of another station nothing is
near_apart : (t s : ℕ) (p q : Pdu) (id : ℕ) → nat_eq s t ≡ false → option_map_or (same_near (near_under t p id)) (near_key s q) false ≡ false
near_apart t s p q id far =
    elim (request_id_of q.body) as (λ o. option_map_or (same_near (near_under t p id)) (option_map (near_under s q) o) false ≡ false) [
      | None ↦ refl
      | Some j ↦ ap (λ b. b && (nat_eq (kind_code (body_kind p.body)) (kind_code (body_kind q.body)) && (nat_eq p.target.site q.target.site
          && (nat_eq p.target.application q.target.application && (nat_eq p.target.entity q.target.entity && nat_eq id j))))) (nat_eq-comm t s ∙ far)
    ]

sends_near : (r : PlainRecording) (t : ℕ) (p : Pdu) (id : ℕ) → request_id_of p.body ≡ Some id → (i : ℕ) → has_near r (near_under t p id) i ≡ sends_near_at r t p i
unfolding near_at sends_near_at sent_pdu own_event
sends_near r t p id e i =
    elim (slice_get r.entries i) as (λ o. option_map_or (same_near (near_under t p id)) (option_and_then (near_by r) o) false
    ≡ option_map_or (is_near p) (option_and_then (meant_by_send r.setting.exercise) (option_and_then (λ y. event_at t (event_of y)) o)) false) [
      | None ↦ refl
      | Some y ↦ of_entry y
    ]
  where
    idle : (c : Bool) (v : Event) → meant_by_send r.setting.exercise v ≡ None
        → false ≡ option_map_or (is_near p) (option_and_then (meant_by_send r.setting.exercise) (cond c (Some v) None)) false
    idle true v none = sym (ap (λ o. option_map_or (is_near p) o false) none)
    idle false v none = refl

    of_entry : (y : Entry) → option_map_or (same_near (near_under t p id)) (near_by r y) false
        ≡ option_map_or (is_near p) (option_and_then (meant_by_send r.setting.exercise) (event_at t (event_of y))) false
    of_entry (Received s stamp b) = idle (nat_eq s t) (Get s b) refl
    of_entry (Told s m y) = idle (nat_eq s t) (Tell s m y) refl
    of_entry (Sent s stamp b) =
        elim (nat_eq s t) as (λ c. nat_eq s t ≡ c → option_map_or (same_near (near_under t p id)) (option_and_then (near_key s) (meaning r.setting.exercise b)) false
        ≡ option_map_or (is_near p) (option_and_then (meant_by_send r.setting.exercise) (cond c (Some (Send s b)) None)) false) [
          | true ↦ λ same.
              ap (λ k. option_map_or (same_near (near_under t p id)) (option_and_then (near_key k) (meaning r.setting.exercise b)) false) (eqb-true s t same)
              ∙ elim (meaning r.setting.exercise b) as (λ o. option_map_or (same_near (near_under t p id)) (option_and_then (near_key t) o) false
              ≡ option_map_or (is_near p) o false) [
                | None ↦ refl
                | Some q ↦ near_is t p q id e
              ]
          | false ↦ λ far. elim (meaning r.setting.exercise b) as
              (λ o. option_map_or (same_near (near_under t p id)) (option_and_then (near_key s) o) false ≡ false) [
                | None ↦ refl
                | Some q ↦ near_apart t s p q id far
              ]
        ] refl

-- WHAT IS FOUND UNDER THE KEY is the first send that is like it
pub found_near : (r : PlainRecording) (t : ℕ) (p : Pdu) (near : Near) (nears : Nears) → near_key t p ≡ Some near → AreNears r (length r.entries) nears
    → get same_near nears near ≡ first_below (sends_near_at r t p) (length r.entries)
found_near r t p near nears key tied =
    elim (request_id_of p.body) as (λ o. request_id_of p.body ≡ o → option_map (near_under t p) o ≡ Some near
    → get same_near nears near ≡ first_below (sends_near_at r t p) (length r.entries)) [
      | None ↦ λ _ e. absurd (cc)
      | Some id ↦ λ is e.
          ap (get same_near nears) (sym (same_Some (near_under t p id) near e))
          ∙ tied (near_under t p id) ∙ same_first _ _ (sends_near r t p id is) (length r.entries)
    ] refl key
