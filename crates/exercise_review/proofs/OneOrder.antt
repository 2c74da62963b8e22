-- A request identifier of a station stands for one order in every run, and an order is what its head sends.
use Rattle.std.proofs.Common.{◌≡◌, ⊎_elim, ℕ, ◌<◌, ◌≤◌, List, length, cond, Bool, true, false, Option, Some, None, refl, sym, ap, ◌∙◌, subst}
use Rattle.std.specs.Prelude.{◌⊎◌, nat_eq, slice_get, is_some, not, ◌&&◌, option_map, option_and_then, if◌then◌else◌}
use Rattle.std.specs.Option.{option_map_or}
use Rattle.std.specs.List.{list_any}
use Rattle.std.proofs.lemmas.Bool.{eqb-true, eq-eqb, cases_lt}
use Rattle.std.proofs.lemmas.Option.{same_Some}
use Rattle.siman_pdus.specs.declared.pdu.Pdu.{Pdu}
use Rattle.siman_pdus.specs.Role.{is_request_body, request_id_of}
use Rattle.siman_pdus.specs.Answers.{same_id}
use Rattle.siman_pdus.specs.Same.{is_same_order}
use Rattle.siman_pdus.proofs.Offered.{order_decides}
use Rattle.exercise_model.specs.Entry.{Entry, Sent, Received, Told}
use Rattle.exercise_model.specs.Recording.{PlainRecording}
use Rattle.exercise_model.specs.History.{Send, History, log_at}
use Rattle.exercise_model.specs.Meaning.{meaning}
use Rattle.exercise_model.specs.Cause.{is_other_order, sends_other, is_reused}
use Rattle.exercise_model.specs.Place.{first_below}
use Rattle.exercise_model.specs.Run.{Explains, Contains}
use Rattle.exercise_model.proofs.Offered.{any_at, first_found, in_order, sent_rows}
use Rattle.exercise_review.specs.Order.{OrderData, sends_order, sent_head, received_head, head_of_entry, head_of, made_by, order_of_entry, order_at}
use Rattle.exercise_review.proofs.Runs.{none_passes}
use Rattle.exercise_review.proofs.Heard.{allowed_at}

-- ---- the same order

pub same_back : (p q : Pdu) → is_same_order p q ≡ true → is_same_order q p ≡ true
same_back p q same =
    (order_decides q p).1 (sym (ap (λ (x : Pdu). record x { stamp = q.stamp; status = q.status }) ((order_decides p q).0 same)))

pub same_itself : (p : Pdu) → is_same_order p p ≡ true
same_itself p = (order_decides p p).1 refl

pub ids_same : (a b c : Option ℕ) → same_id a b ≡ true → same_id a c ≡ true → same_id b c ≡ true
ids_same None b c e f = absurd (cc)
ids_same (Some x) None c e f = absurd (cc)
ids_same (Some x) (Some y) None e f = absurd (cc)
ids_same (Some x) (Some y) (Some z) e f = eq-eqb y z (sym (eqb-true x y e) ∙ eqb-true x z f)

and_false : (b c : Bool) → b ≡ true → (b && c) ≡ false → c ≡ false
and_false true c e h = h
and_false false c e h = absurd (cc)

-- what a station sends under an identifier is the order that it sent under it before
later_same : (r : PlainRecording) (h c d : History) (s : ℕ) (a b : List ℕ) (p q : Pdu) → Explains r h → Contains h d (Send s b) → Contains d c (Send s a)
    → meaning r.setting.exercise a ≡ Some p → meaning r.setting.exercise b ≡ Some q → is_request_body p.body ≡ true → is_request_body q.body ≡ true
    → same_id (request_id_of q.body) (request_id_of p.body) ≡ true → is_same_order q p ≡ true
unfolding is_reused
later_same r h c d s a b p q explains here before means meant first second same =
    let x = r.setting.exercise in
    let rows = sent_rows r d s b q (allowed_at r.setting h d (Send s b) explains.run here) meant in
    let fresh : list_any (sends_other x q) (log_at s d) ≡ false = and_false (is_request_body q.body) (list_any (sends_other x q) (log_at s d)) second rows.1.0 in
    elim (is_same_order q p) as (λ t. is_same_order q p ≡ t → t ≡ true) [
      | true ↦ λ _. refl
      | false ↦ λ other.
          let sends : sends_other x q (Send s a) ≡ true =
          ap (λ o. option_map_or (is_other_order q) o false) means
          ∙ ap (λ t. t && (same_id (request_id_of q.body) (request_id_of p.body) && not (is_same_order q p))) first
          ∙ ap (λ t. t && not (is_same_order q p)) same ∙ ap not other in
          let any : list_any (sends_other x q) (log_at s d) ≡ true =
          subst (λ l. list_any (sends_other x q) (log_at s l) ≡ true) before.1 (any_at (sends_other x q) (Send s a) before.0 c sends) in
          absurd (cc (fresh, any))
    ] refl

same_bytes : (s : ℕ) (a b : List ℕ) → Send s a ≡ Send s b → a ≡ b
same_bytes s a b e = cc

-- AN IDENTIFIER STANDS FOR ONE ORDER
pub one_order : (r : PlainRecording) (h c d : History) (s : ℕ) (a b : List ℕ) (p q : Pdu) → Explains r h → Contains h c (Send s a) → Contains h d (Send s b)
    → meaning r.setting.exercise a ≡ Some p → meaning r.setting.exercise b ≡ Some q → is_request_body p.body ≡ true → is_request_body q.body ≡ true
    → same_id (request_id_of p.body) (request_id_of q.body) ≡ true → same_id (request_id_of q.body) (request_id_of p.body) ≡ true → is_same_order p q ≡ true
one_order r h c d s a b p q explains one other means meant first second same back =
    ⊎_elim
    (λ (before : Contains d c (Send s a)). same_back q p (later_same r h c d s a b p q explains other before means meant first second back))
    (λ (rest : ((c ≡ d) × (Send s a ≡ Send s b)) ⊎ Contains c d (Send s b)).
    ⊎_elim
    (λ (here : (c ≡ d) × (Send s a ≡ Send s b)).
    subst (λ (x : Pdu). is_same_order p x ≡ true)
    (same_Some p q (sym means ∙ ap (meaning r.setting.exercise) (same_bytes s a b here.1) ∙ meant)) (same_itself p))
    (λ (after : Contains c d (Send s b)). later_same r h d c s b a q p explains one after meant means second first same)
    rest)
    (in_order h c d (Send s a) (Send s b) one other)

-- ---- the head of an order

-- the first that passes comes no later than one that does
pub no_later : (test : ℕ → Bool) (n i k : ℕ) → first_below test n ≡ Some i → test k ≡ true → i ≤ k
no_later test n i k first passes =
    ⊎_elim
    (λ (less : k < i). absurd (none_passes test i k (ap is_some (first_found test n i first).none) less passes))
    (λ (from : i ≤ k). from)
    (cases_lt k i)

-- the order that station s made at entry i
pub record IsOrderOf (r : PlainRecording) (i s : ℕ) (o : OrderData) : Type 0 where
  pub head : o.head ≡ i
  pub stamp : ℕ
  pub bytes : List ℕ
  pub at : slice_get r.entries i ≡ Some (Sent s stamp bytes)
  pub meant : meaning r.setting.exercise bytes ≡ Some o.request
  pub request : is_request_body o.request.body ≡ true
  pub first : first_below (sends_order r s o.request) (length r.entries) ≡ Some i

pub order_made : (r : PlainRecording) (i s : ℕ) (o : OrderData) → order_at r i ≡ Some o → o.maker ≡ Some s → IsOrderOf r i s o
unfolding order_at head_of
order_made r i s o order maker =
    elim (slice_get r.entries i) as (λ e. slice_get r.entries i ≡ e
    → (if same_id (option_and_then (head_of_entry r) e) (Some i) then option_and_then (order_of_entry r i) e else None) ≡ Some o → IsOrderOf r i s o) [
      | None ↦ λ _ h. absurd (cc)
      | Some e ↦ λ at h. of_entry e at h
    ] refl order
  where
    found : (x : Option ℕ) (y : Option OrderData) → (if same_id x (Some i) then y else None) ≡ Some o → (x ≡ Some i) × (y ≡ Some o)
    found None y h = absurd (cc)
    found (Some k) y h =
        elim (nat_eq k i) as (λ b. nat_eq k i ≡ b → cond b y None ≡ Some o → (Some k ≡ Some i) × (y ≡ Some o)) [
          | true ↦ λ same h. (ap Some (eqb-true k i same), h)
          | false ↦ λ same h. absurd (cc)
        ] refl h

    of_made : (t stamp : ℕ) (b : List ℕ) → slice_get r.entries i ≡ Some (Sent t stamp b) → (p : Pdu) → meaning r.setting.exercise b ≡ Some p
        → is_request_body p.body ≡ true → first_below (sends_order r t p) (length r.entries) ≡ Some i → IsOrderOf r i t (made_by i (Some t) p)
    of_made t stamp b at p meant request first = record { head = refl; stamp = stamp; bytes = b; at = at; meant = meant; request = request; first = first }

    of_request : (t stamp : ℕ) (b : List ℕ) → slice_get r.entries i ≡ Some (Sent t stamp b) → (p : Pdu) → meaning r.setting.exercise b ≡ Some p
        → (q : Bool) → is_request_body p.body ≡ q
        → (if same_id (cond q (first_below (sends_order r t p) (length r.entries)) None) (Some i) then Some (made_by i (Some t) p) else None) ≡ Some o
        → IsOrderOf r i s o
    of_request t stamp b at p meant false is h = absurd (cc)
    of_request t stamp b at p meant true is h =
        let both = found (first_below (sends_order r t p) (length r.entries)) (Some (made_by i (Some t) p)) h in
        let same : made_by i (Some t) p ≡ o = same_Some (made_by i (Some t) p) o both.1 in
        let own : t ≡ s = same_Some t s (ap (λ (x : OrderData). x.maker) same ∙ maker) in
        subst (IsOrderOf r i s) same (subst (λ k. IsOrderOf r i k (made_by i (Some t) p)) own (of_made t stamp b at p meant is both.0))

    of_sent : (t stamp : ℕ) (b : List ℕ) → slice_get r.entries i ≡ Some (Sent t stamp b) → (m : Option Pdu) → meaning r.setting.exercise b ≡ m
        → (if same_id (option_and_then (sent_head r t) m) (Some i) then option_map (made_by i (Some t)) m else None) ≡ Some o → IsOrderOf r i s o
    of_sent t stamp b at None meant h = absurd (cc)
    of_sent t stamp b at (Some p) meant h = of_request t stamp b at p meant (is_request_body p.body) refl h

    of_got : (m : Option Pdu) (x : Option ℕ) → (if same_id x (Some i) then option_map (made_by i None) m else None) ≡ Some o → IsOrderOf r i s o
    of_got None x h = let never = (found x None h).1 in absurd (cc)
    of_got (Some p) x h =
        let same : made_by i None p ≡ o = same_Some (made_by i None p) o (found x (Some (made_by i None p)) h).1 in
        let none : None ≡ Some s = ap (λ (x : OrderData). x.maker) same ∙ maker in
        absurd (cc)

    of_entry : (e : Entry) → slice_get r.entries i ≡ Some e → (if same_id (head_of_entry r e) (Some i) then order_of_entry r i e else None) ≡ Some o
        → IsOrderOf r i s o
    of_entry (Sent t stamp b) at h = of_sent t stamp b at (meaning r.setting.exercise b) refl h
    of_entry (Received t stamp b) at h = of_got (meaning r.setting.exercise b) (option_and_then (received_head r) (meaning r.setting.exercise b)) h
    of_entry (Told t e y) at h = absurd (cc)
