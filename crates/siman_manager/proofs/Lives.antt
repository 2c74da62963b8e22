-- What is kept of each order is what its life comes to.
use Rattle.std.proofs.Common.{◌≡◌, ℕ, ◌+◌, ◌-◌, ◌≤◌, List, length, refl, ap, sym, ◌∙◌, arith, add-one, eq-eqb}
use Rattle.std.specs.Prelude.{Bool, true, false, ◌&&◌, ◌==◌, nat_le, nat_lt, slice_get, Option, Some, None, option_map, if◌then◌else◌}
use Rattle.std.proofs.lemmas.Bool.Decides.{nat_tests}
use Rattle.siman_pdus.specs.declared.pdu.Body.{Body}
use Rattle.siman_pdus.specs.declared.pdu.Body.TheVariants.{CreateEntity, RemoveEntity, StartResume, StopFreeze, Acknowledge, ActionRequest, ActionResponse, DataQuery, SetData, DataPdu, EventReport, Comment}
use Rattle.siman_pdus.specs.declared.pdu.Pdu.{Pdu}
use Rattle.siman_pdus.specs.declared.roles.Role.TheVariants as roles
use Rattle.siman_pdus.specs.Answers.{is_answer_to, same_id}
use Rattle.siman_pdus.specs.Role.{request_id_of, is_request_body, is_request_role, is_acknowledge_flag}
use Rattle.siman_manager.specs.declared.kept.MadeOrder.{MadeOrder}
use Rattle.siman_manager.specs.declared.kept.OrderStanding.TheVariants as standings
use Rattle.siman_manager.specs.declared.settings.Settings.{Settings}
use Rattle.siman_manager.specs.Book.{numbered, after_take, after_tick, order_of, settled, settled_if, settled_under, settles, is_ready, looked_at, resent}
use Rattle.siman_manager.specs.Calls.{Life, life_ticked, made_order, none_before, passes, is_ready_at, is_due_at, settles_order, with_standing, with_send}
use Rattle.siman_manager.proofs.Places.{slice_get-changed_through, slice_get-set_at, none_before-same}
use Rattle.siman_manager.proofs.Taking.{if_true, nat_le-true}

-- A request has the identifier that it was given.

acknowledge_is_no_request : (b : Bool) → is_request_role (if b then roles.Answer else roles.Outside) ≡ true → (X : Type 0) → X
acknowledge_is_no_request true e X = absurd cc
acknowledge_is_no_request false e X = absurd cc

pub id-numbered : (id : ℕ) (body : Body) → is_request_body body ≡ true → request_id_of (numbered id body) ≡ Some id
id-numbered id (CreateEntity m) e = refl
id-numbered id (RemoveEntity m) e = refl
id-numbered id (StartResume r t m) e = refl
id-numbered id (StopFreeze r t u m) e = refl
id-numbered id (Acknowledge flag response m) e = acknowledge_is_no_request (is_acknowledge_flag flag) e _
id-numbered id (ActionRequest m a d) e = refl
id-numbered id (ActionResponse m a d) e = absurd cc
id-numbered id (DataQuery m i d) e = refl
id-numbered id (SetData m d) e = refl
id-numbered id (DataPdu m d) e = absurd cc
id-numbered id (EventReport v d) e = absurd cc
id-numbered id (Comment d) e = absurd cc

-- An answer has the identifier of what it answers.

middle-true : (a b c : Bool) → (a && (b && c)) ≡ true → b ≡ true
middle-true true true c e = refl
middle-true true false c e = absurd cc
middle-true false b c e = absurd cc

pub eq-true : (m n : ℕ) → (m == n) ≡ true → m ≡ n
eq-true m n e = grind (arith, nat_tests)

same_id-true : (o u : Option ℕ) → same_id o u ≡ true → o ≡ u
same_id-true None u e = absurd cc
same_id-true (Some m) None e = absurd cc
same_id-true (Some m) (Some n) e = ap (λ (i : ℕ). Some i) (eq-true m n e)

pub answer_id : (p q : Pdu) → is_answer_to p q ≡ true → request_id_of p.body ≡ request_id_of q.body
answer_id p q e = same_id-true (request_id_of p.body) (request_id_of q.body) (middle-true _ _ _ e)

-- Taking a PDU does to each order what its own test says.

if_not : {X : Type 0} (b : Bool) (x y : X) → (b ≡ true → ⊥) → (if b then x else y) ≡ y
if_not true x y h = absurd (h refl)
if_not false x y h = refl

mapped_same : {X : Type 0} (f : X → X) (o : Option X) → ((x : X) → o ≡ Some x → f x ≡ x) → o ≡ option_map f o
mapped_same f None h = refl
mapped_same f (Some x) h = ap (λ z. Some z) (sym (h x refl))

abbrev pub Numbered : Settings → List MadeOrder → Type 0
Numbered s orders = (k : ℕ) (x : MadeOrder) → slice_get orders k ≡ Some x → request_id_of x.pdu.body ≡ Some (s.first_id + k)

answered_id : (s : Settings) (p : Pdu) (orders : List MadeOrder) → Numbered s orders → (id k : ℕ) (x : MadeOrder) → request_id_of p.body ≡ Some id
    → slice_get orders k ≡ Some x → is_answer_to p x.pdu ≡ true → id ≡ s.first_id + k
answered_id s p orders numbers id k x r at e =
    let same : Some id ≡ Some (s.first_id + k) = sym r ∙ answer_id p x.pdu e ∙ numbers k x at in cc

pub order_of-place : (s : Settings) (orders : List MadeOrder) (k : ℕ) → order_of s orders (s.first_id + k) ≡ slice_get orders k
order_of-place s orders k =
    let back : s.first_id + k - s.first_id ≡ k = omega arith in
    if_true (nat_le s.first_id (s.first_id + k)) (slice_get orders (s.first_id + k - s.first_id)) None (nat_le-true s.first_id (s.first_id + k) (omega arith))
    ∙ ap (slice_get orders) back

-- an order that is known by its identifier stands at its place
pub order_of-low : (s : Settings) (orders : List MadeOrder) (id : ℕ) (y : MadeOrder) → order_of s orders id ≡ Some y
    → (s.first_id ≤ id) × (slice_get orders (id - s.first_id) ≡ Some y)
order_of-low s orders id y e = low (nat_le s.first_id id) refl e where
  low : (b : Bool) → nat_le s.first_id id ≡ b → (if b then slice_get orders (id - s.first_id) else None) ≡ Some y → (s.first_id ≤ id) × (slice_get orders (id - s.first_id) ≡ Some y)
  low true t u = (grind (arith, nat_tests), u)
  low false t u = absurd cc

settled_place : (s : Settings) (p : Pdu) (orders : List MadeOrder) → Numbered s orders → (id : ℕ) → request_id_of p.body ≡ Some id
    → (o : Option MadeOrder) → order_of s orders id ≡ o → (k : ℕ)
    → slice_get (settled_if (id - s.first_id) p orders o) k ≡ option_map (settled p) (slice_get orders k)
settled_place s p orders numbers id r None e k =
    mapped_same (settled p) (slice_get orders k) (λ x at. if_not (is_answer_to p x.pdu) _ x (λ a.
    let here : id ≡ s.first_id + k = answered_id s p orders numbers id k x r at a in
    let known : None ≡ Some x = sym e ∙ ap (order_of s orders) here ∙ order_of-place s orders k ∙ at in cc))
settled_place s p orders numbers id r (Some y) e k =
    let known : (s.first_id ≤ id) × (slice_get orders (id - s.first_id) ≡ Some y) = order_of-low s orders id y e in
    slice_get-set_at orders (id - s.first_id) y (settled p y) k known.1 ∙ at_or_beside (k == id - s.first_id) refl known.0 known.1
  where
    at_or_beside : (b : Bool) → (k == id - s.first_id) ≡ b → s.first_id ≤ id → slice_get orders (id - s.first_id) ≡ Some y →
        (if b then Some (settled p y) else slice_get orders k) ≡ option_map (settled p) (slice_get orders k)
    at_or_beside true t low at = sym (ap (λ (i : ℕ). option_map (settled p) (slice_get orders i)) (eq-true k (id - s.first_id) t) ∙ ap
        (option_map (settled p)) at)
    at_or_beside false t low at =
        mapped_same (settled p) (slice_get orders k) (λ x here. if_not (is_answer_to p x.pdu) _ x (λ a.
        let place : id ≡ s.first_id + k = answered_id s p orders numbers id k x r here a in
        let same : k ≡ id - s.first_id = omega arith in
        let true_too : (k == id - s.first_id) ≡ true = eq-eqb k (id - s.first_id) same in
        let clash : true ≡ false = sym true_too ∙ t in cc))

settled_by_id : (s : Settings) (p : Pdu) (orders : List MadeOrder) → Numbered s orders → (r : Option ℕ) → request_id_of p.body ≡ r
    → (k : ℕ) → slice_get (settled_under s p orders r) k ≡ option_map (settled p) (slice_get orders k)
settled_by_id s p orders numbers None e k =
    mapped_same (settled p) (slice_get orders k) (λ x at. if_not (is_answer_to p x.pdu) _ x (λ a.
    let clash : None ≡ Some (s.first_id + k) = sym e ∙ answer_id p x.pdu a ∙ numbers k x at in cc))
settled_by_id s p orders numbers (Some id) e k = settled_place s p orders numbers id e (order_of s orders id) refl k

pub taken_each : (s : Settings) (p : Pdu) (orders : List MadeOrder) → Numbered s orders → (k : ℕ)
    → slice_get (after_take s p orders) k ≡ option_map (λ x. if p.exercise == s.exercise then settled p x else x) (slice_get orders k)
taken_each s p orders numbers k =
    elim (p.exercise == s.exercise) as (λ b. slice_get (if b then settled_under s p orders (request_id_of p.body) else orders) k ≡ option_map
    (λ x. if b then settled p x else x) (slice_get orders k))
    [ true ↦ settled_by_id s p orders numbers (request_id_of p.body) refl k | false ↦ mapped_same (λ x. x) (slice_get orders k) (λ x e. refl) ]

-- The kept orders and the lives, step by step.

abbrev pub Agree : List MadeOrder → (ℕ → Option Life) → Type 0
Agree orders lives = (k : ℕ) → slice_get orders k ≡ option_map made_order (lives k)

abbrev pub NumberedLives : Settings → (ℕ → Option Life) → Type 0
NumberedLives s lives = (k : ℕ) (l : Life) → lives k ≡ Some l → request_id_of l.order.body ≡ Some (s.first_id + k)

pub numbered_kept : (s : Settings) (orders : List MadeOrder) (lives : ℕ → Option Life) → Agree orders lives → NumberedLives s lives
    → Numbered s orders
numbered_kept s orders lives agree numbers k x at = from (lives k) refl where
  from : (o : Option Life) → lives k ≡ o → request_id_of x.pdu.body ≡ Some (s.first_id + k)
  from None e = let clash : None ≡ Some x = sym (agree k ∙ ap (option_map made_order) e) ∙ at in cc
  from (Some l) e =
      let same : Some (made_order l) ≡ Some x = sym (agree k ∙ ap (option_map made_order) e) ∙ at in
      let is : x ≡ made_order l = cc in
      ap (λ (z : MadeOrder). request_id_of z.pdu.body) is ∙ numbers k l e

three_tests : {X Y : Type 0} (f : X → Y) (a b d : Bool) (x y : X)
    → (if a then (if b then (if d then f x else f y) else f y) else f y) ≡ f (if (if a then (if b then d else false) else false) then x else y)
three_tests f true true true x y = refl
three_tests f true true false x y = refl
three_tests f true false d x y = refl
three_tests f false b d x y = refl

pub came_agrees : (s : Settings) (p : Pdu) (orders : List MadeOrder) (lives : ℕ → Option Life) → Agree orders lives → NumberedLives s lives
    → Agree (after_take s p orders) (λ k. option_map (λ l. if settles_order s l.order p then with_standing standings.Answered l else l) (lives k))
came_agrees s p orders lives agree numbers k =
    taken_each s p orders (numbered_kept s orders lives agree numbers) k ∙ ap
    (option_map (λ (x : MadeOrder). if p.exercise == s.exercise then settled p x else x)) (agree k) ∙ each (lives k)
  where
    each : (o : Option Life) → option_map (λ (x : MadeOrder). if p.exercise == s.exercise then settled p x else x) (option_map made_order o)
        ≡ option_map made_order (option_map (λ (l : Life). if settles_order s l.order p then with_standing standings.Answered l else l) o)
    each None = refl
    each (Some l) = ap (λ z. Some z) (three_tests made_order (p.exercise == s.exercise) (is_answer_to p l.order) (settles p.body)
        (with_standing standings.Answered l) l)

-- a tick does to what is kept what it does to the life
made_order-ticked : (s : Settings) (now stamp : ℕ) (l : Life) (reached : Bool)
    → (if reached then looked_at s now stamp (made_order l) else made_order l) ≡ made_order (if reached then life_ticked s now stamp l else l)
made_order-ticked s now stamp l false = refl
made_order-ticked s now stamp l true = tested (is_due_at s now l) (nat_lt (length l.sends) s.tries) where
  tested : (due fewer : Bool) → (if due then (if fewer then resent now stamp (made_order l) else record (made_order l) { standing = standings.GivenUp }) else made_order l)
      ≡ made_order (if due then (if fewer then with_send now stamp l else with_standing standings.GivenUp l) else l)
  tested true true = ap (λ (n : ℕ). let k : MadeOrder = made_order (with_send now stamp l) in record k { sends = n }) (add-one (length l.sends))
  tested true false = refl
  tested false fewer = refl

pub passes-agree : (s : Settings) (now : ℕ) (o : Option Life) → passes (is_ready s now) (option_map made_order o) ≡ passes (is_ready_at s now) o
passes-agree s now None = refl
passes-agree s now (Some l) = refl

pub ticked_agrees : (s : Settings) (now stamp : ℕ) (orders : List MadeOrder) (lives : ℕ → Option Life) → Agree orders lives
    → Agree (after_tick s now stamp orders) (λ k. option_map
    (λ l. if none_before (λ j. passes (is_ready_at s now) (lives j)) k then life_ticked s now stamp l else l) (lives k))
ticked_agrees s now stamp orders lives agree k =
    slice_get-changed_through (is_ready s now) (looked_at s now stamp) orders k
    ∙ ap (λ (b : Bool). option_map (λ (x : MadeOrder). if b then looked_at s now stamp x else x) (slice_get orders k))
    (none_before-same (λ j. passes (is_ready s now) (slice_get orders j)) (λ j. passes (is_ready_at s now) (lives j))
    (λ j. ap (passes (is_ready s now)) (agree j) ∙ passes-agree s now (lives j)) k)
    ∙ ap (option_map (λ (x : MadeOrder). if none_before (λ j. passes (is_ready_at s now) (lives j)) k then looked_at s now stamp x else x)) (agree k) ∙ each
    (none_before (λ j. passes (is_ready_at s now) (lives j)) k) (lives k)
  where
    each : (b : Bool) (o : Option Life) → option_map (λ (x : MadeOrder). if b then looked_at s now stamp x else x) (option_map made_order o) ≡ option_map made_order
        (option_map (λ (l : Life). if b then life_ticked s now stamp l else l) o)
    each b None = refl
    each b (Some l) = ap (λ z. Some z) (made_order-ticked s now stamp l b)
