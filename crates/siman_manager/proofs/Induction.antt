-- The kept orders agree with the lives over every list of calls, and each order is as it was made.
use Rattle.std.proofs.Common.{◌≡◌, ℕ, suc, ◌-◌, ◌^◌, List, [], ◌∷◌, length, refl, ap, sym, ◌∙◌, subst, length-append, length-set}
use Rattle.std.specs.Prelude.{Bool, true, false, ◌==◌, nat_le, nat_lt, slice_get, Option, Some, None, option_map, IsTrue, if◌then◌else◌}
use Rattle.std.proofs.lemmas.Bool.{leb-true, ltb-true}
use Rattle.dis_records.specs.declared.header.TheConstants.{LARGEST_DATAGRAM}
use Rattle.siman_pdus.specs.declared.pdu.Pdu.{Pdu}
use Rattle.siman_pdus.specs.Role.{request_id_of, is_request_body}
use Rattle.siman_pdus.specs.Spelling.{pdu_size}
use Rattle.siman_manager.specs.declared.fault.OrderFault.{OrderFault}
use Rattle.siman_manager.specs.declared.fault.OrderFault.TheVariants as faults
use Rattle.siman_manager.specs.declared.kept.MadeOrder.{MadeOrder}
use Rattle.siman_manager.specs.declared.kept.OrderStanding.TheVariants as standings
use Rattle.siman_manager.specs.declared.order.Order.{Order}
use Rattle.siman_manager.specs.declared.settings.Settings.{Settings}
use Rattle.siman_manager.specs.Book.{order_pdu, new_order, next_id, refusal, after_request, after_take, changed_through, order_of, settled_if, settled_under, is_ready, looked_at}
use Rattle.siman_manager.specs.Calls.{Call, Requested, Came, Ticked, AreRequests, kept, count_made, one_more, Life, life, life_made, life_ticked, made_order, none_before, passes, is_ready_at, is_due_at, settles_order, with_standing, with_send, IsOrder}
use Rattle.siman_manager.proofs.Places.{slice_get-append_one}
use Rattle.siman_manager.proofs.Lives.{Agree, NumberedLives, id-numbered, came_agrees, ticked_agrees, eq-true}

-- Counts.

length-changed_through : {X : Type 0} (p : X → Bool) (f : X → X) (xs : List X) → length (changed_through p f xs) ≡ length xs
length-changed_through p f [] = refl
length-changed_through p f (x ∷ xs) =
    ap suc (elim (p x) as (λ b. length (if b then xs else changed_through p f xs) ≡ length xs) [ true ↦ refl | false ↦ length-changed_through p f xs ])

length-settled_if : (i : ℕ) (p : Pdu) (orders : List MadeOrder) (o : Option MadeOrder) → length (settled_if i p orders o) ≡ length orders
length-settled_if i p orders None = refl
length-settled_if i p orders (Some k) = simp length-set

length-settled_under : (s : Settings) (p : Pdu) (orders : List MadeOrder) (r : Option ℕ) → length (settled_under s p orders r) ≡ length orders
length-settled_under s p orders None = refl
length-settled_under s p orders (Some id) = length-settled_if (id - s.first_id) p orders (order_of s orders id)

length-after_take : (s : Settings) (p : Pdu) (orders : List MadeOrder) → length (after_take s p orders) ≡ length orders
length-after_take s p orders =
    elim (p.exercise == s.exercise) as (λ b. length (if b then settled_under s p orders (request_id_of p.body) else orders) ≡ length orders)
    [ true ↦ length-settled_under s p orders (request_id_of p.body) | false ↦ refl ]

length-after_request : (r : Option OrderFault) (s : Settings) (order : Order) (now stamp : ℕ) (orders : List MadeOrder)
    → length (after_request r s order now stamp orders) ≡ one_more r (length orders)
length-after_request (Some fault) s order now stamp orders = refl
length-after_request None s order now stamp orders = length-append orders _

pub counts : (s : Settings) (past : List Call) → length (kept s past) ≡ count_made s past
counts s [] = refl
counts s (Requested order now stamp ∷ past) =
    length-after_request (refusal s (length (kept s past)) order stamp) s order now stamp (kept s past) ∙ ap (λ (n : ℕ). one_more (refusal s n order stamp) n)
    (counts s past)
counts s (Came p ∷ past) = length-after_take s p (kept s past) ∙ counts s past
counts s (Ticked now stamp ∷ past) = length-changed_through (is_ready s now) (looked_at s now stamp) (kept s past) ∙ counts s past

-- Each order is as it was made.

pub both_true : {X : Type 0} (a b : Bool) (x y : X) → (if a then (if b then None else Some x) else Some y) ≡ None → (a ≡ true) × (b ≡ true)
both_true true true x y e = (refl, refl)
both_true true false x y e = absurd cc
both_true false b x y e = absurd cc

made_is_order : (s : Settings) (n : ℕ) (order : Order) (stamp : ℕ) → refusal s n order stamp ≡ None → IsTrue (is_request_body order.body)
    → IsOrder s n (order_pdu s (next_id s n) order stamp)
made_is_order s n order stamp e is_request =
    let within : (nat_lt (next_id s n) (2 ^ 32) ≡ true) × (nat_le
    (pdu_size (order_pdu s (next_id s n) order stamp)) LARGEST_DATAGRAM ≡ true) = both_true _ _ faults.TooLong faults.IdsSpent e in
    record {
      id = id-numbered (next_id s n) order.body is_request;
      below = ltb-true (next_id s n) (2 ^ 32) within.0;
      size = leb-true (pdu_size (order_pdu s (next_id s n) order stamp)) LARGEST_DATAGRAM within.1;
      exercise = refl;
      origin = refl;
    }

pub mapped_from : {X Y : Type 0} (f : X → Y) (o : Option X) (y : Y) → option_map f o ≡ Some y → (x : X) × (o ≡ Some x) × (y ≡ f x)
mapped_from f None y e = absurd cc
mapped_from f (Some x) y e = (x, refl, cc)

order_kept : (s : Settings) (k : ℕ) (f : Life → Life) (o : Option Life) → ((l : Life) → (f l).order ≡ l.order)
    → ((l : Life) → o ≡ Some l → IsOrder s k l.order)
    → (l : Life) → option_map f o ≡ Some l → IsOrder s k l.order
order_kept s k f o same are l e =
    let from : (x : Life) × (o ≡ Some x) × (l ≡ f x) = mapped_from f o l e in
    subst (λ (p : Pdu). IsOrder s k p) (sym (ap (λ (x : Life). x.order) from.2 ∙ same from.0)) (are from.0 from.1)

pub came_same : (b : Bool) (l : Life) → (if b then with_standing standings.Answered l else l).order ≡ l.order
came_same true l = refl
came_same false l = refl

pub ticked_same : (s : Settings) (now stamp : ℕ) (b : Bool) (l : Life) → (if b then life_ticked s now stamp l else l).order ≡ l.order
ticked_same s now stamp false l = refl
ticked_same s now stamp true l = tested (is_due_at s now l) (nat_lt (length l.sends) s.tries) where
  tested : (due fewer : Bool) → (if due then (if fewer then with_send now stamp l else with_standing standings.GivenUp l) else l).order ≡ l.order
  tested true true = refl
  tested true false = refl
  tested false fewer = refl

made_orders : (s : Settings) (n : ℕ) (order : Order) (now stamp : ℕ) (r : Option OrderFault) → refusal s n order stamp ≡ r
    → IsTrue (is_request_body order.body)
    → (k : ℕ) (o : Option Life) → ((l : Life) → o ≡ Some l → IsOrder s k l.order)
    → (l : Life) → life_made r (order_pdu s (next_id s n) order stamp) now stamp (k == n) o ≡ Some l → IsOrder s k l.order
made_orders s n order now stamp (Some fault) t is_request k o are l e = are l e
made_orders s n order now stamp None t is_request k o are l e = next (k == n) refl e where
  next : (b : Bool) → (k == n) ≡ b → life_made None (order_pdu s (next_id s n) order stamp) now stamp b o ≡ Some l → IsOrder s k l.order
  next false u v = are l v
  next true u v =
      let order_is : order_pdu s (next_id s n) order stamp ≡ l.order = some_order _ v in
      subst (λ (p : Pdu). IsOrder s k p) order_is (subst (λ (i : ℕ). IsOrder s i (order_pdu s (next_id s n) order stamp)) (sym (eq-true k n u))
      (made_is_order s n order stamp t is_request))
    where
      some_order : (x : Life) → Some x ≡ Some l → x.order ≡ l.order
      some_order x w = let same : x ≡ l = cc in ap (λ (z : Life). z.order) same

pub made_as : (s : Settings) (past : List Call) → AreRequests past → (k : ℕ) (l : Life) → life s past k ≡ Some l → IsOrder s k l.order
made_as s [] are k l e = absurd cc
made_as s (Requested order now stamp ∷ past) are k l e =
    made_orders s (count_made s past) order now stamp (refusal s (count_made s past) order stamp) refl are.0 k (life s past k)
    (λ x at. made_as s past are.1 k x at) l e
made_as s (Came p ∷ past) are k l e =
    order_kept s k _ (life s past k) (λ x. came_same (settles_order s x.order p) x) (λ x at. made_as s past are k x at) l e
made_as s (Ticked now stamp ∷ past) are k l e =
    order_kept s k _ (life s past k) (λ x. ticked_same s now stamp (none_before (λ j. passes (is_ready_at s now) (life s past j)) k) x)
    (λ x at. made_as s past are k x at) l e

pub numbers : (s : Settings) (past : List Call) → AreRequests past → NumberedLives s (life s past)
numbers s past are k l e = (made_as s past are k l e).id

-- Agreement.

made_agrees : (s : Settings) (order : Order) (now stamp : ℕ) (orders : List MadeOrder) (lives : ℕ → Option Life) → Agree orders lives
    → (r : Option OrderFault)
    → Agree (after_request r s order now stamp orders) (λ k. life_made r (order_pdu s (next_id s (length orders)) order stamp) now stamp (k == length orders)
    (lives k))
made_agrees s order now stamp orders lives agree (Some fault) k = agree k
made_agrees s order now stamp orders lives agree None k =
    slice_get-append_one orders (new_order (order_pdu s (next_id s (length orders)) order stamp) now) k ∙ next (k == length orders) where
      next : (b : Bool) → (if b then Some (new_order (order_pdu s (next_id s (length orders)) order stamp) now) else slice_get orders k)
          ≡ option_map made_order (life_made None (order_pdu s (next_id s (length orders)) order stamp) now stamp b (lives k))
      next true = refl
      next false = agree k

pub agrees : (s : Settings) (past : List Call) → AreRequests past → Agree (kept s past) (life s past)
agrees s [] are = λ k. refl
agrees s (Requested order now stamp ∷ past) are =
    subst (λ (n : ℕ). Agree (kept s (Requested order now stamp ∷ past))
    (λ k. life_made (refusal s n order stamp) (order_pdu s (next_id s n) order stamp) now stamp (k == n) (life s past k)))
    (counts s past) (made_agrees s order now stamp (kept s past) (life s past) (agrees s past are.1) (refusal s (length (kept s past)) order stamp))
agrees s (Came p ∷ past) are = came_agrees s p (kept s past) (life s past) (agrees s past are) (numbers s past are)
agrees s (Ticked now stamp ∷ past) are = ticked_agrees s now stamp (kept s past) (life s past) (agrees s past are)
