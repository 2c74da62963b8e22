-- When an order is answered, what a PDU that comes is taken as, and how many orders are given up.
use Rattle.std.proofs.Common.{◌≡◌, ℕ, zero, suc, ◌+◌, ◌-◌, ◌≤◌, List, [], ◌∷◌, length, refl, ap, sym, ◌∙◌, set, subst, arith, eq-eqb}
use Rattle.std.specs.Prelude.{◌≢◌, Bool, true, false, cond, ◌&&◌, ◌||◌, ◌==◌, nat_lt, nat_le, slice_get, count_by, Option, Some, None, option_map, if◌then◌else◌}
use Rattle.std.specs.List.{list_any}
use Rattle.std.proofs.lemmas.Bool.Decides.{nat_tests}
use Rattle.std.proofs.lemmas.List.Sums.{sum_by-cons}
use Rattle.siman_pdus.specs.declared.pdu.Pdu.{Pdu}
use Rattle.siman_pdus.specs.Answers.{is_answer_to}
use Rattle.siman_pdus.specs.Role.{request_id_of}
use Rattle.siman_manager.specs.declared.fault.OrderFault.{OrderFault}
use Rattle.siman_manager.specs.declared.kept.MadeOrder.{MadeOrder}
use Rattle.siman_manager.specs.declared.kept.OrderStanding.{OrderStanding}
use Rattle.siman_manager.specs.declared.kept.OrderStanding.TheVariants as standings
use Rattle.siman_manager.specs.declared.order.Taken.TheVariants as taken
use Rattle.siman_manager.specs.declared.settings.Settings.{Settings}
use Rattle.siman_manager.specs.Book.{refusal, is_waiting, is_given_up, settles, order_of, taken_as, taken_under, taken_after, taken_by, taken_by_found, settled, settled_if, settled_under, after_take}
use Rattle.siman_manager.specs.Calls.{Call, Requested, Came, Ticked, AreRequests, kept, count_made, one_more, Life, life, life_made, life_ticked, made_order, none_before, passes, is_ready_at, is_due_at, last_at, settles_order, with_standing, with_send, is_answered, received_since, is_given_up_life, count_below, AnswersNone}
use Rattle.siman_manager.proofs.Lives.{eq-true, answer_id, order_of-place, order_of-low}
use Rattle.siman_manager.proofs.Induction.{counts, agrees, made_as, mapped_from}
use Rattle.siman_manager.proofs.Sends.{unmade}
use Rattle.siman_manager.proofs.Taking.{if_true}

-- Answered.

nothing_received : (s : Settings) (past : List Call) (k : ℕ) → count_made s past ≤ k → received_since s past k ≡ []
nothing_received s [] k h = refl
nothing_received s (Requested order now stamp ∷ past) k h = nothing_received s past k (fewer (refusal s (count_made s past) order stamp) h) where
  fewer : (r : Option OrderFault) → one_more r (count_made s past) ≤ k → count_made s past ≤ k
  fewer (Some fault) u = u
  fewer None u = omega arith
nothing_received s (Came p ∷ past) k h =
    let not_yet : nat_lt k (count_made s past) ≡ false = grind (arith, nat_tests) in
    ap (λ (b : Bool). if b then p ∷ received_since s past k else []) not_yet
nothing_received s (Ticked now stamp ∷ past) k h = nothing_received s past k h

made_by_then : (s : Settings) (past : List Call) (k : ℕ) (l : Life) → life s past k ≡ Some l → nat_lt k (count_made s past) ≡ true
made_by_then s past k l e = side (nat_lt k (count_made s past)) refl where
  side : (b : Bool) → nat_lt k (count_made s past) ≡ b → nat_lt k (count_made s past) ≡ true
  side true t = t
  side false t =
      let beyond : count_made s past ≤ k = grind (arith, nat_tests) in
      let clash : None ≡ Some l = sym (unmade s past k beyond) ∙ e in absurd cc

-- the order is answered exactly where one of these PDUs settles it
abbrev pub AnsweredBy : Settings → List Pdu → Life → Type 0
AnsweredBy s came l = is_answered l.standing ≡ list_any (settles_order s l.order) came

answered_made : (s : Settings) (p : Pdu) (now stamp n k : ℕ) (r : Option OrderFault) (o : Option Life) (came : List Pdu) → (n ≤ k → came ≡ [])
    → ((l : Life) → o ≡ Some l → AnsweredBy s came l) → (l : Life) → life_made r p now stamp (k == n) o ≡ Some l → AnsweredBy s came l
answered_made s p now stamp n k (Some fault) o came none are l e = are l e
answered_made s p now stamp n k None o came none are l e = next (k == n) refl e where
  next : (b : Bool) → (k == n) ≡ b → life_made None p now stamp b o ≡ Some l → AnsweredBy s came l
  next false t u = are l u
  next true t u =
      let same : record { order = p; sends = record { at = now; stamp = stamp } ∷ []; standing = standings.Waiting } ≡ l = cc in
      let place : k ≡ n = eq-true k n t in
      subst (AnsweredBy s came) same (sym (ap (list_any (settles_order s p)) (none (omega arith))))

answered_came : (s : Settings) (p : Pdu) (came : List Pdu) (l : Life) → AnsweredBy s came l
    → AnsweredBy s (p ∷ came) (if settles_order s l.order p then with_standing standings.Answered l else l)
answered_came s p came l h = tested (settles_order s l.order p) refl where
  tested : (b : Bool) → settles_order s l.order p ≡ b → AnsweredBy s (p ∷ came) (if b then with_standing standings.Answered l else l)
  tested true t = sym (ap (λ (b : Bool). b || list_any (settles_order s l.order) came) t)
  tested false t = h ∙ sym (ap (λ (b : Bool). b || list_any (settles_order s l.order) came) t)

waiting_not_answered : (standing : OrderStanding) (b : Bool) → (is_waiting standing && b) ≡ true → is_answered standing ≡ false
waiting_not_answered standings.Waiting b e = refl
waiting_not_answered standings.Answered b e = absurd cc
waiting_not_answered standings.GivenUp b e = refl

answered_ticked : (s : Settings) (now stamp : ℕ) (b : Bool) (came : List Pdu) (l : Life) → AnsweredBy s came l
    → AnsweredBy s came (if b then life_ticked s now stamp l else l)
answered_ticked s now stamp false came l h = h
answered_ticked s now stamp true came l h = tested (is_due_at s now l) (nat_lt (length l.sends) s.tries) refl where
  tested : (due fewer : Bool) → is_due_at s now l ≡ due → AnsweredBy s came (if due then (if fewer then with_send now stamp l else with_standing standings.GivenUp l) else l)
  tested true true t = h
  tested true false t = sym (waiting_not_answered l.standing (nat_le s.wait (now - last_at l.sends)) t) ∙ h
  tested false fewer t = h

answered_mapped : (s : Settings) (old new : List Pdu) (f : Life → Life) (o : Option Life) → ((l : Life) → AnsweredBy s old l → AnsweredBy s new (f l))
    → ((l : Life) → o ≡ Some l → AnsweredBy s old l)
    → (l : Life) → option_map f o ≡ Some l → AnsweredBy s new l
answered_mapped s old new f o keeps are l e =
    let from : (x : Life) × (o ≡ Some x) × (l ≡ f x) = mapped_from f o l e in
    subst (AnsweredBy s new) (sym from.2) (keeps from.0 (are from.0 from.1))

pub answered_by : (s : Settings) (past : List Call) (k : ℕ) (l : Life) → life s past k ≡ Some l → AnsweredBy s (received_since s past k) l
answered_by s [] k l e = absurd cc
answered_by s (Requested order now stamp ∷ past) k l e =
    answered_made s _ now stamp (count_made s past) k (refusal s (count_made s past) order stamp) (life s past k) (received_since s past k) (nothing_received s past k)
    (answered_by s past k) l e
answered_by s (Came p ∷ past) k l e =
    let from : (x : Life) × (life s past k ≡ Some x) × (l ≡ (if settles_order s x.order p then with_standing standings.Answered x else x)) = mapped_from _
    (life s past k) l e in
    subst (λ (came : List Pdu). AnsweredBy s came l) (sym
    (if_true (nat_lt k (count_made s past)) (p ∷ received_since s past k) [] (made_by_then s past k from.0 from.1)))
    (answered_mapped s (received_since s past k) (p ∷ received_since s past k) _ (life s past k) (answered_came s p (received_since s past k)) (answered_by s past k) l e)
answered_by s (Ticked now stamp ∷ past) k l e =
    answered_mapped s (received_since s past k) (received_since s past k) _ (life s past k)
    (answered_ticked s now stamp (none_before (λ j. passes (is_ready_at s now) (life s past j)) k) (received_since s past k)) (answered_by s past k) l e

-- By its identifier an order is found.

pub found : (s : Settings) (past : List Call) → AreRequests past → (k : ℕ)
    → order_of s (kept s past) (s.first_id + k) ≡ option_map made_order (life s past k)
found s past are k = order_of-place s (kept s past) k ∙ agrees s past are k

-- What a PDU is taken as.

pub taken_own : (s : Settings) (past : List Call) → AreRequests past → (p : Pdu) (k : ℕ) (l : Life) → life s past k ≡ Some l → p.exercise ≡ s.exercise
    → is_answer_to p l.order ≡ true
    → taken_as s p (kept s past) ≡ taken_after (s.first_id + k) (settles p.body) l.standing
taken_own s past are p k l e same answer =
    let id : request_id_of p.body ≡ Some (s.first_id + k) = answer_id p l.order answer ∙ (made_as s past are k l e).id in
    if_true (p.exercise == s.exercise) (taken_under s p (kept s past) (request_id_of p.body)) taken.Foreign (eq-eqb p.exercise s.exercise same)
    ∙ ap (taken_under s p (kept s past)) id
    ∙ ap (taken_by_found (s.first_id + k) p) (found s past are k ∙ ap (option_map made_order) e)
    ∙ if_true (is_answer_to p l.order) (taken_after (s.first_id + k) (settles p.body) l.standing) taken.Foreign answer

pub taken_none : (s : Settings) (past : List Call) → AreRequests past → (p : Pdu) → AnswersNone s past p → taken_as s p (kept s past) ≡ taken.Foreign
taken_none s past are p none =
    elim (p.exercise == s.exercise) as (λ b. (if b then taken_under s p (kept s past) (request_id_of p.body) else taken.Foreign) ≡ taken.Foreign) [
      | true ↦ under
          (request_id_of p.body)
      | false ↦ refl
    ] where
      not_answered : (id : ℕ) (y : MadeOrder) (o : Option Life) → life s past (id - s.first_id) ≡ o → option_map made_order o ≡ Some y → taken_by id p y ≡ taken.Foreign
      not_answered id y None e u = absurd cc
      not_answered id y (Some l) e u =
          let is : made_order l ≡ y = cc in
          subst (λ (x : MadeOrder). taken_by id p x ≡ taken.Foreign) is
          (ap (λ (b : Bool). if b then taken_after id (settles p.body) l.standing else taken.Foreign) (none (id - s.first_id) l e))

      kept_one : (id : ℕ) (o : Option MadeOrder) → order_of s (kept s past) id ≡ o → taken_by_found id p o ≡ taken.Foreign
      kept_one id None e = refl
      kept_one id (Some y) e =
          let known : (s.first_id ≤ id) × (slice_get (kept s past) (id - s.first_id) ≡ Some y) = order_of-low s (kept s past) id y e in
          not_answered id y (life s past (id - s.first_id)) refl (sym (agrees s past are (id - s.first_id)) ∙ known.1)

      under : (r : Option ℕ) → taken_under s p (kept s past) r ≡ taken.Foreign
      under None = refl
      under (Some id) = kept_one id (order_of s (kept s past) id) refl

pub taken_elsewhere : (s : Settings) (orders : List MadeOrder) (p : Pdu) → p.exercise ≢ s.exercise → taken_as s p orders ≡ taken.Foreign
taken_elsewhere s orders p other = side (p.exercise == s.exercise) refl where
  side : (b : Bool) → (p.exercise == s.exercise) ≡ b → (if b then taken_under s p orders (request_id_of p.body) else taken.Foreign) ≡ taken.Foreign
  side true t = absurd (other (eq-true p.exercise s.exercise t))
  side false t = refl

-- Only a PDU that is taken as the answer changes anything.

set_same : {X : Type 0} (xs : List X) (i : ℕ) (x y : X) → slice_get xs i ≡ Some x → y ≡ x → set xs i y ≡ xs
set_same [] i x y at e = refl
set_same (z ∷ zs) zero x y at e = let same : y ≡ z = cc in ap (λ w. w ∷ zs) same
set_same (z ∷ zs) (suc i) x y at e = ap (λ ws. z ∷ ws) (set_same zs i x y at e)

not_settled : (id : ℕ) (p : Pdu) (k : MadeOrder) → (taken_by id p k ≢ taken.Answered id) → settled p k ≡ k
not_settled id p k h = tested (is_answer_to p k.pdu) (settles p.body) k.standing refl h where
  tested : (answers settling : Bool) (standing : OrderStanding) → k.standing ≡ standing → ((if answers then taken_after id settling standing else taken.Foreign) ≢ taken.Answered id)
      → (if answers then (if settling then record k { standing = standings.Answered } else k) else k) ≡ k
  tested false settling standing e u = refl
  tested true false standing e u = refl
  tested true true standings.Waiting e u = absurd (u refl)
  tested true true standings.GivenUp e u = absurd (u refl)
  tested true true standings.Answered e u = ap (λ (z : OrderStanding). let x : MadeOrder = record k { standing = z } in x) (sym e)

pub unchanged_unless : (s : Settings) (orders : List MadeOrder) (p : Pdu) → ((id : ℕ) → taken_as s p orders ≢ taken.Answered id)
    → after_take s p orders ≡ orders
unchanged_unless s orders p h = side (p.exercise == s.exercise) h where
  known : (id : ℕ) (o : Option MadeOrder) → order_of s orders id ≡ o → (taken_by_found id p o ≢ taken.Answered id) → settled_if (id - s.first_id) p orders o ≡ orders
  known id None e u = refl
  known id (Some k) e u =
      let at : (s.first_id ≤ id) × (slice_get orders (id - s.first_id) ≡ Some k) = order_of-low s orders id k e in
      set_same orders (id - s.first_id) k (settled p k) at.1 (not_settled id p k u)

  under : (r : Option ℕ) → ((id : ℕ) → taken_under s p orders r ≢ taken.Answered id) → settled_under s p orders r ≡ orders
  under None u = refl
  under (Some id) u = known id (order_of s orders id) refl (u id)

  side : (b : Bool) → ((id : ℕ) → (if b then taken_under s p orders (request_id_of p.body) else taken.Foreign) ≢ taken.Answered id) → (if b then settled_under s p orders (request_id_of p.body) else orders) ≡ orders
  side true u = under (request_id_of p.body) u
  side false u = refl

-- How many are given up.

count_below-same : (f g : ℕ → Bool) → ((j : ℕ) → f j ≡ g j) → (n : ℕ) → count_below f n ≡ count_below g n
count_below-same f g e zero = refl
count_below-same f g e (suc n) =
    ap (λ (b : Bool). if b then suc (count_below (λ j. f (suc j)) n) else count_below (λ j. f (suc j)) n) (e zero)
    ∙ ap (λ (m : ℕ). if g zero then suc m else m) (count_below-same (λ j. f (suc j)) (λ j. g (suc j)) (λ j. e (suc j)) n)

count_by-below : {X : Type 0} (p : X → Bool) (xs : List X) → count_by p xs ≡ count_below (λ j. passes p (slice_get xs j)) (length xs)
count_by-below p [] = refl
count_by-below p (x ∷ xs) =
    sum_by-cons (λ x. cond (p x) 1 0) x xs
    ∙ elim (p x) as (λ b. cond b 1 0 + count_by p xs ≡
    (if b then suc (count_below (λ j. passes p (slice_get xs j)) (length xs)) else count_below (λ j. passes p (slice_get xs j)) (length xs))) [
      | true ↦ (let h : count_by p xs ≡ count_below (λ j. passes p (slice_get xs j)) (length xs) = count_by-below p xs in omega arith)
      | false ↦ (let h : count_by p xs ≡ count_below (λ j. passes p (slice_get xs j)) (length xs) = count_by-below p xs in omega arith)
    ]

given_up-agree : (o : Option Life) → passes is_given_up (option_map made_order o) ≡ passes is_given_up_life o
given_up-agree None = refl
given_up-agree (Some l) = refl

pub given_up_count : (s : Settings) (past : List Call) → AreRequests past
    → count_by is_given_up (kept s past) ≡ count_below (λ k. passes is_given_up_life (life s past k)) (count_made s past)
given_up_count s past are =
    count_by-below is_given_up (kept s past)
    ∙ ap (count_below (λ j. passes is_given_up (slice_get (kept s past) j))) (counts s past)
    ∙ count_below-same (λ j. passes is_given_up (slice_get (kept s past) j)) (λ k. passes is_given_up_life (life s past k))
    (λ j. ap (passes is_given_up) (agrees s past are j) ∙ given_up-agree (life s past j)) (count_made s past)
