-- What follows of identifiers, sends and answers.
use Rattle.std.proofs.Common.{◌≡◌, ℕ, ◌+◌, ◌-◌, ◌<◌, ◌≤◌, List, [], ◌∷◌, ◌++◌, length, map, refl, ap, sym, ◌∙◌, subst, arith}
use Rattle.std.specs.Prelude.{Bool, true, false, cond, ◌==◌, nat_lt, nat_le, slice_get, filter, Option, Some, None, option_map, option_to_list, if◌then◌else◌}
use Rattle.std.specs.List.{AllByRecursion}
use Rattle.std.proofs.lemmas.List.{length-map}
use Rattle.std.proofs.lemmas.Bool.Decides.{nat_tests}
use Rattle.siman_pdus.specs.declared.pdu.Pdu.{Pdu}
use Rattle.siman_pdus.specs.Answers.{same_id}
use Rattle.siman_pdus.specs.Role.{request_id_of}
use Rattle.siman_manager.specs.declared.fault.OrderFault.{OrderFault}
use Rattle.siman_manager.specs.declared.kept.MadeOrder.{MadeOrder}
use Rattle.siman_manager.specs.declared.kept.OrderStanding.TheVariants as standings
use Rattle.siman_manager.specs.declared.settings.Settings.{Settings}
use Rattle.siman_manager.specs.Book.{order_pdu, next_id, refusal, is_ready, with_stamp}
use Rattle.siman_manager.specs.Calls.{Call, Requested, Came, Ticked, AreRequests, kept, given_out, made_pdu, count_made, one_more, Life, life, life_made, life_ticked, none_before, passes, is_ready_at, is_due_at, settles_order, with_standing, with_send, sent_as, has_id, IsOfOrder, IsSendOf, manager_id, Send}
use Rattle.siman_manager.proofs.Places.{first_place, item_at, find-at, slice_get-past}
use Rattle.siman_manager.proofs.Lives.{Numbered, numbered_kept, id-numbered}
use Rattle.siman_manager.proofs.Induction.{counts, agrees, numbers, made_as, mapped_from}
use Rattle.siman_manager.proofs.Sends.{sends_of}

-- Sends of one order.

are_sends : (s : Settings) (first : Pdu) → first.origin ≡ manager_id s → (sends : List Send)
    → AllByRecursion (IsSendOf s first) (map (λ send. with_stamp send.stamp first) sends)
are_sends s first origin [] = tt
are_sends s first origin (send ∷ sends) = (record { same = refl; origin = origin }, are_sends s first origin sends)

pub sends_are_same : (s : Settings) (past : List Call) → AreRequests past → (k : ℕ) (l : Life) → life s past k ≡ Some l
    → AllByRecursion (IsSendOf s l.order) (filter (has_id (s.first_id + k)) (given_out s past))
sends_are_same s past are k l e =
    subst (λ (ps : List Pdu). AllByRecursion (IsSendOf s l.order) ps) (sym (sends_of s past are k ∙ ap sent_as e))
    (are_sends s l.order (made_as s past are k l e).origin l.sends)

-- Each PDU that is given out is of an order.

wider : (s : Settings) (m n : ℕ) → m ≤ n → (ps : List Pdu) → AllByRecursion (IsOfOrder s m) ps → AllByRecursion (IsOfOrder s n) ps
wider s m n h [] all = tt
wider s m n h (p ∷ ps) all = ((all.0.0, let below : all.0.0 < m = all.0.1 in omega arith, all.0.2), wider s m n h ps all.1)

made_of_order : (s : Settings) (n : ℕ) (p : Pdu) (r : Option OrderFault) (rest : List Pdu) → request_id_of p.body ≡ Some (s.first_id + n)
    → AllByRecursion (IsOfOrder s n) rest → AllByRecursion (IsOfOrder s (one_more r n)) (made_pdu r p ++ rest)
made_of_order s n p (Some fault) rest e all = all
made_of_order s n p None rest e all = ((n, omega arith, e), wider s n (n + 1) (omega arith) rest all)

repeat_of_order : (s : Settings) (stamp n : ℕ) (orders : List MadeOrder) (rest : List Pdu) → Numbered s orders → length orders ≡ n → (o : Option ℕ)
    → AllByRecursion (IsOfOrder s n) rest
    → AllByRecursion (IsOfOrder s n) (option_to_list (option_map (λ (x : MadeOrder). with_stamp stamp x.pdu) (item_at orders o)) ++ rest)
repeat_of_order s stamp n orders rest numbers len None all = all
repeat_of_order s stamp n orders rest numbers len (Some j) all = at (slice_get orders j) refl where
  at : (x : Option MadeOrder) → slice_get orders j ≡ x → AllByRecursion (IsOfOrder s n) (option_to_list (option_map (λ (x : MadeOrder). with_stamp stamp x.pdu) x) ++ rest)
  at None e = all
  at (Some x) e = ((j, below (nat_lt j (length orders)) refl, numbers j x e), all) where
    below : (b : Bool) → nat_lt j (length orders) ≡ b → j < n
    below true t = let lt : j < length orders = grind (arith, nat_tests) in omega arith
    below false t =
        let beyond : length orders ≤ j = grind (arith, nat_tests) in
        let clash : None ≡ Some x = sym (slice_get-past orders j beyond) ∙ e in absurd cc

pub of_orders : (s : Settings) (past : List Call) → AreRequests past → AllByRecursion (IsOfOrder s (count_made s past)) (given_out s past)
of_orders s [] are = tt
of_orders s (Requested order now stamp ∷ past) are =
    subst (λ (n : ℕ). AllByRecursion (IsOfOrder s (one_more (refusal s (count_made s past) order stamp) (count_made s past)))
    (made_pdu (refusal s n order stamp) (order_pdu s (next_id s n) order stamp) ++ given_out s past))
    (sym (counts s past))
    (made_of_order s (count_made s past) (order_pdu s (next_id s (count_made s past)) order stamp) (refusal s (count_made s past) order stamp)
    (given_out s past)
    (id-numbered (next_id s (count_made s past)) order.body are.0) (of_orders s past are.1))
of_orders s (Came p ∷ past) are = of_orders s past are
of_orders s (Ticked now stamp ∷ past) are =
    subst (λ (x : Option MadeOrder). AllByRecursion (IsOfOrder s (count_made s past))
    (option_to_list (option_map (λ (x : MadeOrder). with_stamp stamp x.pdu) x) ++ given_out s past))
    (sym (find-at (is_ready s now) (kept s past)))
    (repeat_of_order s stamp (count_made s past) (kept s past) (given_out s past)
    (numbered_kept s (kept s past) (life s past) (agrees s past are) (numbers s past are)) (counts s past)
    (first_place (is_ready s now) (kept s past)) (of_orders s past are))

-- How often.

abbrev pub WithinTries : Settings → Life → Type 0
WithinTries s l = (1 ≤ length l.sends) × (length l.sends ≤ s.tries)

within_made : (s : Settings) → 1 ≤ s.tries → (p : Pdu) (now stamp : ℕ) (r : Option OrderFault) (b : Bool) (o : Option Life)
    → ((l : Life) → o ≡ Some l → WithinTries s l)
    → (l : Life) → life_made r p now stamp b o ≡ Some l → WithinTries s l
within_made s h p now stamp (Some fault) b o are l e = are l e
within_made s h p now stamp None false o are l e = are l e
within_made s h p now stamp None true o are l e = subst (WithinTries s) same (omega arith, h) where
  same : record { order = p; sends = record { at = now; stamp = stamp } ∷ []; standing = standings.Waiting } ≡ l
  same = cc

within_mapped : (s : Settings) (f : Life → Life) (o : Option Life) → ((l : Life) → WithinTries s l → WithinTries s (f l))
    → ((l : Life) → o ≡ Some l → WithinTries s l)
    → (l : Life) → option_map f o ≡ Some l → WithinTries s l
within_mapped s f o keeps are l e =
    let from : (x : Life) × (o ≡ Some x) × (l ≡ f x) = mapped_from f o l e in
    subst (WithinTries s) (sym from.2) (keeps from.0 (are from.0 from.1))

within_came : (s : Settings) (b : Bool) (l : Life) → WithinTries s l → WithinTries s (if b then with_standing standings.Answered l else l)
within_came s true l h = h
within_came s false l h = h

within_ticked : (s : Settings) (now stamp : ℕ) (b : Bool) (l : Life) → WithinTries s l → WithinTries s (if b then life_ticked s now stamp l else l)
within_ticked s now stamp false l h = h
within_ticked s now stamp true l h = tested (is_due_at s now l) (nat_lt (length l.sends) s.tries) refl where
  tested : (due fewer : Bool) → nat_lt (length l.sends) s.tries ≡ fewer → WithinTries s (if due then (if fewer then with_send now stamp l else with_standing standings.GivenUp l) else l)
  tested true true t = let fewer : length l.sends < s.tries = grind (arith, nat_tests) in (omega arith, omega arith)
  tested true false t = h
  tested false fewer t = h

pub within_tries : (s : Settings) (past : List Call) → 1 ≤ s.tries → (k : ℕ) (l : Life) → life s past k ≡ Some l → WithinTries s l
within_tries s [] h k l e = absurd cc
within_tries s (Requested order now stamp ∷ past) h k l e =
    within_made s h _ now stamp (refusal s (count_made s past) order stamp) (k == count_made s past) (life s past k) (within_tries s past h k) l e
within_tries s (Came p ∷ past) h k l e =
    within_mapped s _ (life s past k) (λ x. within_came s (settles_order s x.order p) x) (within_tries s past h k) l e
within_tries s (Ticked now stamp ∷ past) h k l e =
    within_mapped s _ (life s past k) (λ x. within_ticked s now stamp (none_before (λ j. passes (is_ready_at s now) (life s past j)) k) x)
    (within_tries s past h k) l e

-- A PDU that has an identifier below the first is not given out.
none_below : (s : Settings) (n id : ℕ) (ps : List Pdu) → id < s.first_id → AllByRecursion (IsOfOrder s n) ps → filter (has_id id) ps ≡ []
none_below s n id [] h all = refl
none_below s n id (p ∷ ps) h all =
    ap (λ (b : Bool). cond b (p ∷ filter (has_id id) ps) (filter (has_id id) ps)) other ∙ none_below s n id ps h all.1 where
      other : has_id id p ≡ false
      other = ap (λ (r : Option ℕ). same_id r (Some id)) all.0.2 ∙ apart where
        apart : (s.first_id + all.0.0 == id) ≡ false
        apart = grind (arith, nat_tests)

sent_within : (s : Settings) (o : Option Life) → ((l : Life) → o ≡ Some l → WithinTries s l) → length (sent_as o) ≤ s.tries
sent_within s None h = omega arith
sent_within s (Some l) h =
    let bound : WithinTries s l = h l refl in
    let same : length (sent_as (Some l)) ≡ length l.sends = length-map l.sends _ in omega (arith, bound.1)

pub at_most_tries : (s : Settings) (past : List Call) → 1 ≤ s.tries → AreRequests past → (id : ℕ)
    → length (filter (has_id id) (given_out s past)) ≤ s.tries
at_most_tries s past h are id = side (nat_le s.first_id id) refl where
  side : (b : Bool) → nat_le s.first_id id ≡ b → length (filter (has_id id) (given_out s past)) ≤ s.tries
  side true t =
      let low : s.first_id ≤ id = grind (arith, nat_tests) in
      let place : s.first_id + (id - s.first_id) ≡ id = omega arith in
      let at : length (filter (has_id (s.first_id + (id - s.first_id))) (given_out s past)) ≤ s.tries =
      subst (λ (ps : List Pdu). length ps ≤ s.tries) (sym (sends_of s past are (id - s.first_id)))
      (sent_within s (life s past (id - s.first_id)) (within_tries s past h (id - s.first_id))) in
      subst (λ (i : ℕ). length (filter (has_id i) (given_out s past)) ≤ s.tries) place at
  side false t =
      let low : id < s.first_id = grind (arith, nat_tests) in
      subst (λ (ps : List Pdu). length ps ≤ s.tries) (sym (none_below s (count_made s past) id (given_out s past) low (of_orders s past are))) (omega arith)
