-- The PDUs that are given out are the sends of the orders.
use Rattle.std.proofs.Common.{◌≡◌, ℕ, ◌+◌, ◌≤◌, List, [], ◌∷◌, ◌++◌, length, refl, ap, sym, ◌∙◌, arith}
use Rattle.std.specs.Prelude.{Bool, true, false, cond, ◌&&◌, ◌==◌, nat_lt, slice_get, filter, Option, Some, None, option_map, option_to_list, if◌then◌else◌}
use Rattle.std.proofs.lemmas.Bool.Decides.{nat_tests}
use Rattle.std.proofs.lemmas.List.Elements.{filter-append}
use Rattle.siman_pdus.specs.declared.pdu.Pdu.{Pdu}
use Rattle.siman_pdus.specs.Answers.{same_id}
use Rattle.siman_pdus.specs.Role.{request_id_of}
use Rattle.siman_manager.specs.declared.fault.OrderFault.{OrderFault}
use Rattle.siman_manager.specs.declared.kept.MadeOrder.{MadeOrder}
use Rattle.siman_manager.specs.declared.kept.OrderStanding.TheVariants as standings
use Rattle.siman_manager.specs.declared.settings.Settings.{Settings}
use Rattle.siman_manager.specs.Book.{order_pdu, next_id, refusal, is_ready, repeated, with_stamp}
use Rattle.siman_manager.specs.Calls.{Call, Requested, Came, Ticked, AreRequests, kept, given_out, made_pdu, count_made, one_more, Life, life, life_made, life_ticked, made_order, none_before, passes, is_ready_at, is_due_at, settles_order, with_standing, with_send, sent_as, has_id}
use Rattle.siman_manager.proofs.Places.{first_place, item_at, is_place, find-at, reached_first, none_before-same}
use Rattle.siman_manager.proofs.Lives.{Agree, NumberedLives, id-numbered, eq-true, passes-agree}
use Rattle.siman_manager.proofs.Induction.{counts, agrees, numbers}

-- No order is at a number that was not reached.
unmade_next : (r : Option OrderFault) (p : Pdu) (now stamp n k : ℕ) (o : Option Life) → one_more r n ≤ k → (n ≤ k → o ≡ None)
    → life_made r p now stamp (k == n) o ≡ None
unmade_next (Some fault) p now stamp n k o h e = e h
unmade_next None p now stamp n k o h e =
    let apart : (k == n) ≡ false = grind (arith, nat_tests) in
    ap (λ (b : Bool). life_made None p now stamp b o) apart ∙ e (omega arith)

pub unmade : (s : Settings) (past : List Call) (k : ℕ) → count_made s past ≤ k → life s past k ≡ None
unmade s [] k h = refl
unmade s (Requested order now stamp ∷ past) k h =
    unmade_next (refusal s (count_made s past) order stamp) _ now stamp (count_made s past) k (life s past k) h (unmade s past k)
unmade s (Came p ∷ past) k h = ap (option_map _) (unmade s past k h)
unmade s (Ticked now stamp ∷ past) k h = ap (option_map _) (unmade s past k h)

-- What a tick adds.

abbrev pub grown : ℕ → Bool → Option Life → List Pdu
grown stamp b o = if b then option_to_list (option_map (λ l. with_stamp stamp l.order) o) else []

grown_none : (stamp : ℕ) (b : Bool) → [] ≡ grown stamp b None ++ []
grown_none stamp true = refl
grown_none stamp false = refl

reached_one : (s : Settings) (now : ℕ) (orders : List MadeOrder) (lives : ℕ → Option Life) → Agree orders lives → (k : ℕ)
    → (if none_before (λ j. passes (is_ready_at s now) (lives j)) k then passes (is_ready_at s now) (lives k) else false) ≡ is_place k
    (first_place (is_ready s now) orders)
reached_one s now orders lives agree k =
    let each : (j : ℕ) → passes (is_ready s now) (slice_get orders j) ≡ passes (is_ready_at s now) (lives j) = λ j. ap (passes (is_ready s now)) (agree j)
    ∙ passes-agree s now (lives j) in
    sym (ap (λ (b : Bool). if b then passes (is_ready s now) (slice_get orders k) else false) (none_before-same _ _ each k)
    ∙ ap (λ (b : Bool). if none_before (λ j. passes (is_ready_at s now) (lives j)) k then b else false) (each k))
    ∙ reached_first (is_ready s now) orders k

tick_sends : (s : Settings) (now stamp : ℕ) (reached place : Bool) (o : Option Life)
    → (if reached then passes (is_ready_at s now) o else false) ≡ place
    → sent_as (option_map (λ l. if reached then life_ticked s now stamp l else l) o) ≡ grown stamp place o ++ sent_as o
tick_sends s now stamp reached place None e = grown_none stamp place
tick_sends s now stamp reached place (Some l) e = tested reached (is_due_at s now l) (nat_lt (length l.sends) s.tries) place e where
  tested : (reached due fewer place : Bool) → (if reached then (due && fewer) else false) ≡ place
      → sent_as (Some
      (if reached then
      (if due then
      (if fewer then with_send now stamp l else with_standing standings.GivenUp l) else l) else l)) ≡ grown stamp place (Some l) ++ sent_as (Some l)
  tested true true true true u = refl
  tested true true true false u = absurd cc
  tested true true false true u = absurd cc
  tested true true false false u = refl
  tested true false fewer true u = absurd cc
  tested true false fewer false u = refl
  tested false due fewer true u = absurd cc
  tested false due fewer false u = refl

sums-eq : (f j k : ℕ) → (f + j == f + k) ≡ (k == j)
sums-eq f j k = grind (arith, nat_tests)

has_own_id : (s : Settings) (j k : ℕ) (p : Pdu) → request_id_of p.body ≡ Some (s.first_id + j) → has_id (s.first_id + k) p ≡ (k == j)
has_own_id s j k p e = ap (λ (r : Option ℕ). same_id r (Some (s.first_id + k))) e ∙ sums-eq s.first_id j k

one_filtered : (stamp k j : ℕ) (lives : ℕ → Option Life) (l : Life) (b : Bool) → (k == j) ≡ b → lives j ≡ Some l
    → cond b (with_stamp stamp l.order ∷ []) [] ≡ grown stamp b (lives k)
one_filtered stamp k j lives l false e at = refl
one_filtered stamp k j lives l true e at = sym (ap (grown stamp true) (ap lives (eq-true k j e) ∙ at))

none_filtered : (stamp k j : ℕ) (lives : ℕ → Option Life) (b : Bool) → (k == j) ≡ b → lives j ≡ None → [] ≡ grown stamp b (lives k)
none_filtered stamp k j lives false e at = refl
none_filtered stamp k j lives true e at = sym (ap (grown stamp true) (ap lives (eq-true k j e) ∙ at))

tick_filtered : (s : Settings) (stamp k : ℕ) (orders : List MadeOrder) (lives : ℕ → Option Life) → Agree orders lives → NumberedLives s lives
    → (o : Option ℕ)
    → filter (has_id (s.first_id + k)) (option_to_list (option_map (λ (x : MadeOrder). with_stamp stamp x.pdu) (item_at orders o))) ≡ grown stamp (is_place k o)
    (lives k)
tick_filtered s stamp k orders lives agree numbers None = refl
tick_filtered s stamp k orders lives agree numbers (Some j) =
    ap (λ (x : Option MadeOrder). filter (has_id (s.first_id + k)) (option_to_list (option_map (λ (x : MadeOrder). with_stamp stamp x.pdu) x))) (agree j) ∙ at
    (lives j) refl where
      at : (o : Option Life) → lives j ≡ o → filter (has_id (s.first_id + k))
          (option_to_list (option_map (λ (x : MadeOrder). with_stamp stamp x.pdu) (option_map made_order o))) ≡ grown stamp (k == j) (lives k)
      at None e = none_filtered stamp k j lives (k == j) refl e
      at (Some l) e =
          ap (λ (b : Bool). cond b (with_stamp stamp l.order ∷ []) []) (has_own_id s j k l.order (numbers j l e)) ∙ one_filtered stamp k j lives l
          (k == j) refl e

-- What a request adds.

made_filtered : (s : Settings) (now stamp n k : ℕ) (p : Pdu) (r : Option OrderFault) (rest : List Pdu) (lives : ℕ → Option Life)
    → p ≡ with_stamp stamp p
    → (r ≡ None → request_id_of p.body ≡ Some (s.first_id + n)) → lives n ≡ None → filter (has_id (s.first_id + k)) rest ≡ sent_as (lives k)
    → filter (has_id (s.first_id + k)) (made_pdu r p ++ rest) ≡ sent_as (life_made r p now stamp (k == n) (lives k))
made_filtered s now stamp n k p (Some fault) rest lives q e none h = h
made_filtered s now stamp n k p None rest lives q e none h =
    ap (λ (b : Bool). cond b (p ∷ filter (has_id (s.first_id + k)) rest) (filter (has_id (s.first_id + k)) rest)) (has_own_id s n k p (e refl)) ∙ next
    (k == n) refl where
      next : (b : Bool) → (k == n) ≡ b → cond b (p ∷ filter (has_id (s.first_id + k)) rest) (filter (has_id (s.first_id + k)) rest) ≡ sent_as
          (life_made None p now stamp b (lives k))
      next false t = h
      next true t =
          let empty : filter (has_id (s.first_id + k)) rest ≡ [] = h ∙ ap sent_as (ap lives (eq-true k n t) ∙ none) in
          ap (λ (ps : List Pdu). p ∷ ps) empty ∙ ap (λ (x : Pdu). x ∷ []) q

pub sends_of : (s : Settings) (past : List Call) → AreRequests past → (k : ℕ)
    → filter (has_id (s.first_id + k)) (given_out s past) ≡ sent_as (life s past k)
sends_of s [] are k = refl
sends_of s (Requested order now stamp ∷ past) are k =
    ap (λ (n : ℕ). filter (has_id (s.first_id + k)) (made_pdu (refusal s n order stamp) (order_pdu s (next_id s n) order stamp) ++ given_out s past))
    (counts s past)
    ∙ made_filtered s now stamp (count_made s past) k (order_pdu s (next_id s (count_made s past)) order stamp) (refusal s (count_made s past) order stamp)
    (given_out s past) (life s past) refl
    (λ e. id-numbered (next_id s (count_made s past)) order.body are.0) (unmade s past (count_made s past) (omega arith)) (sends_of s past are.1 k)
sends_of s (Came p ∷ past) are k = sends_of s past are k ∙ came (life s past k) where
  came : (o : Option Life) → sent_as o ≡ sent_as (option_map (λ (l : Life). if settles_order s l.order p then with_standing standings.Answered l else l) o)
  came None = refl
  came (Some l) = elim (settles_order s l.order p) as (λ b. sent_as (Some l) ≡ sent_as (Some (if b then with_standing standings.Answered l else l))) [ true ↦ refl | false ↦ refl ]
sends_of s (Ticked now stamp ∷ past) are k =
    filter-append (has_id (s.first_id + k)) (option_to_list (repeated s now stamp (kept s past))) (given_out s past)
    ∙ ap (λ (ps : List Pdu). ps ++ filter (has_id (s.first_id + k)) (given_out s past))
    (ap (λ (x : Option MadeOrder). filter (has_id (s.first_id + k)) (option_to_list (option_map (λ (x : MadeOrder). with_stamp stamp x.pdu) x)))
    (find-at (is_ready s now) (kept s past))
    ∙ tick_filtered s stamp k (kept s past) (life s past) (agrees s past are) (numbers s past are) (first_place (is_ready s now) (kept s past)))
    ∙ ap (λ (ps : List Pdu). grown stamp (is_place k (first_place (is_ready s now) (kept s past))) (life s past k) ++ ps) (sends_of s past are k)
    ∙ sym (tick_sends s now stamp (none_before (λ j. passes (is_ready_at s now) (life s past j)) k) (is_place k (first_place (is_ready s now) (kept s past)))
    (life s past k)
    (reached_one s now (kept s past) (life s past) (agrees s past are) k))
