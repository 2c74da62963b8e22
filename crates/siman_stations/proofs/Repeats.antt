-- The repeat that a manager chooses over its table is the one that is told of the lives of its orders.
use Rattle.std.proofs.Common.{◌≡◌, ℕ, zero, suc, List, [], ◌∷◌, length, refl, sym, ap, ◌∙◌, arith}
use Rattle.std.specs.Prelude.{Bool, true, false, find, slice_get, Option, Some, None, option_and_then, if◌then◌else◌}
use Rattle.std.specs.Option.{option_map, option_or}
use Rattle.exercise_model.specs.Place.{first_below}
use Rattle.siman_pdus.specs.declared.pdu.Pdu.{Pdu}
use Rattle.siman_manager.specs.declared.kept.MadeOrder.{MadeOrder}
use Rattle.siman_manager.specs.declared.settings.Settings.{Settings}
use Rattle.siman_manager.specs.Book.{is_ready, repeated, with_stamp}
use Rattle.siman_manager.specs.Calls.{Call, AreRequests, Life, life, kept, made_order, is_ready_at, passes}
use Rattle.siman_manager.proofs.Offered.{counts, agrees}
use Rattle.siman_stations.specs.Orders.{ready_after}

-- The first number below another, from the front.

or_next : (o : Option ℕ) (b : Bool) (n : ℕ)
    → option_or (option_map suc o) (if b then Some (suc n) else None) ≡ option_map suc (option_or o (if b then Some n else None))
or_next None true n = refl
or_next None false n = refl
or_next (Some k) b n = refl

front_next : (first last : Bool) (o : Option ℕ) (n : ℕ) → option_or (if first then Some zero else option_map suc o) (if last then Some (suc n) else None)
    ≡ (if first then Some zero else option_map suc (option_or o (if last then Some n else None)))
front_next true last o n = refl
front_next false last o n = or_next o last n

or_none : (b : Bool) → option_or None (if b then Some zero else None) ≡ (if b then Some zero else option_map suc None)
or_none true = refl
or_none false = refl

first_front : (test : ℕ → Bool) (n : ℕ) → first_below test (suc n) ≡ (if test zero then Some zero else option_map suc (first_below (λ k. test (suc k)) n))
unfolding first_below
first_front test zero = or_none (test zero)
first_front test (suc n) =
    ap (λ (o : Option ℕ). option_or o (if test (suc n) then Some (suc n) else None)) (first_front test n)
    ∙ front_next (test zero) (test (suc n)) (first_below (λ k. test (suc k)) n) n

first_none : (test : ℕ → Bool) → first_below test zero ≡ None
unfolding first_below
first_none test = refl

-- Over a table.

-- the k-th of some orders is what the k-th life comes to
abbrev AreLives : List MadeOrder → (ℕ → Option Life) → Type 0
AreLives xs lives = (k : ℕ) → slice_get xs k ≡ option_map made_order (lives k)

-- what is sent of the first order that is ready, by the table and by the lives
abbrev sent_of : Settings → ℕ → ℕ → List MadeOrder → Option Pdu
sent_of s now stamp xs = option_map (λ k. with_stamp stamp k.pdu) (find (is_ready s now) xs)

abbrev ready_of : Settings → ℕ → (ℕ → Option Life) → ℕ → Option Life
ready_of s now lives n = option_and_then lives (first_below (λ k. passes (is_ready_at s now) (lives k)) n)

abbrev result_of : Settings → ℕ → ℕ → (ℕ → Option Life) → ℕ → Option Pdu
result_of s now stamp lives n = option_map (λ l. with_stamp stamp l.order) (ready_of s now lives n)

next_place : (lives : ℕ → Option Life) (o : Option ℕ) → option_and_then lives (option_map suc o) ≡ option_and_then (λ k. lives (suc k)) o
next_place lives None = refl
next_place lives (Some k) = refl

told_none : (s : Settings) (now stamp : ℕ) (lives : ℕ → Option Life) → None ≡ result_of s now stamp lives zero
told_none s now stamp lives =
    ap (λ (o : Option ℕ). option_map (λ l. with_stamp stamp l.order) (option_and_then lives o)) (sym (first_none (λ k. passes (is_ready_at s now) (lives k))))

by_test : (s : Settings) (stamp : ℕ) (lives : ℕ → Option Life) (x : MadeOrder) (l : Life) (found : Option MadeOrder) (o : Option ℕ) (ready : Bool)
    → x ≡ made_order l → lives zero ≡ Some l
    → option_map (λ k. with_stamp stamp k.pdu) found ≡ option_map (λ l. with_stamp stamp l.order) (option_and_then (λ k. lives (suc k)) o)
    → option_map (λ k. with_stamp stamp k.pdu) (if ready then Some x else found)
    ≡ option_map (λ l. with_stamp stamp l.order) (option_and_then lives (if ready then Some zero else option_map suc o))
by_test s stamp lives x l found o true is first rest =
    ap (λ (k : MadeOrder). Some (with_stamp stamp k.pdu)) is ∙ ap (λ (m : Option Life). option_map (λ l. with_stamp stamp l.order) m) (sym first)
by_test s stamp lives x l found o false is first rest = rest ∙ ap (λ (m : Option Life). option_map (λ l. with_stamp stamp l.order) m) (sym (next_place lives o))

at_first : (s : Settings) (now stamp : ℕ) (x : MadeOrder) (xs : List MadeOrder) (lives : ℕ → Option Life) (first : Option Life) → lives zero ≡ first
    → Some x ≡ option_map made_order first → sent_of s now stamp xs ≡ result_of s now stamp (λ k. lives (suc k)) (length xs)
    → sent_of s now stamp (x ∷ xs) ≡ result_of s now stamp lives (suc (length xs))
at_first s now stamp x xs lives None e is rest = absurd cc
at_first s now stamp x xs lives (Some l) e is rest =
    let same : x ≡ made_order l = cc in
    let ready : is_ready s now x ≡ passes (is_ready_at s now) (lives zero) = ap (is_ready s now) same ∙ ap (passes (is_ready_at s now)) (sym e) in
    ap (λ (b : Bool). option_map (λ k. with_stamp stamp k.pdu) (if b then Some x else find (is_ready s now) xs)) ready
    ∙ (by_test s stamp lives x l (find (is_ready s now) xs) (first_below (λ k. passes (is_ready_at s now) (lives (suc k))) (length xs))
    (passes (is_ready_at s now) (lives zero)) same e rest
    ∙ ap (λ (o : Option ℕ). option_map (λ l. with_stamp stamp l.order) (option_and_then lives o))
    (sym (first_front (λ k. passes (is_ready_at s now) (lives k)) (length xs))))

same_sent : (s : Settings) (now stamp : ℕ) (xs : List MadeOrder) (lives : ℕ → Option Life) → AreLives xs lives
    → sent_of s now stamp xs ≡ result_of s now stamp lives (length xs)
same_sent s now stamp [] lives are = told_none s now stamp lives
same_sent s now stamp (x ∷ xs) lives are =
    at_first s now stamp x xs lives (lives zero) refl (are zero) (same_sent s now stamp xs (λ k. lives (suc k)) (λ k. are (suc k)))
    ∙ ap (result_of s now stamp lives) (omega arith)

-- THE REPEAT that a tick sends, by the table, is that of the order that is ready
pub repeat_told : (s : Settings) (past : List Call) → AreRequests past → (now stamp : ℕ)
    → repeated s now stamp (kept s past) ≡ option_map (λ l. with_stamp stamp l.order) (ready_after s past now)
repeat_told s past are now stamp =
    same_sent s now stamp (kept s past) (life s past) (agrees s past are) ∙ ap (result_of s now stamp (life s past)) (counts s past)
