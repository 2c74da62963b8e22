-- Orders one after the other, and what is told of them, as loops make it.
use Rattle.std.proofs.Common.{◌≡◌, ℕ, zero, suc, ◌+◌, ◌<◌, ◌≤◌, List, [], ◌∷◌, ◌++◌, length, map, Bool, true, false, Option, Some, None, refl, sym, ap, ◌∙◌, append-nil, subst, arith}
use Rattle.std.specs.declared.alloc.Global.{Global}
use Rattle.std.specs.Prelude.{Vec, Result, Ok, Err, OnOk, slice_get, option_map, option_and_then, if◌then◌else◌}
use Rattle.std.specs.List.{flat_map}
use Rattle.std.specs.Option.{option_to_list}
use Rattle.std.specs.Result.{IsErrAnd}
use Rattle.std.specs.declared.alloc.Global.{Global}
use Rattle.std.proofs.lemmas.Grind.{flat_map-append}
use Rattle.std.proofs.lemmas.List.{map-append}
use Rattle.siman_pdus.specs.declared.pdu.Pdu.{Pdu}
use Rattle.siman_pdus.specs.Answers.{same_id}
use Rattle.exercise_model.specs.Entry.{Entry, Sent, Received, Told}
use Rattle.exercise_model.specs.Meaning.{meaning}
use Rattle.exercise_model.specs.Recording.{PlainRecording}
use Rattle.exercise_review.specs.declared.fault.ReviewFault.{ReviewFault}
use Rattle.exercise_review.specs.declared.fault.ReviewFault.TheVariants.{OverLimit, Memory}
use Rattle.exercise_review.specs.declared.row.OrderRow.{OrderRow}
use Rattle.exercise_review.specs.declared.told.OrderReview as lists
use Rattle.exercise_review.specs.Order.{OrderData, made_by, order_of_entry, head_of, order_at}
use Rattle.exercise_review.specs.Register.{key_at}
use Rattle.exercise_review.specs.Room.{lists_below}
use Rattle.exercise_review.specs.Row.{row_order, AreRows, AddsRows}
use Rattle.exercise_review.specs.Tally.{makers_of, IsReviewBelow, ReviewsWithin}
use Rattle.exercise_review.specs.Records.{AreRecords}
use Rattle.exercise_review.specs.declared.party.Party.{Party}
use Rattle.exercise_review.specs.Parties.{parties_of}
use Rattle.exercise_review.specs.Outcome.{outcome_at, outcomes_at, outcomes_of}
use Rattle.exercise_review.specs.Told.{order_at_party, order_at_parties, orders_at, order_at_its_parties, orders_of, reviewed_orders}
use Rattle.exercise_review.proofs.Keyed.{no_order}
use Rattle.exercise_review.proofs.Lists.{lists_none, lists_more, lists_end, part_below}
use Rattle.exercise_review.proofs.Rows.{rows_count}

-- ---- an order at its parties

map_twice : {X Y Z : Type 0} (f : Y → Z) (g : X → Y) (xs : List X) → map f (map g xs) ≡ map (λ x. f (g x)) xs
map_twice f g [] = refl
map_twice f g (x ∷ xs) = ap (λ ys. f (g x) ∷ ys) (map_twice f g xs)

-- an order that has parties is told at each of them
pub told_at_parties : (r : PlainRecording) (o : OrderData) (parties : List Party) → parties ≡ parties_of r o → (length parties ≡ 0 → ⊥)
    → map (λ party. order_at_party r o (outcome_at r o party)) parties ≡ order_at_parties r o
unfolding outcomes_of
told_at_parties r o parties are some = sym (ap (λ ps. map (order_at_party r o) (outcomes_at r o ps)) (sym are) ∙ of_list parties some)
  where
    of_list : (ps : List Party) → (length ps ≡ 0 → ⊥) → map (order_at_party r o) (outcomes_at r o ps) ≡ map (λ party. order_at_party r o (outcome_at r o party)) ps
    of_list [] some = absurd (some refl)
    of_list (p ∷ ps) some = map_twice (order_at_party r o) (outcome_at r o) (p ∷ ps)

-- ---- heads

-- an order stands at its head
pub at_head : (r : PlainRecording) (i : ℕ) (o : OrderData) → order_at r i ≡ Some o → order_at r o.head ≡ Some o
unfolding order_at
at_head r i o at = let head : o.head ≡ i = here (same_id (head_of r i) (Some i)) (slice_get r.entries i) at in ap (order_at r) head ∙ at
  where
    of_pdu : (maker : Option ℕ) (m : Option Pdu) → option_map (made_by i maker) m ≡ Some o → o.head ≡ i
    of_pdu maker None e = absurd (cc)
    of_pdu maker (Some p) e = let same : made_by i maker p ≡ o = cc in ap (λ (x : OrderData). x.head) (sym same)

    of_entry : (e : Option Entry) → option_and_then (order_of_entry r i) e ≡ Some o → o.head ≡ i
    of_entry None e = absurd (cc)
    of_entry (Some (Sent s stamp b)) e = of_pdu (Some s) (meaning r.setting.exercise b) e
    of_entry (Some (Received s stamp b)) e = of_pdu None (meaning r.setting.exercise b) e
    of_entry (Some (Told s n y)) e = absurd (cc)

    here : (b : Bool) (e : Option Entry) → (if b then option_and_then (order_of_entry r i) e else None) ≡ Some o → o.head ≡ i
    here true e is = of_entry e is
    here false e is = absurd (cc)

-- ---- one entry more

-- what is told of an entry
pub told_there : (r : PlainRecording) (k : ℕ) (o : OrderData) → order_at r k ≡ Some o → order_at_its_parties r k ≡ order_at_parties r o
told_there r k o at = ap (λ x. flat_map (order_at_parties r) (option_to_list x)) at ∙ append-nil (order_at_parties r o)

pub nothing_there : (r : PlainRecording) (k : ℕ) → order_at r k ≡ None → order_at_its_parties r k ≡ []
nothing_there r k at = ap (λ x. flat_map (order_at_parties r) (option_to_list x)) at

pub makers_more : (r : PlainRecording) (k : ℕ) (o : OrderData) → order_at r k ≡ Some o
    → makers_of (lists_below (orders_at r) (k + 1)) ≡ makers_of (lists_below (orders_at r) k) ++ o.maker ∷ []
makers_more r k o at =
    ap makers_of (lists_more (orders_at r) k ∙ ap (λ x. lists_below (orders_at r) k ++ option_to_list x) at)
    ∙ map-append (λ (x : OrderData). x.maker) (lists_below (orders_at r) k) (o ∷ [])

pub makers_still : (r : PlainRecording) (k : ℕ) → order_at r k ≡ None → makers_of (lists_below (orders_at r) (k + 1)) ≡ makers_of (lists_below (orders_at r) k)
makers_still r k at =
    ap makers_of (lists_more (orders_at r) k ∙ ap (λ x. lists_below (orders_at r) k ++ option_to_list x) at ∙ append-nil (lists_below (orders_at r) k))

pub told_none : (r : PlainRecording) (t : lists.OrderReview) → AreRecords r (length r.entries) t.records.items → t.makers.items ≡ [] → t.rows.items ≡ [] → IsReviewBelow r 0 t
told_none r t records makers rows = record {
  records = records;
  makers = makers ∙ ap makers_of (sym (lists_none (orders_at r)));
  rows = ap (map (row_order r)) rows ∙ ap (map Some) (sym (lists_none (order_at_its_parties r)));
}

-- an entry that is no head of an order
pub told_still : (r : PlainRecording) (k : ℕ) (t : lists.OrderReview) → order_at r k ≡ None → IsReviewBelow r k t → IsReviewBelow r (k + 1) t
told_still r k t at before = record {
  records = before.records;
  makers = before.makers ∙ sym (makers_still r k at);
  rows = before.rows
      ∙ ap (map Some) (sym (lists_more (order_at_its_parties r) k ∙ ap (λ xs. lists_below (order_at_its_parties r) k ++ xs) (nothing_there r k at) ∙ append-nil (lists_below (order_at_its_parties r) k)));
}

-- one that is
pub told_more : (r : PlainRecording) (k most : ℕ) (o : OrderData) (old new : lists.OrderReview) (result : Result (Unit {0}) ReviewFault) → order_at r k ≡ Some o
    → IsReviewBelow r k old → new.records ≡ old.records
    → new.makers.items ≡ old.makers.items ++ o.maker ∷ [] → AddsRows r most old.rows.items (order_at_parties r o) result new.rows.items
    → OnOk result (IsReviewBelow r (k + 1) new)
told_more r k most o old new (Err e) at before records makers adds = tt
told_more r k most o old new (Ok x) at before records makers adds = record {
  records = subst (λ (x : Vec ℕ Global). AreRecords r (length r.entries) x.items) (sym records) before.records;
  makers = makers ∙ ap (λ xs. xs ++ o.maker ∷ []) before.makers ∙ sym (makers_more r k o at);
  rows = adds.0
      ∙ ap (λ xs. xs ++ map Some (order_at_parties r o)) before.rows
      ∙ sym (map-append Some (lists_below (order_at_its_parties r) k) (order_at_parties r o))
      ∙ ap (map Some) (sym (lists_more (order_at_its_parties r) k ∙ ap (λ xs. lists_below (order_at_its_parties r) k ++ xs) (told_there r k o at)));
}

-- ---- all entries

-- WHAT IS TOLD of all entries is what is told of all orders
pub told_all : (r : PlainRecording) → lists_below (order_at_its_parties r) (length r.entries) ≡ reviewed_orders r
unfolding reviewed_orders orders_of lists_below
told_all r = below (length r.entries)
  where
    below : (n : ℕ) → lists_below (order_at_its_parties r) n ≡ flat_map (order_at_parties r) (lists_below (orders_at r) n)
    below zero = refl
    below (suc n) = ap (λ xs. xs ++ order_at_its_parties r n) (below n) ∙ sym (flat_map-append (order_at_parties r) (lists_below (orders_at r) n) (orders_at r n))

-- WHERE NO ENTRY FROM AN END ON HAS A KEY, what is told of those before it is what is told of all
pub told_end : (r : PlainRecording) (end n : ℕ) (t : lists.OrderReview) → end ≤ n → ((i : ℕ) → end ≤ i → i < n → key_at r i ≡ None) → IsReviewBelow r end t → IsReviewBelow r n t
told_end r end n t within rest told = record {
  records = told.records;
  makers = told.makers ∙ ap makers_of (lists_end (orders_at r) end n within (λ i l below. ap option_to_list (sym (no_order r i (rest i l below)))));
  rows = told.rows ∙ ap (map Some) (lists_end (order_at_its_parties r) end n within (λ i l below. nothing_there r i (sym (no_order r i (rest i l below)))));
}

refused : (r : PlainRecording) (part new : List OrderRow) (k most : ℕ) (e : ReviewFault) → k < length r.entries → AreRows r part (lists_below (order_at_its_parties r) k)
    → AddsRows r most part (order_at_its_parties r k) (Err e) new → ReviewsWithin r most (Err e)
refused r part new k most OverLimit l same over =
    omega (arith, over, rows_count r part (lists_below (order_at_its_parties r) k) same, part_below (order_at_its_parties r) k (length r.entries) l, ap length (told_all r))
refused r part new k most Memory l same over = tt

-- there is no room for what is told of the next: so there is none for all
pub no_room : (r : PlainRecording) (part new : List OrderRow) (k most : ℕ) (e : ReviewFault) (result : Result lists.OrderReview ReviewFault)
    → IsErrAnd result (λ x. x ≡ e) → k < length r.entries → AreRows r part (lists_below (order_at_its_parties r) k) → AddsRows r most part (order_at_its_parties r k) (Err e) new
    → ReviewsWithin r most result
no_room r part new k most e (Ok x) is l same over = absurd is
no_room r part new k most e (Err x) is l same over = subst (λ y. ReviewsWithin r most (Err y)) (sym is) (refused r part new k most e l same over)
