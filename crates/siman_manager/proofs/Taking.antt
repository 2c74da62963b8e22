-- What a PDU does to the order of its request identifier.
use Rattle.std.proofs.Common.{◌≡◌, ℕ, ◌+◌, ◌-◌, ◌<◌, ◌≤◌, List, length, set, refl, ap, sym, ◌∙◌, arith, eq-eqb}
use Rattle.std.specs.Prelude.{Bool, true, false, ◌==◌, nat_le, slice_get, Some, None, if◌then◌else◌}
use Rattle.std.proofs.lemmas.Bool.Decides.{nat_tests}
use Rattle.siman_pdus.specs.declared.pdu.Pdu.{Pdu}
use Rattle.siman_pdus.specs.Role.{request_id_of}
use Rattle.siman_manager.specs.declared.kept.MadeOrder.{MadeOrder}
use Rattle.siman_manager.specs.declared.order.Taken.TheVariants as taken
use Rattle.siman_manager.specs.declared.settings.Settings.{Settings}
use Rattle.siman_manager.specs.Book.{order_of, taken_by, taken_by_found, settled, settled_if, taken_under, settled_under, taken_as, after_take}
use Rattle.siman_manager.proofs.Places.{slice_get-past}

pub if_true : {X : Type 0} (b : Bool) (x y : X) → b ≡ true → (if b then x else y) ≡ x
if_true true x y e = refl
if_true false x y e = absurd cc

pub nat_le-true : (m n : ℕ) → m ≤ n → nat_le m n ≡ true
nat_le-true m n h = grind (arith, nat_tests)

pub order_known : (s : Settings) (orders : List MadeOrder) (id place : ℕ) (x : MadeOrder) → s.first_id ≤ id → place ≡ id - s.first_id
    → slice_get orders place ≡ Some x → order_of s orders id ≡ Some x
order_known s orders id place x low is at =
    if_true (nat_le s.first_id id) (slice_get orders (id - s.first_id)) None (nat_le-true s.first_id id low)
    ∙ ap (slice_get orders) (sym is) ∙ at

pub taken_known : (s : Settings) (p : Pdu) (orders : List MadeOrder) (id place : ℕ) (x : MadeOrder) → p.exercise ≡ s.exercise
    → request_id_of p.body ≡ Some id
    → s.first_id ≤ id → place ≡ id - s.first_id → slice_get orders place ≡ Some x → taken_as s p orders ≡ taken_by id p x
taken_known s p orders id place x e r low is at =
    if_true (p.exercise == s.exercise) (taken_under s p orders (request_id_of p.body)) taken.Foreign (eq-eqb p.exercise s.exercise e)
    ∙ ap (taken_under s p orders) r ∙ ap (taken_by_found id p) (order_known s orders id place x low is at)

pub settled_known : (s : Settings) (p : Pdu) (orders : List MadeOrder) (id place : ℕ) (x : MadeOrder) → p.exercise ≡ s.exercise
    → request_id_of p.body ≡ Some id
    → s.first_id ≤ id → place ≡ id - s.first_id → slice_get orders place ≡ Some x → after_take s p orders ≡ set orders place (settled p x)
settled_known s p orders id place x e r low is at =
    if_true (p.exercise == s.exercise) (settled_under s p orders (request_id_of p.body)) orders (eq-eqb p.exercise s.exercise e)
    ∙ ap (settled_under s p orders) r ∙ ap (settled_if (id - s.first_id) p orders) (order_known s orders id place x low is at)
    ∙ ap (λ (i : ℕ). set orders i (settled p x)) (sym is)

-- no order of an identifier that is out of the table
pub order_unknown : (s : Settings) (orders : List MadeOrder) (id : ℕ) → ((s.first_id ≤ id) × (id < s.first_id + length orders) → ⊥)
    → order_of s orders id ≡ None
order_unknown s orders id h = side (nat_le s.first_id id) refl where
  side : (b : Bool) → nat_le s.first_id id ≡ b → (if b then slice_get orders (id - s.first_id) else None) ≡ None
  side false t = refl
  side true t = let low : s.first_id ≤ id = grind (arith, nat_tests) in slice_get-past orders (id - s.first_id) (beyond low (nat_le (s.first_id + length orders) id) refl) where
    beyond : s.first_id ≤ id → (b : Bool) → nat_le (s.first_id + length orders) id ≡ b → length orders ≤ id - s.first_id
    beyond low true u = let over : s.first_id + length orders ≤ id = grind (arith, nat_tests) in omega arith
    beyond low false u = let under : id < s.first_id + length orders = grind (arith, nat_tests) in absurd (h (low, under))
