-- Tables of the first entries under keys: hash slots, and a list in the order of addition (profile).
use Rattle.std.specs.Prelude.{◌≡◌, ℕ, Bool, [], ◌∷◌, ◌++◌, Some, slice_get}
use Rattle.exercise_findings.specs.declared.kept.Kept.{Kept}
use Rattle.exercise_findings.specs.Slots.{IsReached, IsPut, AreFirst}

-- An entry is added under a hash, at the end of the list; earlier entries remain.
pub record IsAppended (hash entry : ℕ) (old new : Kept) : Type 0 where
  pub put : IsPut hash entry old.slots.slots new.slots.slots
  pub order : new.order.items ≡ old.order.items ++ entry ∷ []

-- THE TIE: the slots hold, under each key, the first entry below n with that key, and each entry in the list is in the slots
pub record AreKept {K : Type 0} (has : K → ℕ → Bool) (hash : K → ℕ) (n : ℕ) (kept : Kept) : Type 0 where
  pub first : AreFirst has hash n kept.slots.slots
  pub order : (i : ℕ) (e : ℕ) → slice_get kept.order.items i ≡ Some e → (h : ℕ) × IsReached kept.slots.slots h e
