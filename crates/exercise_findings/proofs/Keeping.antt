-- What slots of the first entries under keys say, and keep saying as entries are put into them.
use Rattle.std.proofs.Common.{◌≡◌, ℕ, ◌+◌, List, [], ◌∷◌, ◌++◌, length, Option, Some, None, Bool, true, false, refl, sym, ap, ◌∙◌, subst, ⊎_elim, arith}
use Rattle.std.specs.Prelude.{◌⊎◌, IfSome, IfNone, slice_get, if◌then◌else◌}
use Rattle.std.specs.Option.{option_or}
use Rattle.std.proofs.Math.Numerals.{add-one}
use Rattle.std.proofs.lemmas.Bool.{cases_eq}
use Rattle.std.proofs.lemmas.Option.{same_Some, none-some, slice_get_within}
use Rattle.exercise_model.specs.Place.{first_below}
use Rattle.exercise_findings.specs.declared.slots.Slot.{Slot}
use Rattle.exercise_findings.specs.declared.kept.Kept.{Kept}
use Rattle.exercise_findings.specs.Slots.{IsReached, HasSlot, AreFirst}
use Rattle.exercise_findings.specs.Kept.{IsAppended, AreKept}
use Rattle.exercise_findings.proofs.Keyed.{passes}
use Rattle.exercise_findings.proofs.Standing.{stands_none, reached_stands}
use Rattle.exercise_findings.proofs.Tied.{get-pushed_here, get-pushed_other}

pub below_on : (f : ℕ → Bool) (n : ℕ) → first_below f (n + 1) ≡ option_or (first_below f n) (if f n then Some n else None)
unfolding first_below
below_on f n = ap (first_below f) (add-one n)

-- ---- what is looked up

-- What is found among what stands in the slots is the first under a key, where it is looked for by something that is the key there.
pub looked_up : {K : Type 0} (has : K → ℕ → Bool) (hash : K → ℕ) (n : ℕ) (slots : List Slot) (k : K) (is : ℕ → Bool) → AreFirst has hash n slots
    → ((e : ℕ) → HasSlot slots e → is e ≡ has k e) → (o : Option ℕ) → IfSome o (λ e. HasSlot slots e × (is e ≡ true))
    → IfNone o ((e : ℕ) → IsReached slots (hash k) e → is e ≡ false) → o ≡ first_below (has k) n
looked_up has hash n slots k is tied same (Some e) found absent = sym (tied.only k e found.0 (sym (same e found.0) ∙ found.1))
looked_up has hash n slots k is tied same None found absent =
    elim (first_below (has k) n) as (λ o. first_below (has k) n ≡ o → None ≡ o) [
      | None ↦ λ _. refl
      | Some e ↦ λ first.
          let reached = tied.all k e first in
          absurd (cc (sym (passes (has k) n e first).1 ∙ sym (same e (reached_stands slots (hash k) e reached)) ∙ absent e reached))
    ] refl

-- ---- one entry more

pub first_none : {K : Type 0} (has : K → ℕ → Bool) (hash : K → ℕ) (slots : List Slot) → length slots ≡ 0 → AreFirst has hash 0 slots
unfolding first_below
first_none {K} has hash slots none = record {
  keyed = λ e stands. stands_none slots e none stands ((k : K) × (has k e ≡ true));
  only = λ k e stands _. stands_none slots e none stands (first_below (has k) 0 ≡ Some e);
  all = λ k e first. absurd (none-some e first);
}

-- an entry that is the first under no key
pub first_still : {K : Type 0} (has : K → ℕ → Bool) (hash : K → ℕ) (n : ℕ) (slots : List Slot) → AreFirst has hash n slots
    → ((k : K) → first_below (has k) (n + 1) ≡ first_below (has k) n) → AreFirst has hash (n + 1) slots
first_still has hash n slots tied same = record {
  keyed = tied.keyed;
  only = λ k e stands is. same k ∙ tied.only k e stands is;
  all = λ k e first. tied.all k e (sym (same k) ∙ first);
}

-- an entry with no key
pub none_here : (f : ℕ → Bool) (n : ℕ) → f n ≡ false → first_below f (n + 1) ≡ first_below f n
none_here f n off = below_on f n ∙ ap (λ b. option_or (first_below f n) (if b then Some n else None)) off ∙ or_none (first_below f n)
  where
    or_none : (o : Option ℕ) → option_or o None ≡ o
    or_none None = refl
    or_none (Some x) = refl

-- an entry under whose key another one stands
pub later_here : (f : ℕ → Bool) (n m : ℕ) → first_below f n ≡ Some m → first_below f (n + 1) ≡ first_below f n
later_here f n m first =
    below_on f n ∙ ap (λ o. option_or o (if f n then Some n else None)) first ∙ sym first

-- the first entry under its key
pub new_here : (f : ℕ → Bool) (n : ℕ) → first_below f n ≡ None → f n ≡ true → first_below f (n + 1) ≡ Some n
new_here f n none on =
    below_on f n ∙ ap (λ o. option_or o (if f n then Some n else None)) none ∙ ap (λ b. if b then Some n else None) on

-- an entry of one key, under which another one stands
pub first_later : {K : Type 0} (has : K → ℕ → Bool) (hash : K → ℕ) (n m : ℕ) (slots : List Slot) (l : K) → AreFirst has hash n slots
    → ((k : K) → has k n ≡ true → k ≡ l) → first_below (has l) n ≡ Some m → AreFirst has hash (n + 1) slots
first_later {K} has hash n m slots l tied own first = first_still has hash n slots tied (λ k. on k (has k n) refl)
  where
    on : (k : K) (b : Bool) → has k n ≡ b → first_below (has k) (n + 1) ≡ first_below (has k) n
    on k false off = none_here (has k) n off
    on k true here = later_here (has k) n m (ap (λ x. first_below (has x) n) (own k here) ∙ first)

-- the first entry of one key, which is kept
pub first_kept : {K : Type 0} (has : K → ℕ → Bool) (hash : K → ℕ) (n : ℕ) (old new : List Slot) (l : K) → AreFirst has hash n old
    → ((k : K) → has k n ≡ true → k ≡ l) → has l n ≡ true → first_below (has l) n ≡ None
    → IsReached new (hash l) n → ((h e : ℕ) → IsReached old h e → IsReached new h e) → ((e : ℕ) → HasSlot new e → HasSlot old e ⊎ (e ≡ n))
    → AreFirst has hash (n + 1) new
first_kept {K} has hash n old new l tied own here none reached kept only = record {
  keyed = λ e stands. ⊎_elim
      (λ (stood : HasSlot old e). tied.keyed e stood)
      (λ (same : e ≡ n). (l, subst (λ j. has l j ≡ true) (sym same) here))
      (only e stands);
  only = λ k e stands is. ⊎_elim
      (λ (stood : HasSlot old e). later_here (has k) n e (tied.only k e stood is) ∙ tied.only k e stood is)
      (λ (same : e ≡ n).
      let at : has k n ≡ true = subst (λ j. has k j ≡ true) same is in
      new_here (has k) n (ap (λ x. first_below (has x) n) (own k at) ∙ none) at ∙ ap Some (sym same))
      (only e stands);
  all = λ k e first. on k e first (first_below (has k) n) refl (has k n) refl;
}
  where
    on : (k : K) (e : ℕ) → first_below (has k) (n + 1) ≡ Some e → (o : Option ℕ) → first_below (has k) n ≡ o → (b : Bool) → has k n ≡ b
        → IsReached new (hash k) e
    on k e first (Some m) was b _ = kept (hash k) e (tied.all k e (sym (later_here (has k) n m was) ∙ first))
    on k e first None was false off = absurd (none-some e (sym was ∙ sym (none_here (has k) n off) ∙ first))
    on k e first None was true at =
        let same : n ≡ e = same_Some n e (sym (new_here (has k) n was at) ∙ first) in
        subst (IsReached new (hash k)) same (subst (λ x. IsReached new (hash x) n) (sym (own k at)) reached)

-- ---- what is kept, with the order in which it came

pub kept_none : {K : Type 0} (has : K → ℕ → Bool) (hash : K → ℕ) (kept : Kept) → length kept.slots.slots ≡ 0 → length kept.order.items ≡ 0
    → AreKept has hash 0 kept
kept_none has hash kept none empty = record {
  first = first_none has hash kept.slots.slots none;
  order = λ i e at. absurd (omega (arith, empty, slice_get_within kept.order.items i e at));
}

pub kept_still : {K : Type 0} (has : K → ℕ → Bool) (hash : K → ℕ) (n : ℕ) (kept : Kept) → ((k : K) → has k n ≡ false)
    → AreKept has hash n kept → AreKept has hash (n + 1) kept
kept_still has hash n kept none tied = record {
  first = first_still has hash n kept.slots.slots tied.first (λ k. none_here (has k) n (none k));
  order = tied.order;
}

pub kept_later : {K : Type 0} (has : K → ℕ → Bool) (hash : K → ℕ) (n m : ℕ) (kept : Kept) (l : K) → ((k : K) → has k n ≡ true → k ≡ l)
    → first_below (has l) n ≡ Some m → AreKept has hash n kept → AreKept has hash (n + 1) kept
kept_later has hash n m kept l own first tied = record {
  first = first_later has hash n m kept.slots.slots l tied.first own first;
  order = tied.order;
}

pub kept_more : {K : Type 0} (has : K → ℕ → Bool) (hash : K → ℕ) (n : ℕ) (old new : Kept) (l : K) → ((k : K) → has k n ≡ true → k ≡ l)
    → has l n ≡ true → first_below (has l) n ≡ None → IsAppended (hash l) n old new → AreKept has hash n old → AreKept has hash (n + 1) new
kept_more has hash n old new l own here none behind tied = record {
  first = first_kept has hash n old.slots.slots new.slots.slots l tied.first own here none behind.put.reached behind.put.kept behind.put.only;
  order = λ i e at.
      let placed : slice_get (old.order.items ++ n ∷ []) i ≡ Some e = ap (λ xs. slice_get xs i) (sym behind.order) ∙ at in
      ⊎_elim
      (λ (last : i ≡ length old.order.items).
      let same : n ≡ e = same_Some n e (sym (ap (slice_get (old.order.items ++ n ∷ [])) last ∙ get-pushed_here old.order.items n) ∙ placed) in
      (hash l, subst (IsReached new.slots.slots (hash l)) same behind.put.reached))
      (λ apart.
      let was = tied.order i e (sym (get-pushed_other old.order.items n i apart) ∙ placed) in
      (was.0, behind.put.kept was.0 e was.1))
      (cases_eq i (length old.order.items));
}

-- what stands in order stands in a slot
pub order_stands : {K : Type 0} (has : K → ℕ → Bool) (hash : K → ℕ) (n : ℕ) (kept : Kept) (i e : ℕ) → AreKept has hash n kept
    → slice_get kept.order.items i ≡ Some e → HasSlot kept.slots.slots e
order_stands has hash n kept i e tied at =
    let reached = tied.order i e at in reached_stands kept.slots.slots reached.0 e reached.1

-- what stands in order and has a key is the first that has it
pub order_first : {K : Type 0} (has : K → ℕ → Bool) (hash : K → ℕ) (n : ℕ) (kept : Kept) (k : K) (i e : ℕ) → AreKept has hash n kept
    → slice_get kept.order.items i ≡ Some e → has k e ≡ true → first_below (has k) n ≡ Some e
order_first has hash n kept k i e tied at is = tied.first.only k e (order_stands has hash n kept i e tied at) is
