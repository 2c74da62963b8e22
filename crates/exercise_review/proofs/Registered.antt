-- The entries under each key, one entry more at a time.
use Rattle.std.proofs.Common.{◌≡◌, ⊎_elim, ℕ, ◌+◌, ◌<◌, ◌≤◌, [], ◌∷◌, ◌++◌, length, true, false, Option, Some, None, refl, sym, ap, ◌∙◌, subst, arith}
use Rattle.std.specs.declared.alloc.Global.{Global}
use Rattle.std.specs.declared.alloc.AllocError.{AllocError}
use Rattle.std.specs.Prelude.{Vec, Result, Ok, Err, OnOk, is_some, slice_get, slice_index_or, nat_eq, option_and_then, if◌then◌else◌}
use Rattle.std.specs.List.{list_any, IsDistinct}
use Rattle.std.specs.Option.{option_map_or}
use Rattle.std.proofs.Math.Numerals.{add-one}
use Rattle.std.proofs.Math.ListN.{get_or-eq_default}
use Rattle.std.proofs.lemmas.List.{length_push, get_or_append_left, get_or_at}
use Rattle.std.proofs.lemmas.Bool.{cases_lt, eqb-true, eq-eqb, ne_eqb}
use Rattle.std.proofs.lemmas.Map.Keys.{any_passes_from_place}
use Rattle.std.proofs.lemmas.Option.{same_Some, slice_get_within}
use Rattle.exercise_findings.specs.Number.{entry_of}
use Rattle.exercise_review.specs.Counted.{last_below}
use Rattle.exercise_review.specs.Register.{Keys, holds, no_entry, key_numbered, IsPlaced, AreRegistered, IsKept}
use Rattle.exercise_review.specs.declared.entry_chains.EntryChains.{EntryChains}
use Rattle.exercise_review.proofs.KeyList.{one_place, at_front, at_either}
use Rattle.exercise_review.proofs.Runs.{there}
use Rattle.exercise_review.proofs.FirstOnes.{off}
use Rattle.exercise_review.proofs.Walks.{last_found}

pub registered_none : (keys : ℕ → Option ℕ) (w : EntryChains) → length w.keys.keys ≡ 0 → IsDistinct nat_eq w.keys.keys → length w.last.items ≡ 0 → length w.places.items ≡ 0
    → AreRegistered keys 0 w
unfolding last_below
registered_none keys w none unique last places = record {
  unique = unique;
  count = last ∙ sym none;
  last = λ p k at. absurd (let l = slice_get_within w.keys.keys p k at in let no : ⊥ = omega (arith, l, none) in no);
  places = λ i l. absurd (let no : ⊥ = omega (arith, l) in no);
  rest = λ i _. get_or-eq_default w.places.items no_entry {n = i} (omega (arith, places));
  before = λ i l. absurd (let no : ⊥ = omega (arith, l) in no);
}

-- ---- what the next entry leaves as it is

-- a key that the next entry does not have
last_still : (keys : ℕ → Option ℕ) (n k : ℕ) → holds keys k n ≡ false → last_below (holds keys k) (n + 1) ≡ last_below (holds keys k) n
unfolding last_below
last_still keys n k none = ap (last_below (holds keys k)) (add-one n) ∙ ap (λ b. if b then Some n else last_below (holds keys k) n) none

-- a key that it has
last_here : (keys : ℕ → Option ℕ) (n k : ℕ) → holds keys k n ≡ true → last_below (holds keys k) (n + 1) ≡ Some n
unfolding last_below
last_here keys n k has = ap (last_below (holds keys k)) (add-one n) ∙ ap (λ b. if b then Some n else last_below (holds keys k) n) has

holds_own : (keys : ℕ → Option ℕ) (n k : ℕ) → keys n ≡ Some k → holds keys k n ≡ true
unfolding holds
holds_own keys n k is = ap (λ o. option_map_or (λ l. nat_eq l k) o false) is ∙ eq-eqb k k refl

holds_none : (keys : ℕ → Option ℕ) (n k : ℕ) → keys n ≡ None → holds keys k n ≡ false
unfolding holds
holds_none keys n k is = ap (λ o. option_map_or (λ l. nat_eq l k) o false) is

-- what an entry holds is its key
pub held_key : (keys : ℕ → Option ℕ) (n k : ℕ) → holds keys k n ≡ true → keys n ≡ Some k
unfolding holds
held_key keys n k has =
    let found = there (λ l. nat_eq l k) (keys n) has in
    found.1 ∙ ap Some (eqb-true found.0 k found.2)

holds_other : (keys : ℕ → Option ℕ) (n k l : ℕ) → keys n ≡ Some k → (k ≡ l → ⊥) → holds keys l n ≡ false
holds_other keys n k l is other = off (holds keys l n) (λ has. other (same_Some k l (sym is ∙ held_key keys n l has)))

-- ---- an entry without a key

pub registered_still : (keys : ℕ → Option ℕ) (n : ℕ) (w : EntryChains) → keys n ≡ None → AreRegistered keys n w → AreRegistered keys (n + 1) w
registered_still keys n w none so_far = record {
  unique = so_far.unique;
  count = so_far.count;
  last = λ p k at. so_far.last p k at ∙ sym (last_still keys n k (holds_none keys n k none));
  places = λ i l. ⊎_elim
      (λ (below : i < n). so_far.places i below)
      (λ (from : n ≤ i). let same : n ≡ i = omega (arith, from, l) in
      subst (λ m. IsPlaced w.keys (keys m) (slice_index_or w.places.items m no_entry)) same
      (record { is = ap (key_numbered w.keys) (so_far.rest n (omega arith)) ∙ sym none; none = λ _. so_far.rest n (omega arith) }))
      (cases_lt i n);
  rest = λ i l. so_far.rest i (omega (arith, l));
  before = λ i l. ⊎_elim
      (λ (below : i < n). so_far.before i below)
      (λ (from : n ≤ i) k has. let same : n ≡ i = omega (arith, from, l) in
      absurd (let no : false ≡ true = sym (holds_none keys n k none) ∙ ap (holds keys k) same ∙ has in cc))
      (cases_lt i n);
}

-- none has one from where the column of places ends
pub unplaced : (keys : ℕ → Option ℕ) (n i : ℕ) (w : EntryChains) → AreRegistered keys n w → length w.places.items ≤ i → i < n → keys i ≡ None
unplaced keys n i w so_far past below =
    sym (so_far.places i below).is ∙ ap (key_numbered w.keys) (get_or-eq_default w.places.items no_entry {n = i} past)

-- ---- an entry with one

number_of_place : (keys : Keys) (p k : ℕ) → p < no_entry → slice_get keys.keys p ≡ Some k → key_numbered keys p ≡ Some k
number_of_place keys p k few at =
    ap (λ b. option_and_then (slice_get keys.keys) (if b then None else Some p)) (ne_eqb p no_entry (λ same. absurd (omega (arith, few, same)))) ∙ at

here : {X : Type 0} (n : ℕ) (x y : X) → (if nat_eq n n then x else y) ≡ x
here {X} n x y = ap (λ b. if b then x else y) (eq-eqb n n refl)

elsewhere : {X : Type 0} (i n : ℕ) (x y : X) → (i ≡ n → ⊥) → (if nat_eq i n then x else y) ≡ y
elsewhere {X} i n x y other = ap (λ b. if b then x else y) (ne_eqb i n other)

pub registered_more : (keys : ℕ → Option ℕ) (n p k : ℕ) (old new : EntryChains) → n < no_entry → p < no_entry → keys n ≡ Some k → slice_get old.keys.keys p ≡ Some k
    → IsKept n p old new → AreRegistered keys n old → AreRegistered keys (n + 1) new
registered_more keys n p k old new few small key at kept so_far = record {
  unique = subst (λ (x : Keys). IsDistinct nat_eq x.keys) (sym kept.keys) so_far.unique;
  count = kept.count ∙ so_far.count ∙ ap (λ (x : Keys). length x.keys) (sym kept.keys);
  last = λ q l there. last_of q l (ap (λ (x : Keys). slice_get x.keys q) (sym kept.keys) ∙ there);
  places = λ i l. subst (λ (x : Keys). IsPlaced x (keys i) (slice_index_or new.places.items i no_entry)) (sym kept.keys)
      (subst (IsPlaced old.keys (keys i)) (sym (kept.places i)) (place_of i l));
  rest = λ i l. kept.places i ∙ elsewhere i n p (slice_index_or old.places.items i no_entry) (λ same. absurd (omega (arith, l, same))) ∙ so_far.rest i (omega (arith, l));
  before = λ i l. ⊎_elim
      (λ (below : i < n) m has. ap entry_of (kept.before i ∙ elsewhere i n _ _ (λ same. absurd (omega (arith, below, same)))) ∙ so_far.before i below m has)
      (λ (from : n ≤ i) m has. let same : i ≡ n = omega (arith, from, l) in
      let own : k ≡ m = same_Some k m (sym key ∙ ap keys (sym same) ∙ held_key keys i m has) in
      ap entry_of (kept.before i ∙ ap (λ j. if nat_eq j n then slice_index_or old.last.items p no_entry else slice_index_or old.before.items j no_entry) same
      ∙ here n _ _)
      ∙ so_far.last p k at ∙ ap (λ x. last_below (holds keys x) n) own ∙ ap (last_below (holds keys m)) (sym same))
      (cases_lt i n);
}
  where
    place_of : (i : ℕ) → i < n + 1 → IsPlaced old.keys (keys i) (if nat_eq i n then p else slice_index_or old.places.items i no_entry)
    place_of i l = ⊎_elim
        (λ (below : i < n). subst (IsPlaced old.keys (keys i)) (sym (elsewhere i n p (slice_index_or old.places.items i no_entry) (λ same. absurd (omega (arith, below, same)))))
        (so_far.places i below))
        (λ (from : n ≤ i). let same : n ≡ i = omega (arith, from, l) in
        subst (λ m. IsPlaced old.keys (keys m) (if nat_eq m n then p else slice_index_or old.places.items m no_entry)) same
        (subst (IsPlaced old.keys (keys n)) (sym (here n p (slice_index_or old.places.items n no_entry)))
        (record { is = number_of_place old.keys p k small at ∙ sym key; none = λ absent. absurd (let clash : Some k ≡ None = sym key ∙ absent in cc) })))
        (cases_lt i n)

    last_of : (q l : ℕ) → slice_get old.keys.keys q ≡ Some l → entry_of (slice_index_or new.last.items q no_entry) ≡ last_below (holds keys l) (n + 1)
    last_of q l there = ap entry_of (kept.last q) ∙ elim (nat_eq q p) as (λ b. nat_eq q p ≡ b
        → entry_of (if b then n else slice_index_or old.last.items q no_entry) ≡ last_below (holds keys l) (n + 1)) [
          | true ↦ λ same.
              let own : k ≡ l = same_Some k l (sym at ∙ ap (slice_get old.keys.keys) (sym (eqb-true q p same)) ∙ there) in
              ap (λ b. if b then None else Some n) (ne_eqb n no_entry (λ e. absurd (omega (arith, few, e))))
              ∙ sym (last_here keys n l (subst (λ x. holds keys x n ≡ true) own (holds_own keys n k key)))
          | false ↦ λ apart.
              so_far.last q l there
              ∙ sym (last_still keys n l (holds_other keys n k l key (λ same.
              let places : q ≡ p = one_place old.keys.keys q p k so_far.unique (there ∙ ap Some (sym same)) at in
              let clash : true ≡ false = sym (eq-eqb q p places) ∙ apart in absurd (cc))))
        ] refl

-- ---- a key that is new

-- no entry so far has a key that stands nowhere
pub none_sought : (keys : ℕ → Option ℕ) (n k : ℕ) (w : EntryChains) → AreRegistered keys n w → list_any (nat_eq k) w.keys.keys ≡ false → last_below (holds keys k) n ≡ None
none_sought keys n k w so_far absent = by_last (last_below (holds keys k) n) refl
  where
    stands : (i : ℕ) → i < n → keys i ≡ Some k → ⊥
    stands i l is = by_number (entry_of (slice_index_or w.places.items i no_entry)) ((so_far.places i l).is ∙ is)
      where
        by_number : (o : Option ℕ) → option_and_then (slice_get w.keys.keys) o ≡ Some k → ⊥
        by_number None at = absurd (cc)
        by_number (Some p) at =
            let clash : true ≡ false = sym (any_passes_from_place (nat_eq k) w.keys.keys p k at (eq-eqb k k refl)) ∙ absent in absurd (cc)

    by_last : (o : Option ℕ) → last_below (holds keys k) n ≡ o → o ≡ None
    by_last None e = refl
    by_last (Some i) e = let found = last_found (holds keys k) n i e in absurd (stands i found.0 (held_key keys i k found.1))

pub registered_new : (keys : ℕ → Option ℕ) (n k : ℕ) (old new : EntryChains) → list_any (nat_eq k) old.keys.keys ≡ false → IsDistinct nat_eq new.keys.keys
    → new.keys.keys ≡ old.keys.keys ++ k ∷ [] → new.last.items ≡ old.last.items ++ no_entry ∷ [] → new.places ≡ old.places → new.before ≡ old.before
    → AreRegistered keys n old → AreRegistered keys n new
registered_new keys n k old new absent unique more last places before so_far = record {
  unique = unique;
  count = ap length last ∙ length_push old.last.items no_entry ∙ ap (λ x. x + 1) so_far.count ∙ sym (ap length more ∙ length_push old.keys.keys k);
  last = λ p l at. ⊎_elim
      (λ (old_one : slice_get old.keys.keys p ≡ Some l).
      let within = slice_get_within old.keys.keys p l old_one in
      ap entry_of (ap (λ xs. slice_index_or xs p no_entry) last ∙ get_or_append_left old.last.items (no_entry ∷ []) no_entry p (omega (arith, within, so_far.count)))
      ∙ so_far.last p l old_one)
      (λ (new_one : (p ≡ length old.keys.keys) × (k ≡ l)).
      ap entry_of (ap (λ xs. slice_index_or xs p no_entry) last ∙ get_or_at old.last.items no_entry [] no_entry p (so_far.count ∙ sym new_one.0))
      ∙ sym (none_sought keys n k old so_far absent) ∙ ap (λ x. last_below (holds keys x) n) new_one.1)
      (at_either old.keys.keys k p l (ap (λ xs. slice_get xs p) (sym more) ∙ at));
  places = λ i l. subst (λ (x : Vec ℕ Global). IsPlaced new.keys (keys i) (slice_index_or x.items i no_entry)) (sym places)
      (place_of (keys i) (slice_index_or old.places.items i no_entry) (so_far.places i l));
  rest = λ i l. ap (λ (x : Vec ℕ Global). slice_index_or x.items i no_entry) places ∙ so_far.rest i l;
  before = λ i l m has. ap (λ (x : Vec ℕ Global). entry_of (slice_index_or x.items i no_entry)) before ∙ so_far.before i l m has;
}
  where
    at_more : (l : ℕ) (o : Option ℕ) → option_and_then (slice_get old.keys.keys) o ≡ Some l → option_and_then (slice_get new.keys.keys) o ≡ Some l
    at_more l None at = absurd (cc)
    at_more l (Some p) at = ap (λ xs. slice_get xs p) more ∙ at_front old.keys.keys k p l at

    place_of : (key : Option ℕ) (number : ℕ) → IsPlaced old.keys key number → IsPlaced new.keys key number
    place_of None number was = record { is = ap (key_numbered new.keys) (was.none refl); none = was.none }
    place_of (Some l) number was = record { is = at_more l (entry_of number) was.is; none = was.none }

-- AN ENTRY THAT IS KEPT as the last under a key has that key
pub key_of_last : (keys : ℕ → Option ℕ) (n p k i : ℕ) (w : EntryChains) → AreRegistered keys n w → slice_get w.keys.keys p ≡ Some k
    → entry_of (slice_index_or w.last.items p no_entry) ≡ Some i → (i < n) × (keys i ≡ Some k)
key_of_last keys n p k i w so_far at is =
    let found = last_found (holds keys k) n i (sym (so_far.last p k at) ∙ is) in
    (found.0, held_key keys i k found.1)

-- where the key of an entry stands, the last entry under it is kept
pub last_of_key : (keys : ℕ → Option ℕ) (n p k i : ℕ) (w : EntryChains) → AreRegistered keys n w → i < n → holds keys k i ≡ true
    → entry_of (slice_index_or w.places.items i no_entry) ≡ Some p → entry_of (slice_index_or w.last.items p no_entry) ≡ last_below (holds keys k) n
last_of_key keys n p k i w so_far within has at =
    so_far.last p k (ap (option_and_then (slice_get w.keys.keys)) (sym at) ∙ (so_far.places i within).is ∙ held_key keys i k has)

-- ---- what is kept where there was memory for it

pub kept_more : (n p k : ℕ) (old mid new : EntryChains) (told : Option ℕ) (result : Result (Unit {0}) AllocError) → n < no_entry → p < no_entry → told ≡ Some k
    → slice_get mid.keys.keys p ≡ Some k → ((keys : ℕ → Option ℕ) → AreRegistered keys n old → AreRegistered keys n mid) → OnOk result (IsKept n p mid new)
    → OnOk result ((keys : ℕ → Option ℕ) → told ≡ keys n → AreRegistered keys n old → AreRegistered keys (n + 1) new)
kept_more n p k old mid new told (Err e) few small is at same kept = tt
kept_more n p k old mid new told (Ok x) few small is at same kept =
    λ keys key so_far. registered_more keys n p k mid new few small (sym key ∙ is) at kept (same keys so_far)

-- ---- where a key stands

-- a number stands for a place where there is a key
is_placed : (keys : Keys) (key : Option ℕ) (number : ℕ) → IsPlaced keys key number → is_some (entry_of number) ≡ is_some key
is_placed keys None number placed = ap (λ n. is_some (entry_of n)) (placed.none refl)
is_placed keys (Some k) number placed = has (entry_of number) placed.is
  where
    has : (o : Option ℕ) → option_and_then (slice_get keys.keys) o ≡ Some k → is_some o ≡ true
    has None h = absurd (cc)
    has (Some x) h = refl

pub is_indexed : (keys : ℕ → Option ℕ) (n i : ℕ) (w : EntryChains) → AreRegistered keys n w → i < n → is_some (entry_of (slice_index_or w.places.items i no_entry)) ≡ is_some (keys i)
is_indexed keys n i w tied within = is_placed w.keys (keys i) (slice_index_or w.places.items i no_entry) (tied.places i within)
