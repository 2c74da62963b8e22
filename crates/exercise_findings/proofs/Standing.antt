-- What is put into slots is found in them, and nothing else stands there.
use Rattle.std.proofs.Common.{◌≡◌, ℕ, zero, suc, ◌+◌, ◌<◌, ◌≤◌, List, [], ◌∷◌, length, set, map, replicate, Some, Bool, false, refl, sym, ap, ◌∙◌, subst, ⊎_elim, inl, inr, arith}
use Rattle.std.specs.Prelude.{◌≢◌, ◌⊎◌, slice_get}
use Rattle.std.proofs.Math.Numerals.{add-one}
use Rattle.std.proofs.lemmas.List.{length-set}
use Rattle.std.proofs.lemmas.Option.{same_Some, slice_get_within}
use Rattle.std.proofs.lemmas.Bool.{cases_lt, cases_eq}
use borrow.Author.Count.{below_more}
use Rattle.exercise_findings.specs.declared.slots.Slot.{Slot}
use Rattle.exercise_findings.specs.Slots.{home, slot_behind, slot_on, HasEntry, AreTaken, IsFirstFree, IsReached, HasSlot, free_slot}
use Rattle.exercise_findings.proofs.EntityStates.{get-set_other, get-set_here}

-- ---- one slot after another

pub slot_on-none : (n hash : ℕ) → slot_on n hash 0 ≡ home n hash
unfolding slot_on
slot_on-none n hash = refl

pub slot_on-next : (n hash d : ℕ) → slot_on n hash (d + 1) ≡ slot_behind n (slot_on n hash d)
unfolding slot_on
slot_on-next n hash d = ap (slot_on n hash) (add-one d)

pub taken_none : (slots : List Slot) (hash : ℕ) → AreTaken slots hash 0
taken_none slots hash c l = absurd (omega (arith, l))

pub taken_more : (slots : List Slot) (hash d : ℕ) (s : Slot) → AreTaken slots hash d → slice_get slots (slot_on (length slots) hash d) ≡ Some s
    → s.entry ≢ 0xFFFFFFFF → AreTaken slots hash (d + 1)
taken_more slots hash d s taken at some =
    below_more (λ (c : ℕ). (h : ℕ) × (e : ℕ) × HasEntry slots (slot_on (length slots) hash c) h e) d taken
    (s.hash, s.entry, record { at = at; some = some })

-- in each place is a slot
pub slot_there : (slots : List Slot) (i : ℕ) → i < length slots → (s : Slot) × (slice_get slots i ≡ Some s)
slot_there [] i l = absurd (omega (arith, l))
slot_there (s ∷ slots) zero l = (s, refl)
slot_there (s ∷ slots) (suc i) l = slot_there slots i (omega (arith, l))

-- what stands in one slot is one
pub one_slot : (slots : List Slot) (i h e : ℕ) (s : Slot) → HasEntry slots i h e → slice_get slots i ≡ Some s → (h ≡ s.hash) × (e ≡ s.entry)
one_slot slots i h e s has at =
    let same : record { hash = h; entry = e } ≡ s = same_Some {A = Slot} (record { hash = h; entry = e }) s (sym has.at ∙ at) in
    (ap (λ (x : Slot). x.hash) same, ap (λ (x : Slot). x.entry) same)

-- ---- what is not found

-- so many slots from the home of a hash on have no entry under it that is the one
abbrev pub PassResult : List Slot → ℕ → (ℕ → Bool) → ℕ → Type 0
PassResult slots hash is d = (c : ℕ) → c < d → (e : ℕ) → HasEntry slots (slot_on (length slots) hash c) hash e → is e ≡ false

pub passed_none : (slots : List Slot) (hash : ℕ) (is : ℕ → Bool) → PassResult slots hash is 0
passed_none slots hash is c l = absurd (omega (arith, l))

pub passed_more : (slots : List Slot) (hash : ℕ) (is : ℕ → Bool) (d : ℕ) (s : Slot) → PassResult slots hash is d
    → slice_get slots (slot_on (length slots) hash d) ≡ Some s → (s.hash ≡ hash → is s.entry ≡ false) → PassResult slots hash is (d + 1)
passed_more slots hash is d s passed at other =
    below_more (λ (c : ℕ). (e : ℕ) → HasEntry slots (slot_on (length slots) hash c) hash e → is e ≡ false) d passed
    (λ e has. let one = one_slot slots (slot_on (length slots) hash d) hash e s has at in ap is one.1 ∙ other (sym one.0))

-- behind a slot that is free nothing is found
pub absent_free : (slots : List Slot) (hash : ℕ) (is : ℕ → Bool) (d : ℕ) (s : Slot) → PassResult slots hash is d
    → slice_get slots (slot_on (length slots) hash d) ≡ Some s → s.entry ≡ 0xFFFFFFFF → (e : ℕ) → IsReached slots hash e → is e ≡ false
absent_free slots hash is d s passed at free e reached = ⊎_elim
    (λ (below : reached.steps < d). passed reached.steps below e reached.here)
    (λ (from : d ≤ reached.steps). ⊎_elim
    (λ (before : d < reached.steps).
    let taken = reached.taken d before in
    absurd (taken.2.some ((one_slot slots (slot_on (length slots) hash d) taken.0 taken.1 s taken.2 at).1 ∙ free)))
    (λ (upto : reached.steps ≤ d).
    let same : reached.steps ≡ d = omega (arith, from, upto) in
    let here : HasEntry slots (slot_on (length slots) hash d) hash e = subst (λ c. HasEntry slots (slot_on (length slots) hash c) hash e) same reached.here in
    absurd (here.some ((one_slot slots (slot_on (length slots) hash d) hash e s here at).1 ∙ free)))
    (cases_lt d reached.steps))
    (cases_lt reached.steps d)

-- where there are no slots nothing stands
pub stands_none : (slots : List Slot) (e : ℕ) → length slots ≡ 0 → HasSlot slots e → (P : Type 0) → P
stands_none slots e none stands P = absurd (omega (arith, none, slice_get_within slots stands.0 _ stands.2.at))

-- what all are the same number of
pub map_replicate : {A B : Type 0} (f : A → B) (n : ℕ) (x : A) → map f (replicate n x) ≡ replicate n (f x)
map_replicate f zero x = refl
map_replicate f (suc n) x = ap (λ xs. f x ∷ xs) (map_replicate f n x)

-- nor where all are free
all_free : (n i : ℕ) (s : Slot) → slice_get (replicate n free_slot) i ≡ Some s → s.entry ≡ 0xFFFFFFFF
all_free zero i s at = absurd (cc at)
all_free (suc n) zero s at = ap (λ (x : Slot). x.entry) (sym (same_Some {A = Slot} free_slot s at))
all_free (suc n) (suc i) s at = all_free n i s at

pub none_stands : (n e : ℕ) → HasSlot (replicate n free_slot) e → (P : Type 0) → P
none_stands n e stands P = absurd (stands.2.some (all_free n stands.0 (record { hash = stands.1; entry = e }) stands.2.at))

pub reached_stands : (slots : List Slot) (hash e : ℕ) → IsReached slots hash e → HasSlot slots e
reached_stands slots hash e reached = (slot_on (length slots) hash reached.steps, hash, reached.here)

-- ---- an entry is put into the first slot that is free

pub free_here : (slots : List Slot) (i : ℕ) (s : Slot) → slice_get slots i ≡ Some s → s.entry ≡ 0xFFFFFFFF
    → (h e : ℕ) → slice_get slots i ≡ Some (record { hash = h; entry = e }) → e ≡ 0xFFFFFFFF
free_here slots i s at free h e is =
    ap (λ (x : Slot). x.entry) (same_Some {A = Slot} (record { hash = h; entry = e }) s (sym is ∙ at)) ∙ free

has_kept : (slots : List Slot) (hash place i h e : ℕ) (s : Slot) → IsFirstFree slots hash place → HasEntry slots i h e → HasEntry (set slots place s) i h e
has_kept slots hash place i h e s free has =
    let apart : i ≢ place = λ same. has.some (free.free h e (subst (λ j. slice_get slots j ≡ Some (record { hash = h; entry = e })) same has.at)) in
    record { at = get-set_other slots place s i apart ∙ has.at; some = has.some }

taken_kept : (slots : List Slot) (hash place h d : ℕ) (s : Slot) → IsFirstFree slots hash place → AreTaken slots h d → AreTaken (set slots place s) h d
taken_kept slots hash place h d s free taken c l =
    let was = taken c l in (
      was.0,
      was.1,
      subst (λ n. HasEntry (set slots place s) (slot_on n h c) was.0 was.1) (sym (length-set slots place s))
          (has_kept slots hash place (slot_on (length slots) h c) was.0 was.1 s free was.2),
    )

pub reached_kept : (slots : List Slot) (hash place h e : ℕ) (s : Slot) → IsFirstFree slots hash place → IsReached slots h e → IsReached (set slots place s) h e
reached_kept slots hash place h e s free reached = record {
  steps = reached.steps;
  near = omega (arith, reached.near, length-set slots place s);
  here = subst (λ n. HasEntry (set slots place s) (slot_on n h reached.steps) h e) (sym (length-set slots place s))
      (has_kept slots hash place (slot_on (length slots) h reached.steps) h e s free reached.here);
  taken = taken_kept slots hash place h reached.steps s free reached.taken;
}

pub reached_put : (slots : List Slot) (hash place e : ℕ) → IsFirstFree slots hash place → e ≢ 0xFFFFFFFF
    → IsReached (set slots place (record { hash = hash; entry = e })) hash e
reached_put slots hash place e free some =
    let s : Slot = record { hash = hash; entry = e } in
    record {
      steps = free.steps;
      near = omega (arith, free.near, length-set slots place s);
      here = subst (λ i. HasEntry (set slots place s) i hash e) (free.at ∙ ap (λ n. slot_on n hash free.steps) (sym (length-set slots place s)))
          (record { at = get-set_here slots place s free.within; some = some });
      taken = taken_kept slots hash place hash free.steps s free free.taken;
    }

pub stands_put : (slots : List Slot) (hash place e : ℕ) → place < length slots → (x : ℕ) → HasSlot (set slots place (record { hash = hash; entry = e })) x
    → HasSlot slots x ⊎ (x ≡ e)
stands_put slots hash place e within x stands =
    let s : Slot = record { hash = hash; entry = e } in
    let i = stands.0 in
    let h = stands.1 in
    let has = stands.2 in
    ⊎_elim
    (λ (same : i ≡ place). inr ((one_slot (set slots place s) i h x s has (ap (slice_get (set slots place s)) same ∙ get-set_here slots place s within)).1))
    (λ apart. inl (i, h, record { at = sym (get-set_other slots place s i apart) ∙ has.at; some = has.some }))
    (cases_eq i place)
