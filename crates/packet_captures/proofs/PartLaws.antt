-- Which parts overlap, and where parts stand in a whole.
use Rattle.std.proofs.Common.{◌≡◌, ℕ, zero, suc, ◌+◌, ◌-◌, ◌<◌, ◌≤◌, ◌⊎◌, inl, inr, Bool, true, false, ◌&&◌, List, [], ◌∷◌, ◌++◌, length, refl, arith}
use Rattle.std.proofs.Math.Seq.{drop-append-add, take-append_seam}
use Rattle.std.proofs.lemmas.Bool.{leb-true, leb-false, lt-leb, eqb-true}
use Rattle.std.proofs.lemmas.List.{length-append}
use Rattle.std.specs.Prelude.{◌==◌, nat_le, insert, Option, Some, None, if◌then◌else◌}
use Rattle.packet_captures.specs.Pending.{PlainPart, end_of, index_from, cover, joined}
use Rattle.packet_captures.specs.Parts.{OverlapsOne, AllBehind, AreInOrder, AllStandIn}

-- which way a test went
some_first : {X : Type 0} (t : Bool) (x : X) (y : Option X) → (if t then Some x else y) ≡ None → (t ≡ false) × (y ≡ None)
some_first true x y h = absurd (cc)
some_first false x y h = (refl, h)

none_last : {X : Type 0} (t : Bool) (y : Option X) → (if t then y else None) ≡ None → ((t ≡ true) × (y ≡ None)) ⊎ (t ≡ false)
none_last true y h = inl (refl, h)
none_last false y h = inr refl

found_first : (t : Bool) (i n : ℕ) (y : Option ℕ) → (if t then Some i else y) ≡ Some n → ((t ≡ true) × (i ≡ n)) ⊎ ((t ≡ false) × (y ≡ Some n))
found_first true i n y h = inl (refl, cc)
found_first false i n y h = inr (refl, h)

found_behind : (t : Bool) (n : ℕ) (y : Option ℕ) → (if t then y else None) ≡ Some n → (t ≡ true) × (y ≡ Some n)
found_behind true n y h = (refl, h)
found_behind false n y h = absurd (cc)

-- where no index is found, a part overlaps
pub overlap_found : (i : ℕ) (p : PlainPart) (ps : List PlainPart) → index_from i p.offset (end_of p) ps ≡ None → OverlapsOne p ps
overlap_found i p [] none = absurd (cc)
overlap_found i p (q ∷ qs) none =
    let first = some_first (nat_le (end_of p) q.offset) i _ none in
    elim (none_last (nat_le (end_of q) p.offset) (index_from (i + 1) p.offset (end_of p) qs) first.1) [
      | inl h ↦ inr (overlap_found (i + 1) p qs h.1)
      | inr h ↦ inl (leb-false (end_of q) p.offset h, leb-false (end_of p) q.offset first.0)
    ]

-- a part that overlaps one behind a place ends behind it
overlap_behind : (at : ℕ) (p : PlainPart) (ps : List PlainPart) → AllBehind at ps → OverlapsOne p ps → at < end_of p
overlap_behind at p [] behind overlap = absurd overlap
overlap_behind at p (q ∷ qs) behind (inl overlap) = let first = behind.0 in let second = overlap.1 in omega arith
overlap_behind at p (q ∷ qs) behind (inr overlap) = overlap_behind at p qs behind.1 overlap

-- where a part overlaps, no index is found
pub found_overlap : (i : ℕ) (p : PlainPart) (ps : List PlainPart) → AreInOrder ps → OverlapsOne p ps → index_from i p.offset (end_of p) ps ≡ None
found_overlap i p [] order overlap = absurd overlap
found_overlap i p (q ∷ qs) order (inl overlap) =
    rw (lt-leb (end_of p) q.offset overlap.1, lt-leb (end_of q) p.offset overlap.0) refl
found_overlap i p (q ∷ qs) order (inr overlap) =
    let later = overlap_behind (end_of q) p qs order.0 overlap in
    let before : q.offset < end_of p = omega arith in
    rw (lt-leb (end_of p) q.offset before) (either (nat_le (end_of q) p.offset) (found_overlap (i + 1) p qs order.1 overlap))
  where
    either : (t : Bool) → index_from (i + 1) p.offset (end_of p) qs ≡ None → (if t then index_from (i + 1) p.offset (end_of p) qs else None) ≡ None
    either true h = h
    either false h = refl

-- A part that was placed: at an index among those that are there, and all behind it begin behind its end.
pub record IsPlaced (i n : ℕ) (p : PlainPart) (ps : List PlainPart) : Type 0 where
  pub index : ℕ
  pub is_index : n ≡ i + index
  pub within : index ≤ length ps
  pub in_order : AreInOrder (insert ps index p)

-- what is put among parts behind a place, behind that place
behind_inserted : (at n : ℕ) (p : PlainPart) (ps : List PlainPart) → at ≤ p.offset → AllBehind at ps → AllBehind at (insert ps n p)
behind_inserted at zero p ps here behind = (here, behind)
behind_inserted at (suc n) p [] here behind = (here, tt)
behind_inserted at (suc n) p (q ∷ qs) here behind = (behind.0, behind_inserted at n p qs here behind.1)

-- parts behind one that is behind a place
behind_later : (at later : ℕ) (ps : List PlainPart) → at ≤ later → AllBehind later ps → AllBehind at ps
behind_later at later [] le behind = tt
behind_later at later (p ∷ ps) le behind = let first = behind.0 in (omega arith, behind_later at later ps le behind.1)

-- a part at its index keeps the order
pub placed_in_order : (i n : ℕ) (p : PlainPart) (ps : List PlainPart) → AreInOrder ps → index_from i p.offset (end_of p) ps ≡ Some n → IsPlaced i n p ps
placed_in_order i n p [] order found = record { index = 0; is_index = let e : i ≡ n = cc in omega arith; within = omega arith; in_order = (tt, tt) }
placed_in_order i n p (q ∷ qs) order found =
    elim (found_first (nat_le (end_of p) q.offset) i n _ found) [
      | inl h ↦
          let before = leb-true (end_of p) q.offset h.0 in
          let same = h.1 in
          record {
            index = 0;
            is_index = omega arith;
            within = omega arith;
            in_order = ((before, behind_later (end_of p) (end_of q) qs (omega arith) order.0), order);
          }
      | inr h ↦
          let second = found_behind (nat_le (end_of q) p.offset) n _ h.1 in
          let later = placed_in_order (i + 1) n p qs order.1 second.1 in
          let is_index = later.is_index in
          let within = later.within in
          record {
            index = suc later.index;
            is_index = omega arith;
            within = omega arith;
            in_order = (behind_inserted (end_of q) later.index p qs (leb-true (end_of q) p.offset second.0) order.0, later.in_order);
          }
    ]

-- both tests hold
and_true : (p q : Bool) → (p && q) ≡ true → (p ≡ true) × (q ≡ true)
and_true true q h = (refl, h)
and_true false q h = absurd (cc)

-- the whole reaches from the first part's place to the end
pub joined_length : (at end : ℕ) (ps : List PlainPart) → cover at end ps ≡ true → at + length (joined ps) ≡ end
joined_length at end [] whole = let e = eqb-true at end whole in omega arith
joined_length at end (p ∷ ps) whole =
    let here = and_true (p.offset == at) (cover (end_of p) end ps) whole in
    let first = eqb-true p.offset at here.0 in
    let rest = joined_length (end_of p) end ps here.1 in
    let size = length-append p.bytes (joined ps) in
    omega arith

-- parts that follow one another from a place begin there or behind it
cover_behind : (at end : ℕ) (ps : List PlainPart) → cover at end ps ≡ true → AllBehind at ps
cover_behind at end [] whole = tt
cover_behind at end (p ∷ ps) whole =
    let here = and_true (p.offset == at) (cover (end_of p) end ps) whole in
    let first = eqb-true p.offset at here.0 in
    (omega arith, behind_later at (end_of p) ps (omega arith) (cover_behind (end_of p) end ps here.1))

-- what stands at its place stands there with more in front
behind_more : (front whole : List ℕ) (at next : ℕ) (ps : List PlainPart) → next ≡ at + length front → AllBehind next ps → AllStandIn whole next ps
    → AllStandIn (front ++ whole) at ps
behind_more front whole at next [] place behind stand = tt
behind_more front whole at next (p ∷ ps) place behind stand =
    let first = behind.0 in
    let shift : p.offset - at ≡ length front + (p.offset - next) = omega arith in
    (rw (shift, drop-append-add front whole (p.offset - next)) stand.0, behind_more front whole at next ps place behind.1 stand.1)

-- each part stands in the whole at its place
pub parts_stand : (at end : ℕ) (ps : List PlainPart) → cover at end ps ≡ true → AllStandIn (joined ps) at ps
parts_stand at end [] whole = tt
parts_stand at end (p ∷ ps) whole =
    let here = and_true (p.offset == at) (cover (end_of p) end ps) whole in
    let first = eqb-true p.offset at here.0 in
    let none : p.offset - at ≡ 0 = omega arith in
    let next : end_of p ≡ at + length p.bytes = omega arith in (
      rw (none, take-append_seam p.bytes (joined ps)) refl,
      behind_more p.bytes (joined ps) at (end_of p) ps next (cover_behind (end_of p) end ps here.1) (parts_stand (end_of p) end ps here.1),
    )
