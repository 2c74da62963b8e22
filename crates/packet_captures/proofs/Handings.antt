-- The whole is handed out when the last of its fragments comes.
use Rattle.std.proofs.Common.{◌≡◌, ◌≢◌, ℕ, zero, suc, ◌+◌, ◌<◌, ◌≤◌, ◌⊎◌, inl, inr, Bool, true, false, ◌&&◌, List, [], ◌∷◌, length, drop, replicate, refl, sym, ap, ◌∙◌, zero-add, arith}
use Rattle.std.proofs.lemmas.Bool.{ltb-true, le-leb, lt-ltb, ne_eqb, eq-eqb}
use Rattle.std.proofs.lemmas.List.{length-replicate}
use Rattle.std.proofs.lemmas.List.Edits.{length-insert, length-remove}
use Rattle.std.specs.Prelude.{◌==◌, nat_lt, insert, slice_get, slice_set, Option, Some, None, if◌then◌else◌}
use Rattle.std.specs.Option.{option_map, option_map_or}
use Rattle.packet_captures.specs.declared.assembly.TheConstants.{LARGEST_COUNT}
use Rattle.packet_captures.specs.declared.carried.Addresses.{Addresses}
use Rattle.packet_captures.specs.declared.fragment.Key.{Key}
use Rattle.packet_captures.specs.Carried.{PlainFragment}
use Rattle.packet_captures.specs.Pending.{PlainPart, PlainPending, same_key, end_of, begun_at, goes_on, is_wrong, index_from, extended, cover, is_complete, joined}
use Rattle.packet_captures.specs.Parts.{NoneIsOf, AreHeldWell}
use Rattle.packet_captures.specs.Assembly.{place_from, place_of, without, with_room, settled, taken, key_of, part_of}
use Rattle.packet_captures.specs.Arrival.{ArePartsOf, IsArrival, HaveCome}
use Rattle.packet_captures.specs.Handing.{fragment_of, handed, AreTimely, at_last}
use Rattle.packet_captures.proofs.HeldLaws.{key_self, key_same, extended_kept, begun_well, others_left, own_held, some_left, some_mapped, taken_kept}
use Rattle.packet_captures.proofs.Arrivals.{Holds, come, told, come_all, told_all, come_none, told_none, comes, covers, get_there, get_some, set_length, some_parts, part_between, not_empty}

-- the datagram of a key, if it is held
abbrev found : Key → List PlainPending → Option PlainPending
found key [] = None
found key (d ∷ ds) = if same_key key d.key then Some d else found key ds

-- it stands at its place
pub record IsFoundAt (i : ℕ) (key : Key) (ds : List PlainPending) : Type 0 where
  pub index : ℕ
  pub is_index : place_from i key ds ≡ i + index
  pub at_index : slice_get ds index ≡ found key ds

found_step : (i : ℕ) (key : Key) (d : PlainPending) (ds : List PlainPending) (t : Bool) → same_key key d.key ≡ t → IsFoundAt (i + 1) key ds → IsFoundAt i key (d ∷ ds)
found_step i key d ds true e later = record { index = 0; is_index = rw e (omega arith); at_index = rw e refl }
found_step i key d ds false e later = let is_index = later.is_index in record { index = suc later.index; is_index = rw e (omega arith); at_index = rw e later.at_index }

found_is : (i : ℕ) (key : Key) (ds : List PlainPending) → IsFoundAt i key ds
found_is i key [] = record { index = 0; is_index = omega arith; at_index = refl }
found_is i key (d ∷ ds) = found_step i key d ds (same_key key d.key) refl (found_is (i + 1) key ds)

found_at : (key : Key) (ds : List PlainPending) → slice_get ds (place_of key ds) ≡ found key ds
found_at key ds =
    let is = found_is 0 key ds in
    let index : place_of key ds ≡ is.index = is.is_index ∙ zero-add is.index in
    rw index is.at_index

-- another key is told apart
told_apart : (key other : Key) → other ≢ key → same_key key other ≡ false
told_apart key other differ = by_test (same_key key other) refl
  where
    by_test : (t : Bool) → same_key key other ≡ t → t ≡ false
    by_test true e = absurd (differ (sym (key_same key other e)))
    by_test false e = refl

found_none : (key : Key) (ds : List PlainPending) → NoneIsOf key ds → found key ds ≡ None
found_none key [] none = refl
found_none key (d ∷ ds) none = rw (told_apart key d.key none.0) (found_none key ds none.1)

found_inserted : (key : Key) (n : ℕ) (e : PlainPending) (ds : List PlainPending) → NoneIsOf key ds → e.key ≡ key → n ≤ length ds → found key (insert ds n e) ≡ Some e
found_inserted key zero e ds none same within = rw (same, key_self key) refl
found_inserted key (suc n) e [] none same within = absurd (omega arith)
found_inserted key (suc n) e (d ∷ ds) none same within = rw (told_apart key d.key none.0) (found_inserted key n e ds none.1 same (omega arith))

-- it is not the one that makes room
found_behind : (key : Key) (n : ℕ) (e : PlainPending) (ds : List PlainPending) → NoneIsOf key ds → e.key ≡ key → n ≡ length ds → 0 < length ds → found key (drop 1 (insert ds n e)) ≡ Some e
found_behind key n e [] none same within some = absurd (omega arith)
found_behind key zero e (d ∷ ds) none same within some = absurd (omega arith)
found_behind key (suc n) e (d ∷ ds) none same within some = found_inserted key n e ds none.1 same (omega arith)

found_room : (key : Key) (n : ℕ) (e : PlainPending) (ds : List PlainPending) → NoneIsOf key ds → e.key ≡ key → n ≤ length ds → length ds ≤ 64 → ((n ≡ length ds) ⊎ (length ds < 64))
    → found key (with_room (insert ds n e)) ≡ Some e
found_room key n e ds none same within limit room = by_test (nat_lt LARGEST_COUNT (length (insert ds n e))) refl room
  where
    by_test : (t : Bool) → nat_lt LARGEST_COUNT (length (insert ds n e)) ≡ t → ((n ≡ length ds) ⊎ (length ds < 64)) → found key (if t then drop 1 (insert ds n e) else insert ds n e) ≡ Some e
    by_test false test either = found_inserted key n e ds none same within
    by_test true test (inl last) =
        let many = ltb-true LARGEST_COUNT (length (insert ds n e)) test in
        let size = length-insert ds n e within in
        found_behind key n e ds none same last (omega arith)
    by_test true test (inr few) =
        let many = ltb-true LARGEST_COUNT (length (insert ds n e)) test in
        let size = length-insert ds n e within in
        absurd (omega arith)

-- What a fragment goes on with, or begins.
abbrev IsCurrent : Key → ℕ → List PlainPending → PlainPending → Type 0
IsCurrent key stamp held d = ((found key held ≡ None) × (d ≡ begun_at key stamp)) ⊎ ((found key held ≡ Some d) × (goes_on stamp d ≡ true))

-- The datagram with the fragment is settled among the others.
pub record IsSettled (held : List PlainPending) (stamp : ℕ) (f : PlainFragment) (e : PlainPending) : Type 0 where
  pub place : ℕ
  pub within : place ≤ length (without (key_of f) held)
  pub room : (place ≡ length (without (key_of f) held)) ⊎ (length (without (key_of f) held) < 64)
  pub settled_is : taken held stamp f ≡ settled (without (key_of f) held) place (Some e)
  pub same : e.key ≡ key_of f

place_below : (n : ℕ) (ds : List PlainPending) (x : PlainPending) → slice_get ds n ≡ Some x → n < length ds
place_below n [] x h = absurd (cc)
place_below zero (y ∷ ds) x h = omega arith
place_below (suc n) (y ∷ ds) x h = let later = place_below n ds x h in omega arith

settles : (held : List PlainPending) (stamp : ℕ) (f : PlainFragment) (d e : PlainPending) → AreHeldWell held → length f.bytes ≡ f.size → IsCurrent (key_of f) stamp held d
    → extended d (part_of f) f.more ≡ Some e → IsSettled held stamp f e
unfolding taken
settles held stamp f d e well whole (inl (none, begun)) more =
    let at = found_at (key_of f) held in
    let test = eq-eqb (length f.bytes) f.size whole in
    let first : extended (begun_at (key_of f) stamp) (part_of f) f.more ≡ Some e = rw (← begun) more in
    let kept = extended_kept (begun_at (key_of f) stamp) (part_of f) f.more e (begun_well (key_of f) stamp) first in
    record {
      place = length (without (key_of f) held);
      within = omega arith;
      room = inl refl;
      settled_is = rw (test, at, none, first) refl;
      same = kept.same_key;
    }
settles held stamp f d e well whole (inr (there, goes)) more =
    let at = found_at (key_of f) held in
    let here : slice_get held (place_of (key_of f) held) ≡ Some d = at ∙ there in
    let test = eq-eqb (length f.bytes) f.size whole in
    let own = own_held (key_of f) held d well here in
    let kept = extended_kept d (part_of f) f.more e own.well more in
    let size = length-remove held (place_of (key_of f) held) (place_below (place_of (key_of f) held) held d here) in
    let limit = well.limit in
    record {
      place = place_of (key_of f) held;
      within = own.within;
      room = inr (omega arith);
      settled_is = rw (test, here, goes, more) refl;
      same = kept.same_key ∙ own.same;
    }

-- what is handed out then
hands_out : (held : List PlainPending) (stamp : ℕ) (f : PlainFragment) (e : PlainPending) → IsSettled held stamp f e → is_complete e ≡ true → (taken held stamp f).whole ≡ Some (joined e.parts)
hands_out held stamp f e is complete = rw (is.settled_is, complete) refl

hands_nothing : (held : List PlainPending) (stamp : ℕ) (f : PlainFragment) (e : PlainPending) → IsSettled held stamp f e → is_complete e ≡ false → (taken held stamp f).whole ≡ None
hands_nothing held stamp f e is missing = rw (is.settled_is, missing) refl

holds_on : (held : List PlainPending) (stamp : ℕ) (f : PlainFragment) (e : PlainPending) → AreHeldWell held → IsSettled held stamp f e → is_complete e ≡ false
    → found (key_of f) (taken held stamp f).held ≡ Some e
holds_on held stamp f e well is missing =
    let others = others_left (key_of f) held well in
    let limit = others.well.limit in
    rw (is.settled_is, missing) (found_room (key_of f) is.place e (without (key_of f) held) others.none is.same is.within (omega arith) is.room)

-- a datagram begins once
extended_begun : (d : PlainPending) (p : PlainPart) (more : Bool) (e : PlainPending) → extended d p more ≡ Some e → e.begun ≡ d.begun
unfolding extended
extended_begun d p more e h =
    let passed = some_left (is_wrong d p more) (option_map (λ i. record d { end = if more then d.end else Some (end_of p); parts = insert d.parts i p }) (index_from 0 p.offset (end_of p) d.parts)) e h in
    let made = some_mapped (λ i. record d { end = if more then d.end else Some (end_of p); parts = insert d.parts i p }) (index_from 0 p.offset (end_of p) d.parts) e passed.1 in
    rw (← made.2) refl

-- while a part is missing, the datagram is not whole

-- parts behind a place do not cover from it
gap : (at at' end : ℕ) (came : List Bool) (ps : List PlainPart) → ArePartsOf at' end ps → at < at' → cover at end (come came ps) ≡ false
gap at at' end [] [] are before = absurd are
gap at at' end [] (p ∷ ps) are before = let first = part_between at' end 0 p (p ∷ ps) are refl in ne_eqb at end (λ same. absurd (omega arith))
gap at at' end (b ∷ bs) [] are before = absurd are
gap at at' end (true ∷ bs) (p ∷ ps) are before = let first = part_between at' end 0 p (p ∷ ps) are refl in rw (ne_eqb p.offset at (λ same. absurd (omega arith))) refl
gap at at' end (false ∷ []) (p ∷ []) are before = let last = are.1 in let first = are.0 in ne_eqb at end (λ same. absurd (omega arith))
gap at at' end (false ∷ b ∷ bs) (p ∷ []) are before = let last = are.1 in let first = are.0 in ne_eqb at end (λ same. absurd (omega arith))
gap at at' end (false ∷ bs) (p ∷ q ∷ ps) are before = let first = are.0 in gap at (end_of p) end bs (q ∷ ps) are.2 (omega arith)

false_behind : (t u : Bool) → u ≡ false → (t && u) ≡ false
false_behind true u none = none
false_behind false u none = refl

uncovered : (at end t l : ℕ) (came : List Bool) (ps : List PlainPart) → ArePartsOf at end ps → length came ≡ length ps → told end came ≡ Some t → slice_get came l ≡ Some false
    → cover at end (come came ps) ≡ false
uncovered at end t l [] ps are sizes last missing = absurd (cc)
uncovered at end t l (b ∷ bs) [] are sizes last missing = absurd are
uncovered at end t zero (true ∷ []) (p ∷ ps) are sizes last missing = absurd (cc)
uncovered at end t zero (false ∷ []) (p ∷ ps) are sizes last missing = absurd (cc)
uncovered at end t (suc l) (b ∷ []) (p ∷ ps) are sizes last missing = absurd (cc)
uncovered at end t l (b ∷ c ∷ bs) (p ∷ []) are sizes last missing = absurd (omega arith)
uncovered at end t l (false ∷ c ∷ bs) (p ∷ q ∷ ps) are sizes last missing =
    let first = are.0 in
    let size = not_empty (length p.bytes) are.1 in
    gap at (end_of p) end (c ∷ bs) (q ∷ ps) are.2 (omega arith)
uncovered at end t zero (true ∷ c ∷ bs) (p ∷ q ∷ ps) are sizes last missing = absurd (cc)
uncovered at end t (suc l) (true ∷ c ∷ bs) (p ∷ q ∷ ps) are sizes last missing =
    false_behind (p.offset == at) (cover (end_of p) end (come (c ∷ bs) (q ∷ ps))) (uncovered (end_of p) end t l (c ∷ bs) (q ∷ ps) are.2 (omega arith) last missing)

told_end : (end t : ℕ) (came : List Bool) → told end came ≡ Some t → t ≡ end
told_end end t [] h = absurd (cc)
told_end end t (true ∷ []) h = cc
told_end end t (false ∷ []) h = absurd (cc)
told_end end t (b ∷ c ∷ bs) h = told_end end t (c ∷ bs) h

incomplete : (end l : ℕ) (came : List Bool) (ps : List PlainPart) (e : PlainPending) → ArePartsOf 0 end ps → length came ≡ length ps → Holds end came ps e → slice_get came l ≡ Some false
    → is_complete e ≡ false
incomplete end l came ps e are sizes holds missing = rw (holds.its_end, holds.parts) (by_test (told end came) refl)
  where
    by_test : (x : Option ℕ) → told end came ≡ x → option_map_or (λ place. cover 0 place (come came ps)) x false ≡ false
    by_test None h = refl
    by_test (Some t) h = rw (told_end end t came h) (uncovered 0 end t l came ps are sizes h missing)

complete_is : (end : ℕ) (came : List Bool) (ps : List PlainPart) (e : PlainPending) → ArePartsOf 0 end ps → length came ≡ length ps → Holds end came ps e → HaveCome came
    → (e.parts ≡ ps) × (is_complete e ≡ true)
complete_is end came ps e are sizes holds have =
    let parts = holds.parts ∙ come_all came ps sizes have in
    let some = some_parts 0 end ps are in
    let its_end = holds.its_end ∙ told_all end came (omega arith) have in
    (parts, rw (its_end, parts) (covers 0 end ps are))

-- the fragments one after the other

pub record AreSent (addresses : Addresses) (identification end : ℕ) (ps : List PlainPart) (stamp : ℕ → ℕ) (first : ℕ) : Type 0 where
  pub are : ArePartsOf 0 end ps
  pub limit : end ≤ 65535
  pub timely : AreTimely stamp first

-- what is held after some of them
pub record IsUnderWay (end : ℕ) (came : List Bool) (ps : List PlainPart) (begun : ℕ) (d : PlainPending) : Type 0 where
  pub holds : Holds end came ps d
  pub begun_is : d.begun ≡ begun
  pub sizes : length came ≡ length ps

-- one key of all
abbrev the_key : Addresses → ℕ → Key
the_key addresses identification = record { source = addresses.source; target = addresses.target; identification = identification }

-- what is handed out from a part on
rest_handed : (addresses : Addresses) (identification end : ℕ) (ps : List PlainPart) (stamp : ℕ → ℕ) (first k : ℕ) (ks : List ℕ) (came : List Bool) (held : List PlainPending) (d : PlainPending)
    → AreSent addresses identification end ps stamp first → IsUnderWay end came ps (stamp first) d → IsArrival came (k ∷ ks)
    → AreHeldWell held → IsCurrent (the_key addresses identification) (stamp k) held d
    → handed addresses identification ps stamp (k ∷ ks) held ≡ at_last ks (joined ps)
rest_handed addresses identification end ps stamp first k [] came held d sent way order well current =
    let there = get_there k came false order.0 in
    let sizes = way.sizes in
    let part = get_some k ps (omega arith) in
    let step = comes end k part.0 came ps d sent.are sent.limit way.sizes way.holds order.0 part.1 (omega arith) in
    let whole = complete_is end (slice_set came k true) ps step.after sent.are (set_length k came ∙ way.sizes) step.holds order.1 in
    let is = settles held (stamp k) (fragment_of addresses identification ps k part.0) d step.after well refl current step.extended_is in
    rw (part.1, hands_out held (stamp k) (fragment_of addresses identification ps k part.0) step.after is whole.1, whole.0) refl
rest_handed addresses identification end ps stamp first k (l ∷ ks) came held d sent way order well current =
    let there = get_there k came false order.0 in
    let sizes = way.sizes in
    let part = get_some k ps (omega arith) in
    let step = comes end k part.0 came ps d sent.are sent.limit way.sizes way.holds order.0 part.1 (omega arith) in
    let f = fragment_of addresses identification ps k part.0 in
    let missing = incomplete end l (slice_set came k true) ps step.after sent.are (set_length k came ∙ way.sizes) step.holds order.1.0 in
    let is = settles held (stamp k) f d step.after well refl current step.extended_is in
    let begun = extended_begun d part.0 (nat_lt (k + 1) (length ps)) step.after step.extended_is ∙ way.begun_is in
    let timely = sent.timely l in
    let goes : goes_on (stamp l) step.after ≡ true = rw (begun, le-leb (stamp first) (stamp l) timely.0, lt-ltb (stamp l) (stamp first + 30_000_000) timely.1) refl in
    let later = rest_handed addresses identification end ps stamp first l ks (slice_set came k true) (taken held (stamp k) f).held step.after sent
    record { holds = step.holds; begun_is = begun; sizes = set_length k came ∙ way.sizes } order.1
    (taken_kept held (stamp k) f well) (inr (holds_on held (stamp k) f step.after well is missing, goes)) in
    rw (part.1, hands_nothing held (stamp k) f step.after is missing) (ap (λ r. None ∷ r) later)

pub whole_handed : (addresses : Addresses) (identification end : ℕ) (ps : List PlainPart) (stamp : ℕ → ℕ) (k : ℕ) (ks : List ℕ) (held : List PlainPending)
    → ArePartsOf 0 end ps → end ≤ 65535 → IsArrival (replicate (length ps) false) (k ∷ ks) → AreTimely stamp k → AreHeldWell held → NoneIsOf (the_key addresses identification) held
    → handed addresses identification ps stamp (k ∷ ks) held ≡ at_last ks (joined ps)
whole_handed addresses identification end ps stamp k ks held are limit order timely well none =
    rest_handed addresses identification end ps stamp k k ks (replicate (length ps) false) held (begun_at (the_key addresses identification) (stamp k))
    record { are = are; limit = limit; timely = timely }
    record {
      holds = record { parts = sym (come_none (length ps) ps); its_end = sym (told_none end (length ps)) };
      begun_is = refl;
      sizes = length-replicate (length ps) false;
    } order well (inl (found_none (the_key addresses identification) held none, refl))
