-- What is held stays held well.
use Rattle.std.proofs.Common.{◌≡◌, ◌≢◌, ℕ, zero, suc, ◌+◌, ◌≤◌, Bool, true, false, not, ◌&&◌, ◌||◌, List, [], ◌∷◌, length, drop, refl, sym, ap, ◌∙◌, zero-add, arith}
use Rattle.std.proofs.lemmas.Bool.{leb-true, ltb-false, eqb-true, eq-eqb, not-false}
use Rattle.std.proofs.lemmas.List.{length-drop}
use Rattle.std.proofs.lemmas.List.Edits.{length-insert}
use Rattle.std.specs.Prelude.{◌==◌, nat_lt, nat_le, IfSome, insert, remove, slice_get, Option, Some, None, if◌then◌else◌}
use Rattle.std.specs.Option.{option_map, option_map_or}
use Rattle.packet_captures.specs.declared.host.Host.{Host}
use Rattle.packet_captures.specs.declared.host.Host.TheVariants.{V4, V6}
use Rattle.packet_captures.specs.declared.assembly.TheConstants.{LARGEST_COUNT}
use Rattle.packet_captures.specs.declared.fragment.Key.{Key}
use Rattle.packet_captures.specs.Carried.{PlainFragment}
use Rattle.packet_captures.specs.Pending.{PlainPart, PlainPending, same_host, same_key, end_of, begun_at, goes_on, all_within, has_wrong_length, has_wrong_end, is_wrong, index_from, extended, is_complete, joined}
use Rattle.packet_captures.specs.Parts.{AllWithin, IsWithin, IsHeldWell, NoneIsOf, AreDistinct, AllHeldWell, AreHeldWell, AreInOrder}
use Rattle.packet_captures.specs.Assembly.{Taken, place_from, place_of, going_on, without, with_room, settled, joining, taken, key_of, part_of}
use Rattle.packet_captures.proofs.PartLaws.{placed_in_order}

and_true : (p q : Bool) → (p && q) ≡ true → (p ≡ true) × (q ≡ true)
and_true true q h = (refl, h)
and_true false q h = absurd (cc)

or_false : (p q : Bool) → (p || q) ≡ false → (p ≡ false) × (q ≡ false)
or_false true q h = absurd (cc)
or_false false q h = (refl, h)

-- keys that are told apart are different, and others are the same
pub host_self : (h : Host) → same_host h h ≡ true
host_self (V4 n) = eq-eqb n n refl
host_self (V6 m n) = rw (eq-eqb m m refl, eq-eqb n n refl) refl

pub key_self : (k : Key) → same_key k k ≡ true
key_self k = rw (host_self k.source, host_self k.target, eq-eqb k.identification k.identification refl) refl

keys_apart : (k l : Key) → same_key k l ≡ false → l ≢ k
keys_apart k l differ same = let self = key_self k in let e = rw same at differ in cc

host_same : (g h : Host) → same_host g h ≡ true → g ≡ h
host_same (V4 m) (V4 n) e = ap (λ n. V4 n) (eqb-true m n e)
host_same (V6 k l) (V6 m n) e = let both = and_true (k == m) (l == n) e in let first = eqb-true k m both.0 in let second = eqb-true l n both.1 in cc
host_same (V4 n) (V6 k l) e = absurd (cc)
host_same (V6 k l) (V4 n) e = absurd (cc)

fields_same : (s s' t t' : Host) (i i' : ℕ) → s ≡ s' → t ≡ t' → i ≡ i'
    → let key : Host → Host → ℕ → Key = λ x y z. record { source = x; target = y; identification = z } in key s t i ≡ key s' t' i'
fields_same s s' t t' i i' first second third = rw (first, second, third) refl

pub key_same : (k l : Key) → same_key k l ≡ true → k ≡ l
key_same k l e =
    let first = and_true (same_host k.source l.source) _ e in
    let second = and_true (same_host k.target l.target) _ first.1 in
    let source = host_same k.source l.source first.0 in
    let target = host_same k.target l.target second.0 in
    let identification = eqb-true k.identification l.identification second.1 in
    fields_same k.source l.source k.target l.target k.identification l.identification source target identification

-- The place of a key: if one is held there, it is that of the key; without it none is.
pub record IsPlaceOf (i : ℕ) (key : Key) (ds : List PlainPending) : Type 0 where
  pub index : ℕ
  pub is_index : place_from i key ds ≡ i + index
  pub within : index ≤ length ds
  pub key_at : (d : PlainPending) → slice_get ds index ≡ Some d → d.key ≡ key
  pub none_left : AreDistinct ds → NoneIsOf key (remove ds index)

none_is_of : (k l : Key) (ds : List PlainPending) → k ≡ l → NoneIsOf l ds → NoneIsOf k ds
none_is_of k l ds same none = rw same none

place_step : (i : ℕ) (key : Key) (d : PlainPending) (ds : List PlainPending) (t : Bool) → same_key key d.key ≡ t → IsPlaceOf (i + 1) key ds → IsPlaceOf i key (d ∷ ds)
place_step i key d ds true e later = record {
  index = 0;
  is_index = rw e (omega arith);
  within = omega arith;
  key_at = λ f at. let same = key_same key d.key e in let head : Some d ≡ Some f = at in cc;
  none_left = λ distinct. none_is_of key d.key ds (key_same key d.key e) distinct.0;
}
place_step i key d ds false e later =
    let is_index = later.is_index in
    let within = later.within in
    record {
      index = suc later.index;
      is_index = rw e (omega arith);
      within = omega arith;
      key_at = λ f at. later.key_at f at;
      none_left = λ distinct. (keys_apart key d.key e, later.none_left distinct.1);
    }

place_is : (i : ℕ) (key : Key) (ds : List PlainPending) → IsPlaceOf i key ds
place_is i key [] = record { index = 0; is_index = omega arith; within = omega arith; key_at = λ d at. absurd (cc); none_left = λ distinct. tt }
place_is i key (d ∷ ds) = place_step i key d ds (same_key key d.key) refl (place_is (i + 1) key ds)

-- what is left is held well
none_removed : (key : Key) (n : ℕ) (ds : List PlainPending) → NoneIsOf key ds → NoneIsOf key (remove ds n)
none_removed key zero [] none = tt
none_removed key (suc n) [] none = tt
none_removed key zero (d ∷ ds) none = none.1
none_removed key (suc n) (d ∷ ds) none = (none.0, none_removed key n ds none.1)

distinct_removed : (n : ℕ) (ds : List PlainPending) → AreDistinct ds → AreDistinct (remove ds n)
distinct_removed zero [] distinct = tt
distinct_removed (suc n) [] distinct = tt
distinct_removed zero (d ∷ ds) distinct = distinct.1
distinct_removed (suc n) (d ∷ ds) distinct = (none_removed d.key n ds distinct.0, distinct_removed n ds distinct.1)

each_removed : (n : ℕ) (ds : List PlainPending) → AllHeldWell ds → AllHeldWell (remove ds n)
each_removed zero [] each = tt
each_removed (suc n) [] each = tt
each_removed zero (d ∷ ds) each = each.1
each_removed (suc n) (d ∷ ds) each = (each.0, each_removed n ds each.1)

fewer_removed : (n : ℕ) (ds : List PlainPending) → length (remove ds n) ≤ length ds
fewer_removed zero [] = omega arith
fewer_removed (suc n) [] = omega arith
fewer_removed zero (d ∷ ds) = omega arith
fewer_removed (suc n) (d ∷ ds) = let fewer = fewer_removed n ds in omega arith

each_at : (n : ℕ) (ds : List PlainPending) (d : PlainPending) → AllHeldWell ds → slice_get ds n ≡ Some d → IsHeldWell d
each_at zero [] d each at = absurd (cc)
each_at (suc n) [] d each at = absurd (cc)
each_at zero (e ∷ es) d each at = let same : e ≡ d = cc in rw (← same) each.0
each_at (suc n) (e ∷ es) d each at = each_at n es d each.1 at

-- one more is held well among others
none_inserted : (key : Key) (n : ℕ) (d : PlainPending) (ds : List PlainPending) → d.key ≢ key → NoneIsOf key ds → NoneIsOf key (insert ds n d)
none_inserted key zero d ds other none = (other, none)
none_inserted key (suc n) d [] other none = (other, tt)
none_inserted key (suc n) d (e ∷ es) other none = (none.0, none_inserted key n d es other none.1)

distinct_inserted : (n : ℕ) (d : PlainPending) (ds : List PlainPending) → NoneIsOf d.key ds → AreDistinct ds → AreDistinct (insert ds n d)
distinct_inserted zero d ds none distinct = (none, distinct)
distinct_inserted (suc n) d [] none distinct = (tt, tt)
distinct_inserted (suc n) d (e ∷ es) none distinct = (none_inserted e.key n d es (λ same. none.0 (sym same)) distinct.0, distinct_inserted n d es none.1 distinct.1)

each_inserted : (n : ℕ) (d : PlainPending) (ds : List PlainPending) → IsHeldWell d → AllHeldWell ds → AllHeldWell (insert ds n d)
each_inserted zero d ds well each = (well, each)
each_inserted (suc n) d [] well each = (well, tt)
each_inserted (suc n) d (e ∷ es) well each = (each.0, each_inserted n d es well each.1)

distinct_behind : (ds : List PlainPending) → AreDistinct ds → AreDistinct (drop 1 ds)
distinct_behind [] distinct = tt
distinct_behind (d ∷ ds) distinct = distinct.1

each_behind : (ds : List PlainPending) → AllHeldWell ds → AllHeldWell (drop 1 ds)
each_behind [] each = tt
each_behind (d ∷ ds) each = each.1

-- one more part

-- where the end is not told, a part reaches no further than it may
all_told : (end : ℕ) (ps : List PlainPart) → all_within end ps ≡ true → AllWithin (Some end) ps
all_told end [] h = tt
all_told end (p ∷ ps) h =
    let both = and_true (nat_le (end_of p) end) (all_within end ps) h in
    (leb-true (end_of p) end both.0, all_told end ps both.1)

within_inserted : (end : Option ℕ) (n : ℕ) (p : PlainPart) (ps : List PlainPart) → IsWithin end (end_of p) → AllWithin end ps → AllWithin end (insert ps n p)
within_inserted end zero p ps here within = (here, within)
within_inserted end (suc n) p [] here within = (here, tt)
within_inserted end (suc n) p (q ∷ qs) here within = (within.0, within_inserted end n p qs here within.1)

-- what a part that is not wrong makes of the end
pub record IsEndKept (d : PlainPending) (p : PlainPart) (more : Bool) : Type 0 where
  pub here : IsWithin (if more then d.end else Some (end_of p)) (end_of p)
  pub others : AllWithin (if more then d.end else Some (end_of p)) d.parts
  pub end_within : IfSome (if more then d.end else Some (end_of p)) (λ end. end ≤ 65535)

-- the parts, and what is known of the end
end_kept : (end : Option ℕ) (parts : List PlainPart) (d : PlainPending) (p : PlainPart) (more : Bool) → d.end ≡ end
    → AllWithin end d.parts → IfSome end (λ e. e ≤ 65535) → end_of p ≤ 65535
    → (option_map_or (λ told. not more || nat_lt told (end_of p)) end false || (not more && not (all_within (end_of p) d.parts))) ≡ false → IsEndKept d p more
end_kept None parts d p true told within limit place fits = record { here = rw told place; others = rw told within; end_within = rw told limit }
end_kept None parts d p false told within limit place fits =
    record { here = omega arith; others = all_told (end_of p) d.parts (not-false (all_within (end_of p) d.parts) fits); end_within = place }
end_kept (Some e) parts d p true told within limit place fits =
    let tests = or_false (nat_lt e (end_of p)) false fits in
    record { here = rw told (ltb-false e (end_of p) tests.0); others = rw told within; end_within = rw told limit }
end_kept (Some e) parts d p false told within limit place fits = absurd (cc)

-- the datagram with one more part
pub record IsExtended (d e : PlainPending) : Type 0 where
  pub same_key : e.key ≡ d.key
  pub in_order : AreInOrder e.parts
  pub within : AllWithin e.end e.parts
  pub end_within : IfSome e.end (λ end. end ≤ 65535)

-- what a test and a map leave
pub some_left : (t : Bool) (x : Option PlainPending) (e : PlainPending) → (if t then None else x) ≡ Some e → (t ≡ false) × (x ≡ Some e)
some_left true x e h = absurd (cc)
some_left false x e h = (refl, h)

pub some_mapped : (f : ℕ → PlainPending) (x : Option ℕ) (e : PlainPending) → option_map f x ≡ Some e → (i : ℕ) × (x ≡ Some i) × (f i ≡ e)
some_mapped f None e h = absurd (cc)
some_mapped f (Some i) e h = (i, refl, cc)

-- the tests that a part has passed
not_wrong : (d : PlainPending) (p : PlainPart) (more : Bool) → is_wrong d p more ≡ false → (end_of p ≤ 65535) × (has_wrong_end d (end_of p) more ≡ false)
unfolding is_wrong
not_wrong d p more h =
    let later = or_false (has_wrong_length (length p.bytes) more) _ h in
    let ends = or_false (nat_lt 65535 (end_of p)) (has_wrong_end d (end_of p) more) later.1 in
    (ltb-false 65535 (end_of p) ends.0, ends.1)

pub extended_kept : (d : PlainPending) (p : PlainPart) (more : Bool) (e : PlainPending) → IsHeldWell d → extended d p more ≡ Some e → IsExtended d e
unfolding extended
extended_kept d p more e well h =
    let passed = some_left (is_wrong d p more) _ e h in
    let tests = not_wrong d p more passed.0 in
    let made = some_mapped (λ i. record d { end = if more then d.end else Some (end_of p); parts = insert d.parts i p }) (index_from 0 p.offset (end_of p) d.parts) e passed.1 in
    let placed = placed_in_order 0 made.0 p d.parts well.in_order made.1 in
    let index : made.0 ≡ placed.index = omega (arith, placed.is_index) in
    let kept = end_kept d.end d.parts d p more refl well.within well.end_within tests.0 tests.1 in
    rw (← made.2) record {
      same_key = refl;
      in_order = rw index placed.in_order;
      within = within_inserted (if more then d.end else Some (end_of p)) made.0 p d.parts kept.here kept.others;
      end_within = kept.end_within;
    }

-- the whole of what is held

room_kept : (ds : List PlainPending) → length ds ≤ 65 → AreDistinct ds → AllHeldWell ds → AreHeldWell (with_room ds)
room_kept ds most distinct each = by_test (nat_lt LARGEST_COUNT (length ds)) refl
  where
    by_test : (t : Bool) → nat_lt LARGEST_COUNT (length ds) ≡ t → AreHeldWell (if t then drop 1 ds else ds)
    by_test true e = let fewer = length-drop 1 ds in record { limit = omega arith; distinct = distinct_behind ds distinct; each = each_behind ds each }
    by_test false e = record { limit = ltb-false LARGEST_COUNT (length ds) e; distinct = distinct; each = each }

-- the others, none of which is the datagram of a key
pub record AreOthers (key : Key) (others : List PlainPending) : Type 0 where
  pub well : AreHeldWell others
  pub none : NoneIsOf key others

settled_some : (key : Key) (others : List PlainPending) (place : ℕ) (d e : PlainPending) → AreOthers key others → place ≤ length others → d.key ≡ key → IsExtended d e
    → AreHeldWell (settled others place (Some e)).held
settled_some key others place d e rest within same made = by_test (is_complete e) refl
  where
    its_key : e.key ≡ key
    its_key = made.same_key ∙ same

    by_test : (t : Bool) → is_complete e ≡ t
        → AreHeldWell (if t then (let handed : Taken = record { held = others; whole = Some (joined e.parts) } in handed) else (let kept : Taken = record { held = with_room (insert others place e); whole = None } in kept)).held
    by_test true complete = rest.well
    by_test false complete =
        let size = length-insert others place e within in
        let limit = rest.well.limit in
        let well : IsHeldWell e = record { in_order = made.in_order; within = made.within; end_within = made.end_within; open_yet = complete } in
        room_kept (insert others place e) (omega arith)
        (distinct_inserted place e others (none_is_of e.key key others its_key rest.none) rest.well.distinct)
        (each_inserted place e others well rest.well.each)

settled_kept : (key : Key) (others : List PlainPending) (place : ℕ) (d : PlainPending) (p : PlainPart) (more : Bool) (x : Option PlainPending) → AreOthers key others → place ≤ length others
    → d.key ≡ key → IsHeldWell d → extended d p more ≡ x → AreHeldWell (settled others place x).held
settled_kept key others place d p more None rest within same well made = rest.well
settled_kept key others place d p more (Some e) rest within same well made =
    settled_some key others place d e rest within same (extended_kept d p more e well made)

pub begun_well : (key : Key) (stamp : ℕ) → IsHeldWell (begun_at key stamp)
begun_well key stamp = record { in_order = tt; within = tt; end_within = tt; open_yet = refl }

-- what goes on is held
going_is_held : (stamp : ℕ) (x : Option PlainPending) (d : PlainPending) → going_on stamp x ≡ Some d → x ≡ Some d
going_is_held stamp None d h = absurd (cc)
going_is_held stamp (Some e) d h = by_test (goes_on stamp e) h
  where
    by_test : (t : Bool) → (if t then Some e else None) ≡ Some d → Some e ≡ Some d
    by_test true same = same
    by_test false none = absurd (cc)

-- the datagram that a fragment goes on with
pub record IsItsOwn (key : Key) (others : List PlainPending) (place : ℕ) (d : PlainPending) : Type 0 where
  pub same : d.key ≡ key
  pub well : IsHeldWell d
  pub within : place ≤ length others

joining_kept : (others : List PlainPending) (place stamp : ℕ) (f : PlainFragment) (x : Option PlainPending) → AreOthers (key_of f) others
    → ((d : PlainPending) → x ≡ Some d → IsItsOwn (key_of f) others place d) → AreHeldWell (joining others place stamp f x).held
joining_kept others place stamp f None rest held =
    settled_kept (key_of f) others (length others) (begun_at (key_of f) stamp) (part_of f) f.more (extended (begun_at (key_of f) stamp) (part_of f) f.more)
    rest (omega arith) refl (begun_well (key_of f) stamp) refl
joining_kept others place stamp f (Some d) rest held =
    let own = held d refl in
    settled_kept (key_of f) others place d (part_of f) f.more (extended d (part_of f) f.more) rest own.within own.same own.well refl

pub without_kept : (key : Key) (held : List PlainPending) → AreHeldWell held → AreHeldWell (without key held)
without_kept key held well =
    let fewer = fewer_removed (place_of key held) held in
    let limit = well.limit in
    record {
      limit = omega arith;
      distinct = distinct_removed (place_of key held) held well.distinct;
      each = each_removed (place_of key held) held well.each;
    }

-- a place is within what is left
pub place_within : (n : ℕ) (ds : List PlainPending) (d : PlainPending) → slice_get ds n ≡ Some d → n ≤ length (remove ds n)
place_within n [] d at = absurd (cc)
place_within zero (e ∷ es) d at = omega arith
place_within (suc n) (e ∷ es) d at = let later = place_within n es d at in omega arith

pub others_left : (key : Key) (held : List PlainPending) → AreHeldWell held → AreOthers key (without key held)
others_left key held well =
    let is = place_is 0 key held in
    let index : place_of key held ≡ is.index = is.is_index ∙ zero-add is.index in
    record { well = without_kept key held well; none = rw index (is.none_left well.distinct) }

pub own_held : (key : Key) (held : List PlainPending) (d : PlainPending) → AreHeldWell held → slice_get held (place_of key held) ≡ Some d
    → IsItsOwn key (without key held) (place_of key held) d
own_held key held d well at =
    let is = place_is 0 key held in
    let index : place_of key held ≡ is.index = is.is_index ∙ zero-add is.index in
    record {
      same = is.key_at d (rw index at at);
      well = each_at (place_of key held) held d well.each at;
      within = place_within (place_of key held) held d at;
    }

pub taken_kept : (held : List PlainPending) (stamp : ℕ) (f : PlainFragment) → AreHeldWell held → AreHeldWell (taken held stamp f).held
unfolding taken
taken_kept held stamp f well = by_test (not (length f.bytes == f.size))
  where
    place : ℕ
    place = place_of (key_of f) held

    unchanged : Taken
    unchanged = record { held = held; whole = None }

    by_test : (t : Bool) → AreHeldWell (if t then unchanged else joining (without (key_of f) held) place stamp f (going_on stamp (slice_get held place))).held
    by_test true = well
    by_test false = joining_kept (without (key_of f) held) place stamp f (going_on stamp (slice_get held place)) (others_left (key_of f) held well)
        (λ d found. own_held (key_of f) held d well (going_is_held stamp (slice_get held place) d found))
