-- The parts of a datagram make it, in whatever order they come.
use Rattle.std.proofs.Common.{◌≡◌, ℕ, zero, suc, ◌+◌, ◌<◌, ◌≤◌, Bool, true, false, not, ◌||◌, List, [], ◌∷◌, length, refl, replicate, add-zero, zero-add, sym, ap, ◌∙◌, arith}
use Rattle.std.proofs.lemmas.Bool.{both_ways, ltb-true, ltb-false, le-leb, lt-leb, le-ltb, eqb-false, eq-eqb}
use Rattle.std.specs.Prelude.{◌==◌, nat_lt, insert, slice_get, slice_set, Option, Some, None, if◌then◌else◌}
use Rattle.std.specs.Option.{option_map_or}
use Rattle.packet_captures.specs.Pending.{PlainPart, PlainPending, end_of, all_within, has_wrong_length, is_wrong, index_from, extended, cover}
use Rattle.packet_captures.specs.Arrival.{ArePartsOf, HaveCome}

or_false : (p q : Bool) → (p || q) ≡ false → (p ≡ false) × (q ≡ false)
or_false true q h = absurd (cc)
or_false false q h = (refl, h)

-- the parts that have come, in their order
abbrev pub come : List Bool → List PlainPart → List PlainPart
come [] ps = []
come (came ∷ others) [] = []
come (true ∷ others) (p ∷ ps) = p ∷ come others ps
come (false ∷ others) (p ∷ ps) = come others ps

-- the end, if the last part has come
abbrev pub told : ℕ → List Bool → Option ℕ
told end [] = None
told end (came ∷ []) = if came then Some end else None
told end (came ∷ next ∷ others) = told end (next ∷ others)

-- a part that is not the last is not empty
pub not_empty : (n : ℕ) → has_wrong_length n true ≡ false → 0 < n
not_empty n right = let tests = or_false (n == 0) _ right in let differ = eqb-false n 0 tests.0 in positive n differ
  where
    positive : (m : ℕ) → (m ≡ 0 → ⊥) → 0 < m
    positive zero differ = absurd (differ refl)
    positive (suc m) differ = omega arith

-- where a part stands
pub part_between : (at end k : ℕ) (p : PlainPart) (ps : List PlainPart) → ArePartsOf at end ps → slice_get ps k ≡ Some p → (at ≤ p.offset) × (end_of p ≤ end)
part_between at end k p [] are found = absurd are
part_between at end zero p (q ∷ []) are found = let same : q ≡ p = cc in let first = are.0 in let last = are.1 in rw (← same) (omega arith, omega arith)
part_between at end (suc k) p (q ∷ []) are found = absurd (cc)
part_between at end zero p (q ∷ r ∷ ps) are found =
    let same : q ≡ p = cc in
    let first = are.0 in
    let behind = part_between (end_of q) end 0 r (r ∷ ps) are.2 refl in
    rw (← same) (omega arith, omega arith)
part_between at end (suc k) p (q ∷ r ∷ ps) are found =
    let first = are.0 in
    let later = part_between (end_of q) end k p (r ∷ ps) are.2 found in
    (omega arith, later.1)

-- the last part ends at the end
last_ends : (at end k : ℕ) (p : PlainPart) (ps : List PlainPart) → ArePartsOf at end ps → slice_get ps k ≡ Some p → k + 1 ≡ length ps → end_of p ≡ end
last_ends at end k p [] are found last = absurd are
last_ends at end zero p (q ∷ []) are found last = let same : q ≡ p = cc in rw (← same) are.1
last_ends at end (suc k) p (q ∷ []) are found last = absurd (cc)
last_ends at end zero p (q ∷ r ∷ ps) are found last = absurd (omega arith)
last_ends at end (suc k) p (q ∷ r ∷ ps) are found last = last_ends (end_of q) end k p (r ∷ ps) are.2 found (omega arith)

-- the others have right lengths
right_length : (at end k : ℕ) (p : PlainPart) (ps : List PlainPart) → ArePartsOf at end ps → slice_get ps k ≡ Some p → k + 1 < length ps → has_wrong_length (length p.bytes) true ≡ false
right_length at end k p [] are found more = absurd are
right_length at end k p (q ∷ []) are found more = absurd (omega arith)
right_length at end zero p (q ∷ r ∷ ps) are found more = let same : q ≡ p = cc in rw (← same) are.1
right_length at end (suc k) p (q ∷ r ∷ ps) are found more = right_length (end_of q) end k p (r ∷ ps) are.2 found (omega arith)

-- what has come stands before the end
come_within : (at end : ℕ) (came : List Bool) (ps : List PlainPart) → ArePartsOf at end ps → all_within end (come came ps) ≡ true
come_within at end [] ps are = refl
come_within at end (b ∷ bs) [] are = absurd are
come_within at end (false ∷ []) (p ∷ []) are = refl
come_within at end (false ∷ b ∷ bs) (p ∷ []) are = refl
come_within at end (true ∷ []) (p ∷ []) are = let last = are.1 in rw (le-leb (end_of p) end (omega arith)) refl
come_within at end (true ∷ b ∷ bs) (p ∷ []) are = let last = are.1 in rw (le-leb (end_of p) end (omega arith)) refl
come_within at end (false ∷ bs) (p ∷ q ∷ ps) are = come_within (end_of p) end bs (q ∷ ps) are.2
come_within at end (true ∷ bs) (p ∷ q ∷ ps) are =
    let behind = part_between (end_of p) end 0 q (q ∷ ps) are.2 refl in
    rw (le-leb (end_of p) end (omega arith), come_within (end_of p) end bs (q ∷ ps) are.2) refl

-- the first of what has come behind a place
index_first : (i end : ℕ) (offset at to : ℕ) (came : List Bool) (ps : List PlainPart) → ArePartsOf at to ps → end ≤ at → index_from i offset end (come came ps) ≡ Some i
index_first i end offset at to [] ps are before = refl
index_first i end offset at to (b ∷ bs) [] are before = absurd are
index_first i end offset at to (true ∷ bs) (p ∷ ps) are before =
    let first = part_between at to 0 p (p ∷ ps) are refl in
    rw (le-leb end p.offset (omega arith)) refl
index_first i end offset at to (false ∷ []) (p ∷ []) are before = refl
index_first i end offset at to (false ∷ b ∷ bs) (p ∷ []) are before = refl
index_first i end offset at to (false ∷ bs) (p ∷ q ∷ ps) are before =
    let first = are.0 in
    index_first i end offset (end_of p) to bs (q ∷ ps) are.2 (omega arith)

-- A part that had not come, put among those that had.
pub record IsPut (i k : ℕ) (p : PlainPart) (came : List Bool) (ps : List PlainPart) : Type 0 where
  pub index : ℕ
  pub found : index_from i p.offset (end_of p) (come came ps) ≡ Some (i + index)
  pub put : insert (come came ps) index p ≡ come (slice_set came k true) ps

put_first : (i at end : ℕ) (p q : PlainPart) (bs : List Bool) (ps : List PlainPart) → ArePartsOf at end (q ∷ ps) → q ≡ p → IsPut i 0 p (false ∷ bs) (q ∷ ps)
put_first i at end p q [] [] are same = record { index = 0; found = ap (λ n. Some n) (sym (add-zero i)); put = ap (λ x. x ∷ []) (sym same) }
put_first i at end p q (b ∷ bs) [] are same = record { index = 0; found = ap (λ n. Some n) (sym (add-zero i)); put = ap (λ x. x ∷ []) (sym same) }
put_first i at end p q bs (r ∷ ps) are same = record {
  index = 0;
  found = index_first i (end_of p) p.offset (end_of q) end bs (r ∷ ps) are.2 (let e = ap (λ (x : PlainPart). end_of x) same in omega arith) ∙ ap (λ n. Some n) (sym (add-zero i));
  put = ap (λ x. x ∷ come bs (r ∷ ps)) (sym same);
}

put_is : (i at end k : ℕ) (p : PlainPart) (came : List Bool) (ps : List PlainPart) → ArePartsOf at end ps → slice_get came k ≡ Some false → slice_get ps k ≡ Some p → IsPut i k p came ps
put_is i at end k p [] ps are missing found = absurd (cc)
put_is i at end k p (b ∷ bs) [] are missing found = absurd are
put_is i at end zero p (true ∷ bs) (q ∷ ps) are missing found = absurd (cc)
put_is i at end zero p (false ∷ bs) (q ∷ ps) are missing found = put_first i at end p q bs ps are (cc)
put_is i at end (suc k) p (b ∷ bs) (q ∷ []) are missing found = absurd (cc)
put_is i at end (suc k) p (false ∷ bs) (q ∷ r ∷ ps) are missing found =
    let later = put_is i (end_of q) end k p bs (r ∷ ps) are.2 missing found in
    record { index = later.index; found = later.found; put = later.put }
put_is i at end (suc k) p (true ∷ bs) (q ∷ r ∷ ps) are missing found =
    let later = put_is (i + 1) (end_of q) end k p bs (r ∷ ps) are.2 missing found in
    let place = part_between (end_of q) end k p (r ∷ ps) are.2 found in
    let size = not_empty (length q.bytes) are.1 in
    let behind : q.offset < end_of p = omega arith in
    let shift : (i + 1) + later.index ≡ i + suc later.index = omega arith in
    record {
      index = suc later.index;
      found = rw (lt-leb (end_of p) q.offset behind, le-leb (end_of q) p.offset place.0) (later.found ∙ ap (λ n. Some n) shift);
      put = ap (λ l. q ∷ l) later.put;
    }

-- what is told of the end

told_not_yet : (end k : ℕ) (came : List Bool) → slice_get came k ≡ Some false → k + 1 ≡ length came → told end came ≡ None
told_not_yet end k [] missing last = refl
told_not_yet end zero (true ∷ []) missing last = absurd (cc)
told_not_yet end zero (false ∷ []) missing last = refl
told_not_yet end (suc k) (b ∷ []) missing last = absurd (cc)
told_not_yet end zero (b ∷ c ∷ bs) missing last = absurd (omega arith)
told_not_yet end (suc k) (b ∷ c ∷ bs) missing last = told_not_yet end k (c ∷ bs) missing (omega arith)

told_last : (end k : ℕ) (came : List Bool) → slice_get came k ≡ Some false → k + 1 ≡ length came → told end (slice_set came k true) ≡ Some end
told_last end k [] missing last = absurd (cc)
told_last end zero (b ∷ []) missing last = refl
told_last end (suc k) (b ∷ []) missing last = absurd (cc)
told_last end zero (b ∷ c ∷ bs) missing last = absurd (omega arith)
told_last end (suc zero) (b ∷ c ∷ bs) missing last = told_last end zero (c ∷ bs) missing (omega arith)
told_last end (suc (suc k)) (b ∷ c ∷ bs) missing last = told_last end (suc k) (c ∷ bs) missing (omega arith)

told_other : (end k : ℕ) (came : List Bool) → k + 1 < length came → told end (slice_set came k true) ≡ told end came
told_other end k [] more = refl
told_other end k (b ∷ []) more = absurd (omega arith)
told_other end zero (b ∷ c ∷ bs) more = refl
told_other end (suc zero) (b ∷ c ∷ bs) more = told_other end zero (c ∷ bs) (omega arith)
told_other end (suc (suc k)) (b ∷ c ∷ bs) more = told_other end (suc k) (c ∷ bs) (omega arith)

-- no part stands behind what is told
told_right : (end place : ℕ) (came : List Bool) → place ≤ end → option_map_or (λ t. not true || nat_lt t place) (told end came) false ≡ false
told_right end place [] within = refl
told_right end place (true ∷ []) within = rw (le-ltb end place within) refl
told_right end place (false ∷ []) within = refl
told_right end place (b ∷ c ∷ bs) within = told_right end place (c ∷ bs) within

-- The datagram holds what has come.
pub record Holds (end : ℕ) (came : List Bool) (ps : List PlainPart) (d : PlainPending) : Type 0 where
  pub parts : d.parts ≡ come came ps
  pub its_end : d.end ≡ told end came

-- the datagram with a part at an index
abbrev with_part : PlainPending → ℕ → PlainPart → Bool → PlainPending
with_part d n p more = record d { end = if more then d.end else Some (end_of p); parts = insert d.parts n p }

right_more : (end k : ℕ) (p : PlainPart) (came : List Bool) (ps : List PlainPart) (d : PlainPending) → ArePartsOf 0 end ps → end ≤ 65535 → Holds end came ps d
    → slice_get ps k ≡ Some p → k + 1 < length ps → is_wrong d p true ≡ false
unfolding is_wrong
right_more end k p came ps d are limit holds found more =
    let place = part_between 0 end k p ps are found in
    rw (right_length 0 end k p ps are found more, le-ltb 65535 (end_of p) (omega arith), holds.its_end, told_right end (end_of p) came place.1) refl

right_last : (end k : ℕ) (p : PlainPart) (came : List Bool) (ps : List PlainPart) (d : PlainPending) → ArePartsOf 0 end ps → end ≤ 65535 → Holds end came ps d
    → slice_get came k ≡ Some false → slice_get ps k ≡ Some p → k + 1 ≡ length ps → k + 1 ≡ length came → is_wrong d p false ≡ false
unfolding is_wrong
right_last end k p came ps d are limit holds missing found last last' =
    let place = part_between 0 end k p ps are found in
    let ends = last_ends 0 end k p ps are found last in
    rw (le-ltb 65535 (end_of p) (omega arith), holds.its_end, told_not_yet end k came missing last', ends, holds.parts, come_within 0 end came ps are) refl

extends : (d : PlainPending) (p : PlainPart) (more : Bool) (n : ℕ) → is_wrong d p more ≡ false → index_from 0 p.offset (end_of p) d.parts ≡ Some n → extended d p more ≡ Some (with_part d n p more)
unfolding extended
extends d p more n right found = rw (right, found) refl

-- One more part has come.
pub record HasCome (end k : ℕ) (p : PlainPart) (more : Bool) (came : List Bool) (ps : List PlainPart) (d : PlainPending) : Type 0 where
  pub after : PlainPending
  pub extended_is : extended d p more ≡ Some after
  pub holds : Holds end (slice_set came k true) ps after

one_comes : (end k : ℕ) (p : PlainPart) (more : Bool) (came : List Bool) (ps : List PlainPart) (d : PlainPending) → ArePartsOf 0 end ps → Holds end came ps d
    → slice_get came k ≡ Some false → slice_get ps k ≡ Some p → is_wrong d p more ≡ false → (if more then told end came else Some (end_of p)) ≡ told end (slice_set came k true)
    → HasCome end k p more came ps d
one_comes end k p more came ps d are holds missing found right its_end =
    let put = put_is 0 0 end k p came ps are missing found in
    let index : index_from 0 p.offset (end_of p) d.parts ≡ Some put.index = rw holds.parts (put.found ∙ ap (λ n. Some n) (zero-add put.index)) in
    record {
      after = with_part d put.index p more;
      extended_is = extends d p more put.index right index;
      holds = record { parts = rw holds.parts put.put; its_end = rw holds.its_end its_end };
    }

pub comes : (end k : ℕ) (p : PlainPart) (came : List Bool) (ps : List PlainPart) (d : PlainPending) → ArePartsOf 0 end ps → end ≤ 65535 → length came ≡ length ps → Holds end came ps d
    → slice_get came k ≡ Some false → slice_get ps k ≡ Some p → k < length ps → HasCome end k p (nat_lt (k + 1) (length ps)) came ps d
comes end k p came ps d are limit sizes holds missing found there = by_test (nat_lt (k + 1) (length ps)) refl
  where
    by_test : (t : Bool) → nat_lt (k + 1) (length ps) ≡ t → HasCome end k p t came ps d
    by_test true e =
        let more = ltb-true (k + 1) (length ps) e in
        one_comes end k p true came ps d are holds missing found (right_more end k p came ps d are limit holds found more) (sym (told_other end k came (omega arith)))
    by_test false e =
        let rest = ltb-false (k + 1) (length ps) e in
        let last : k + 1 ≡ length ps = omega arith in
        let last' : k + 1 ≡ length came = omega arith in
        one_comes end k p false came ps d are holds missing found (right_last end k p came ps d are limit holds missing found last last')
        (ap (λ n. Some n) (last_ends 0 end k p ps are found last) ∙ sym (told_last end k came missing last'))

-- all have come

pub come_all : (came : List Bool) (ps : List PlainPart) → length came ≡ length ps → HaveCome came → come came ps ≡ ps
come_all [] [] sizes have = refl
come_all [] (p ∷ ps) sizes have = absurd (omega arith)
come_all (b ∷ bs) [] sizes have = absurd (omega arith)
come_all (true ∷ bs) (p ∷ ps) sizes have = ap (λ l. p ∷ l) (come_all bs ps (omega arith) have.1)
come_all (false ∷ bs) (p ∷ ps) sizes have = absurd (both_ways false refl have.0)

pub told_all : (end : ℕ) (came : List Bool) → 0 < length came → HaveCome came → told end came ≡ Some end
told_all end [] some have = absurd (omega arith)
told_all end (true ∷ []) some have = refl
told_all end (false ∷ []) some have = absurd (both_ways false refl have.0)
told_all end (b ∷ c ∷ bs) some have = told_all end (c ∷ bs) (omega arith) have.1

pub come_none : (n : ℕ) (ps : List PlainPart) → come (replicate n false) ps ≡ []
come_none zero ps = refl
come_none (suc n) [] = refl
come_none (suc n) (p ∷ ps) = come_none n ps

pub told_none : (end n : ℕ) → told end (replicate n false) ≡ None
told_none end zero = refl
told_none end (suc zero) = refl
told_none end (suc (suc n)) = told_none end (suc n)

pub covers : (at end : ℕ) (ps : List PlainPart) → ArePartsOf at end ps → cover at end ps ≡ true
covers at end [] are = absurd are
covers at end (p ∷ []) are = rw (eq-eqb p.offset at are.0, eq-eqb (end_of p) end are.1) refl
covers at end (p ∷ q ∷ ps) are = rw (eq-eqb p.offset at are.0) (covers (end_of p) end (q ∷ ps) are.2)

pub get_there : (k : ℕ) (came : List Bool) (b : Bool) → slice_get came k ≡ Some b → k < length came
get_there k [] b found = absurd (cc)
get_there zero (c ∷ cs) b found = omega arith
get_there (suc k) (c ∷ cs) b found = let later = get_there k cs b found in omega arith

pub get_some : (k : ℕ) (ps : List PlainPart) → k < length ps → (p : PlainPart) × (slice_get ps k ≡ Some p)
get_some k [] there = absurd (omega arith)
get_some zero (p ∷ ps) there = (p, refl)
get_some (suc k) (p ∷ ps) there = get_some k ps (omega arith)

pub set_length : (k : ℕ) (came : List Bool) → length (slice_set came k true) ≡ length came
set_length k [] = refl
set_length zero (b ∷ bs) = refl
set_length (suc k) (b ∷ bs) = let later = set_length k bs in omega arith

pub some_parts : (at end : ℕ) (ps : List PlainPart) → ArePartsOf at end ps → 0 < length ps
some_parts at end [] are = absurd are
some_parts at end (p ∷ ps) are = omega arith
