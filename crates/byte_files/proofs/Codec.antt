-- Reading a thing and its text, in one place with the laws that tie them. A format says of each of its parts that reading and text agree, part by part
-- as it is read: a field, a field that passes a test, one after the other, so many, up to a mark. A further field is a line there.
use Rattle.std.proofs.Common.{◌≡◌, ℕ, zero, suc, ◌+◌, ◌^◌, ◌<◌, ◌≤◌, Bool, true, eqb, List, [], ◌∷◌, ◌++◌, length, Option, Some, None, Result, Ok, Err, refl, sym, ap, subst, ◌∙◌, append_assoc, append-nil, arith}
use Rattle.std.specs.Prelude.{IfSome, IfOk, OnOk}
use Rattle.std.specs.Option.{option_map_or}
use Rattle.std.specs.List.{flat_map}
use Rattle.std.specs.Int.{Width, w8, w16, w32, w64, to_be_bytes}
use Rattle.std.proofs.lemmas.Bool.{eqb-true}
use Rattle.std.proofs.lemmas.List.{nil_from_length, length-append}
use Rattle.byte_files.specs.Fields as fields
use Rattle.byte_files.specs.Fields.{Input, known, AreBytes, IsBytes, Names, ◌>>=◌, tested, field_at, number_at, number_where, ended}
use Rattle.byte_files.specs.Repeats.{times_at, until_at}
use Rattle.byte_files.proofs.Fields.{bind_ok, tested_ok, ok_is, front, Takes, takes_nothing, takes_then, Reading, Reads, reads_nothing, reads_then, reads_last, IsWide, wide16, wide32, wide64, field_takes, field_reads, number_takes, number_reads, byte_takes, byte_reads}

-- Bytes are left, within the limit.
abbrev pub IsReady : Input → Type 0
IsReady i = IsBytes i.bytes × (i.at ≤ i.limit)

pub ready_behind : {i j : Input} {s : List ℕ} → Takes i s j → IsReady i → IsReady j
ready_behind p h = (p.fits h.0, p.within)

-- Reading and text agree on the good: the text of a good value is read as it, and what is read is the text of a good one.
pub record Agrees {X F : Type 0} (read : Reading X F) (text : X → List ℕ) (Good : X → Type 0) : Type 0 where
  pub reads : (x : X) → Good x → Reads read (text x) x
  pub takes : (i : Input) (x : X × Input) → IsReady i → read i ≡ Ok x → Takes i (text x.0) x.1 × Good x.0

-- ---- one field

module _ {F : Type 0} (names : Names F) where
  pub field_agrees : (n : ℕ) → Agrees (field_at names n) (λ b. b) (λ b. length b ≡ n)
  field_agrees n = record {
    reads = λ b is. subst (λ k. Reads (field_at names k) b b) is (field_reads names b);
    takes = λ i x ready e. field_takes names n i x.0 x.1 e;
  }

  pub number_agrees : (w : Width) (limit : ℕ) → IsWide w limit → Agrees (number_at names w) (to_be_bytes w) (λ n. n < limit)
  number_agrees w limit wide = record {
    reads = λ n few. number_reads names w limit wide n few;
    takes = λ i x ready e. number_takes names w limit wide i x.0 x.1 ready.0 e;
  }

  pub byte_agrees : Agrees (number_at names w8) (λ n. n ∷ []) (λ n. n < 256)
  byte_agrees = record { reads = λ n few. byte_reads names n; takes = λ i x ready e. byte_takes names i x.0 x.1 ready.0 e }

  -- the same of any number, which a byte holds if it is small enough
  pub any_byte_agrees : Agrees (number_at names w8) (λ n. n ∷ []) (λ n. Unit {0})
  any_byte_agrees = record { reads = λ n few. byte_reads names n; takes = λ i x ready e. ((byte_takes names i x.0 x.1 ready.0 e).0, tt) }

-- ---- fields one after the other

pub nothing_agrees : {X F : Type 0} (x : X) → Agrees {F = F} (λ i. Ok (x, i)) (λ y. []) (λ y. x ≡ y)
nothing_agrees {X = X} {F = F} x = record {
  reads = λ y same limit at rest within. subst (λ z. Reads {F = F} (λ i. Ok (x, i)) [] z) same (reads_nothing x) limit at rest within;
  takes = λ i y ready e. subst (λ (z : X × Input). Takes i [] z.1 × (x ≡ z.0)) (ok_is (x, i) y e) (takes_nothing i ready.1, refl);
}

module _ {X F : Type 0} {f : Reading X F} {s : X → List ℕ} {P : X → Type 0} (a : Agrees f s P) where
  -- a value that passes a test
  pub tested_agrees : (test : X → Bool) (fault : ℕ → F) → Agrees (λ i. f i >>= λ x. tested (test x.0) (fault i.at) x) s (λ x. P x × (test x ≡ true))
  tested_agrees test fault = record {
    reads = λ x good limit at rest within. rw (a.reads x good.0 limit at rest within, good.1) refl;
    takes = λ i y ready e.
        let x = bind_ok (f i) (λ x. tested (test x.0) (fault i.at) x) y e in
        let g = tested_ok (test x.0.0) (fault i.at) x.0 y x.2 in
        let p = a.takes i x.0 ready x.1 in
        subst (λ z. Takes i (s z.0) z.1 × (P z.0 × (test z.0 ≡ true))) g.1 (p.0, (p.1, g.0));
  }

  -- a value that is made of the one that is read, and from which that one comes back
  pub last_agrees : {Y : Type 0} (made : X → Y) (back : Y → X) → ((x : X) → P x → back (made x) ≡ x)
      → Agrees (λ i. f i >>= λ x. Ok (made x.0, x.1)) (λ y. s (back y)) (λ y. P (back y) × (made (back y) ≡ y))
  last_agrees {Y = Y} made back again = record {
    reads = λ y good. subst (Reads (λ i. f i >>= λ x. Ok (made x.0, x.1)) (s (back y))) good.1
        (reads_last f made (s (back y)) (back y) (a.reads (back y) good.0));
    takes = λ i y ready e.
        let x = bind_ok (f i) (λ x. Ok (made x.0, x.1)) y e in
        let p = a.takes i x.0 ready x.1 in
        let is : x.0.0 ≡ back (made x.0.0) = sym (again x.0.0 p.1) in
        subst (λ (z : Y × Input). Takes i (s (back z.0)) z.1 × (P (back z.0) × (made (back z.0) ≡ z.0))) (ok_is (made x.0.0, x.0.1) y x.2)
        (subst (λ z. Takes i (s z) x.0.1 × (P z × (made z ≡ made x.0.0))) is (p.0, (p.1, refl)));
  }

  -- a value that has the one that is read as a part, which what is read behind may depend on
  pub then_agrees : {Y : Type 0} {g : X → Reading Y F} {t : X → Y → List ℕ} {Q : X → Y → Type 0} (part : Y → X)
      → ((x : X) → P x → Agrees (g x) (t x) (Q x)) → ((x : X) (y : Y) → P x → Q x y → part y ≡ x)
      → Agrees (λ i. f i >>= λ x. g x.0 x.1) (λ y. s (part y) ++ t (part y) y) (λ y. P (part y) × Q (part y) y)
  then_agrees {g = g} {t = t} {Q = Q} part b is = record {
    reads = λ y good.
        let x = part y in
        reads_then f g (s x) (t x y) x y (a.reads x good.0) ((b x good.0).reads y good.1);
    takes = λ i y ready e.
        let x = bind_ok (f i) (λ x. g x.0 x.1) y e in
        let p = a.takes i x.0 ready x.1 in
        let q = (b x.0.0 p.1).takes x.0.1 y (ready_behind p.0 ready) x.2 in
        subst (λ z. Takes i (s z ++ t z y.0) y.1 × (P z × Q z y.0)) (sym (is x.0.0 y.0 p.1 q.1))
        (takes_then i x.0.1 y.1 (s x.0.0) (t x.0.0 y.0) p.0 q.0, (p.1, q.1));
  }

  -- the same of other words for the text and for what is good, and for the reading
  pub agrees_as : {t : X → List ℕ} {Q : X → Type 0} → ((x : X) → P x → s x ≡ t x) → ((x : X) → P x → Q x) → ((x : X) → Q x → P x) → Agrees f t Q
  agrees_as same to from = record {
    reads = λ x good. subst (λ u. Reads f u x) (same x (from x good)) (a.reads x (from x good));
    takes = λ i x ready e. let p = a.takes i x ready e in (subst (λ u. Takes i u x.1) (same x.0 p.1) p.0, to x.0 p.1);
  }

  pub agrees_read : {g : Reading X F} → ((i : Input) → f i ≡ g i) → Agrees g s P
  agrees_read same = record {
    reads = λ x good limit at rest within. sym (same _) ∙ a.reads x good limit at rest within;
    takes = λ i x ready e. a.takes i x ready (same i ∙ e);
  }

-- a number that passes a test, of the numbers that fit
pub where_agrees : {F : Type 0} (names : Names F) (w : Width) (test : ℕ → Bool) (fault : ℕ → F) {s : ℕ → List ℕ} {P : ℕ → Type 0}
    → Agrees (number_at names w) s P → ((n : ℕ) → test n ≡ true → P n) → Agrees (number_where names w test fault) s (λ n. test n ≡ true)
unfolding number_where
where_agrees names w test fault a fits = agrees_as (tested_agrees a test fault) (λ n h. refl) (λ n h. h.1) (λ n h. (fits n h, h))

module _ {F : Type 0} (names : Names F) where
  pub two_bytes : Agrees (number_at names w16) (to_be_bytes w16) (λ n. n < 2 ^ 16)
  two_bytes = number_agrees names w16 (2 ^ 16) wide16

  pub four_bytes : Agrees (number_at names w32) (to_be_bytes w32) (λ n. n < 2 ^ 32)
  four_bytes = number_agrees names w32 (2 ^ 32) wide32

  pub eight_bytes : Agrees (number_at names w64) (to_be_bytes w64) (λ n. n < 2 ^ 64)
  eight_bytes = number_agrees names w64 (2 ^ 64) wide64

  pub where8 : (test : ℕ → Bool) (fault : ℕ → F) → ((n : ℕ) → test n ≡ true → n < 256) → Agrees (number_where names w8 test fault) (λ n. n ∷ []) (λ n. test n ≡ true)
  where8 test fault fits = where_agrees names w8 test fault (byte_agrees names) fits

  pub where16 : (test : ℕ → Bool) (fault : ℕ → F) → ((n : ℕ) → test n ≡ true → n < 2 ^ 16) → Agrees (number_where names w16 test fault) (to_be_bytes w16) (λ n. test n ≡ true)
  where16 test fault fits = where_agrees names w16 test fault two_bytes fits

-- ---- marks

-- steps one after the other, the first two as one
pub bind_twice : {A B C F : Type 0} (r : Result A F) (f : A → Result B F) (g : B → Result C F) → ((r >>= f) >>= g) ≡ (r >>= λ x. f x >>= g)
bind_twice (Ok x) f g = refl
bind_twice (Err e) f g = refl

-- a reading that gives no value, as one
abbrev pub marked : {F : Type 0} → (Input → Result Input F) → Reading (Unit {0}) F
marked m i = m i >>= λ j. Ok (tt, j)

pub bind_marked : {X F : Type 0} (m : Input → Result Input F) (g : Input → Result X F) (i : Input) → (marked m i >>= λ x. g x.1) ≡ (m i >>= g)
bind_marked m g i = bind_twice (m i) (λ j. Ok (tt, j)) (λ x. g x.1)

-- One text alone is passed over.
pub record IsMark {F : Type 0} (mark : Input → Result Input F) (text : List ℕ) : Type 0 where
  pub agrees : Agrees (marked mark) (λ u. text) (λ u. Unit {0})

-- a value of which one alone passes a test
pub tested_mark : {X F : Type 0} {f : Reading X F} {s : X → List ℕ} {P : X → Type 0} (test : X → Bool) (fault : ℕ → F) (x : X) → Agrees f s P → P x
    → test x ≡ true
    → ((y : X) → P y → test y ≡ true → y ≡ x) → IsMark (λ i. f i >>= λ y. tested (test y.0) (fault i.at) y.1) (s x)
tested_mark {X = X} {f = f} {s = s} test fault x a good passes only = record {
  agrees = record {
    reads = λ u h limit at rest within. rw (a.reads x good limit at rest within, passes) refl;
    takes = λ i z ready e.
        let j = bind_ok (f i >>= λ y. tested (test y.0) (fault i.at) y.1) (λ j. Ok (tt, j)) z e in
        let y = bind_ok (f i) (λ y. tested (test y.0) (fault i.at) y.1) j.0 j.1 in
        let g = tested_ok (test y.0.0) (fault i.at) y.0.1 j.0 y.2 in
        let p = a.takes i y.0 ready y.1 in
        let t : Takes i (s x) y.0.1 = subst (λ (x : X). Takes i (s x) y.0.1) (only y.0.0 p.1 g.0) p.0 in
        (subst (Takes i (s x)) (g.1 ∙ ap (λ (y : Unit {0} × Input). y.1) (ok_is (tt, j.0) z j.2)) t, tt);
  };
}

pub mark_agrees : {X F : Type 0} {m : Input → Result Input F} {s : List ℕ} {g : Reading X F} {t : X → List ℕ} {P : X → Type 0}
    → IsMark m s → Agrees g t P → Agrees (λ i. m i >>= g) (λ x. s ++ t x) P
mark_agrees {m = m} {g = g} mark a =
    let both = then_agrees mark.agrees (λ x. tt) (λ u h. a) (λ u x h q. refl) in
    agrees_read (agrees_as both (λ x good. refl) (λ x good. good.1) (λ x good. (tt, good))) (bind_marked m g)

-- ---- so many

-- What is good of a list is what is good of each, read by what the one before hands on.
pub record IsEach {S X : Type 0} (handed : X → S) (Good : S → X → Type 0) (All : S → List X → Type 0) : Type 0 where
  pub none : (s : S) → All s []
  pub more : (s : S) (x : X) (xs : List X) → Good s x → All (handed x) xs → All s (x ∷ xs)
  pub parts : (s : S) (x : X) (xs : List X) → All s (x ∷ xs) → Good s x × All (handed x) xs

-- Whatever is good from here on completes the list.
abbrev pub UpTo : {S X : Type 0} → (S → List X → Type 0) → S → List X → S → Type 0
UpTo {X = X} All from front s = (ys : List X) → All s ys → All from (front ++ ys)

module _ {S X : Type 0} {handed : X → S} {Good : S → X → Type 0} {All : S → List X → Type 0} (each : IsEach handed Good All) where
  pub up_on : (from s : S) (front : List X) (x : X) → Good s x → UpTo All from front s → UpTo All from (front ++ x ∷ []) (handed x)
  up_on from s front x good so_far ys all = subst (All from) (sym (append_assoc front (x ∷ []) ys)) (so_far (x ∷ ys) (each.more s x ys good all))

  pub up_all : (from s : S) (front : List X) → UpTo All from front s → All from front
  up_all from s front so_far = subst (All from) (append-nil front) (so_far [] (each.none s))

module _ {S X F : Type 0} {handed : X → S} {one : S → Reading X F} {text : X → List ℕ} {Good : S → X → Type 0} {All : S → List X → Type 0}
    (each : IsEach handed Good All) (a : (s : S) → Agrees (one s) text (Good s)) where
  times_reads : (s : S) (xs : List X) → All s xs → Reads (times_at handed one (length xs) s) (flat_map text xs) xs
  unfolding times_at
  times_reads s [] good = reads_nothing []
  times_reads s (x ∷ xs) good =
      let p = each.parts s x xs good in
      let others = times_at handed one (length xs) in
      reads_then (one s) (λ y i. others (handed y) i >>= λ ys. Ok (y ∷ ys.0, ys.1)) (text x) (flat_map text xs) x (x ∷ xs) ((a s).reads x p.0)
      (reads_last (others (handed x)) (λ ys. x ∷ ys) (flat_map text xs) xs (times_reads (handed x) xs p.1))

  -- So many were read.
  abbrev AreTaken : ℕ → S → Input → List X × Input → Type 0
  AreTaken n s i xs = Takes i (flat_map text xs.0) xs.1 × ((length xs.0 ≡ n) × All s xs.0)

  times_takes : (n : ℕ) (s : S) (i : Input) (xs : List X × Input) → IsReady i → times_at handed one n s i ≡ Ok xs → AreTaken n s i xs
  unfolding times_at
  times_takes zero s i xs ready e = subst (AreTaken 0 s i) (ok_is ([], i) xs e) (takes_nothing i ready.1, (refl, each.none s))
  times_takes (suc n) s i xs ready e =
      let others = times_at handed one n in
      let x = bind_ok (one s i) (λ x. others (handed x.0) x.1 >>= λ ys. Ok (x.0 ∷ ys.0, ys.1)) xs e in
      let ys = bind_ok (others (handed x.0.0) x.0.1) (λ ys. Ok (x.0.0 ∷ ys.0, ys.1)) xs x.2 in
      let p = (a s).takes i x.0 ready x.1 in
      let q = times_takes n (handed x.0.0) x.0.1 ys.0 (ready_behind p.0 ready) ys.1 in
      let made : List X × Input = (x.0.0 ∷ ys.0.0, ys.0.1) in
      subst (AreTaken (suc n) s i) (ok_is made xs ys.2)
      (takes_then i x.0.1 ys.0.1 (text x.0.0) (flat_map text ys.0.0) p.0 q.0, (ap suc q.1.0, each.more s x.0.0 ys.0.0 p.1 q.1.1))

  pub times_agrees : (n : ℕ) (s : S) → Agrees (times_at handed one n s) (flat_map text) (λ xs. (length xs ≡ n) × All s xs)
  times_agrees n s = record {
    reads = λ xs good. subst (λ k. Reads (times_at handed one k s) (flat_map text xs) xs) good.0 (times_reads s xs good.1);
    takes = times_takes n s;
  }

-- ---- up to a mark

-- the text of the next, or else the mark
abbrev pub next_text : {X : Type 0} → (X → List ℕ) → List ℕ → Option X → List ℕ
next_text text mark None = mark
next_text text mark (Some x) = text x

-- The next is good, if there is one.
abbrev pub IsNext : {X : Type 0} → (X → Type 0) → Option X → Type 0
IsNext Good None = Unit {0}
IsNext Good (Some x) = Good x

-- What is good of a list is what is good of each by itself.
abbrev pub IsOfEach : {X : Type 0} → (X → Type 0) → (List X → Type 0) → Type 0
IsOfEach Good All = IsEach {S = Unit {0}} (λ x. tt) (λ s. Good) (λ s. All)

abbrev head : {X : Type 0} → List X → Option X
head [] = None
head (x ∷ xs) = Some x

abbrev tail : {X : Type 0} → List X → List X
tail [] = []
tail (x ∷ xs) = xs

abbrev after_text : {X : Type 0} → (X → List ℕ) → List ℕ → Option X → List X → List ℕ
after_text text mark None xs = []
after_text text mark (Some x) xs = flat_map text (tail xs) ++ mark

abbrev IsAfter : {X : Type 0} → (List X → Type 0) → ℕ → Option X → List X → Type 0
IsAfter All n None xs = [] ≡ xs
IsAfter All n (Some x) xs = ((length (tail xs) ≤ n) × All (tail xs)) × (x ∷ tail xs ≡ xs)

head_is : {X : Type 0} (All : List X → Type 0) (n : ℕ) (o : Option X) (xs : List X) → IsAfter All n o xs → head xs ≡ o
head_is All n None xs h = ap head (sym h)
head_is All n (Some x) xs h = ap head (sym h.1)

module _ {X F : Type 0} {next : Reading (Option X) F} {last : Input → Result Input F} (text : X → List ℕ) {mark : List ℕ} {Good : X → Type 0} {All : List X → Type 0}
    (each : IsOfEach Good All) (a : Agrees next (next_text text mark) (IsNext Good)) (m : IsMark last mark) where
  after_agrees : (n : ℕ) → Agrees (until_at next last n) (λ xs. flat_map text xs ++ mark) (λ xs. (length xs ≤ n) × All xs) → (o : Option X)
      → Agrees (λ i. option_map_or (λ x. until_at next last n i >>= λ xs. Ok (x ∷ xs.0, xs.1)) o (Ok ([], i))) (after_text text mark o) (IsAfter All n o)
  after_agrees n b None = nothing_agrees []
  after_agrees n b (Some x) = last_agrees b (λ xs. x ∷ xs) tail (λ xs good. refl)

  pub until_agrees : (n : ℕ) → Agrees (until_at next last n) (λ xs. flat_map text xs ++ mark) (λ xs. (length xs ≤ n) × All xs)
  unfolding until_at
  until_agrees zero =
      let to : (xs : List X) → [] ≡ xs → (length xs ≤ 0) × All xs = λ xs same. subst (λ ys. (length ys ≤ 0) × All ys) same (omega arith, each.none tt) in
      let from : (xs : List X) → (length xs ≤ 0) × All xs → [] ≡ xs = λ xs good. sym (nil_from_length xs (omega (arith, good.0))) in
      agrees_as (mark_agrees m (nothing_agrees [])) (λ xs same. subst (λ ys. mark ++ [] ≡ flat_map text ys ++ mark) same (append-nil mark)) to from
  until_agrees (suc n) =
      let Then : List X → Type 0 = λ xs. IsNext Good (head xs) × IsAfter All n (head xs) xs in
      let text_is : (xs : List X) → Then xs → next_text text mark (head xs) ++ after_text text mark (head xs) xs ≡ flat_map text xs ++ mark =
      elim [ [] ↦ λ good. append-nil mark | x ∷ xs ↦ λ good. sym (append_assoc (text x) (flat_map text xs) mark) ] in
      let to : (xs : List X) → Then xs → (length xs ≤ suc n) × All xs =
      elim [ [] ↦ λ good. (omega arith, each.none tt) | x ∷ xs ↦ λ good. (omega (arith, good.1.0.0), each.more tt x xs good.0 good.1.0.1) ] in
      let from : (xs : List X) → (length xs ≤ suc n) × All xs → Then xs =
      elim [ [] ↦ λ good. (tt, refl) | x ∷ xs ↦ λ good. let p = each.parts tt x xs good.1 in (p.0, ((omega (arith, good.0), p.1), refl)) ] in
      agrees_as (then_agrees a head (λ o h. after_agrees n (until_agrees n) o) (λ o xs p h. head_is All n o xs h)) text_is to from

-- ---- the whole

-- The same, where nothing may be left behind the text.
pub record IsWhole {X F : Type 0} (read : Input → Result X F) (text : X → List ℕ) (Good : X → Type 0) : Type 0 where
  pub reads : (x : X) → Good x → (limit at : ℕ) → at + length (text x) ≤ limit → read (front limit at (text x)) ≡ Ok x
  pub takes : (i : Input) (x : X) → IsReady i → read i ≡ Ok x → (i.bytes ≡ text x) × (i.at + length i.bytes ≤ i.limit) × Good x

pub end_whole : {X F : Type 0} (fault : ℕ → F) (x : X) → IsWhole (ended fault x) (λ y. []) (λ y. x ≡ y)
end_whole fault x = record {
  reads = λ y same limit at within. ap (λ z. Ok z) same;
  takes = λ i y ready e.
      let g = tested_ok (eqb (length i.bytes) 0) (fault i.at) x y e in
      let none : length i.bytes ≡ 0 = eqb-true _ _ g.0 in
      (nil_from_length i.bytes none, omega (arith, ready.1), g.1);
}

pub then_whole : {X Y F : Type 0} {f : Reading X F} {s : X → List ℕ} {P : X → Type 0} {g : X → Input → Result Y F} {t : X → Y → List ℕ} {Q : X → Y → Type 0}
    → Agrees f s P → (part : Y → X) → ((x : X) → P x → IsWhole (g x) (t x) (Q x)) → ((x : X) (y : Y) → P x → Q x y → part y ≡ x)
    → IsWhole (λ i. f i >>= λ x. g x.0 x.1) (λ y. s (part y) ++ t (part y) y) (λ y. P (part y) × Q (part y) y)
then_whole {f = f} {s = s} {P = P} {g = g} {t = t} {Q = Q} a part b is = record {
  reads = λ y good limit at within.
      let x = part y in
      let size : length (s x ++ t x y) ≡ length (s x) + length (t x y) = length-append (s x) (t x y) in
      ap (λ r. r >>= λ x. g x.0 x.1) (a.reads x good.0 limit at (t x y) (omega arith)) ∙ (b x good.0).reads y good.1 limit (at + length (s x)) (omega arith);
  takes = λ i y ready e.
      let x = bind_ok (f i) (λ x. g x.0 x.1) y e in
      let p = a.takes i x.0 ready x.1 in
      let q = (b x.0.0 p.1).takes x.0.1 y (ready_behind p.0 ready) x.2 in
      let whole : i.bytes ≡ s x.0.0 ++ t x.0.0 y = p.0.parts ∙ ap (λ u. s x.0.0 ++ u) q.0 in
      let size : length i.bytes ≡ length (s x.0.0) + length x.0.1.bytes = ap length p.0.parts ∙ length-append (s x.0.0) x.0.1.bytes in
      let within : i.at + length i.bytes ≤ i.limit = omega (arith, p.0.at, p.0.limit, q.1) in
      subst (λ z. (i.bytes ≡ s z ++ t z y) × (i.at + length i.bytes ≤ i.limit) × (P z × Q z y)) (sym (is x.0.0 y p.1 q.2)) (whole, within, (p.1, q.2));
}

module _ {X F : Type 0} {f : Input → Result X F} {s : X → List ℕ} {P : X → Type 0} (a : IsWhole f s P) where
  pub last_whole : {Y : Type 0} (made : X → Y) (back : Y → X) → ((x : X) → P x → back (made x) ≡ x)
      → IsWhole (λ i. f i >>= λ x. Ok (made x)) (λ y. s (back y)) (λ y. P (back y) × (made (back y) ≡ y))
  last_whole {Y = Y} made back again = record {
    reads = λ y good limit at within. ap (λ r. r >>= λ x. Ok (made x)) (a.reads (back y) good.0 limit at within) ∙ ap (λ z. Ok z) good.1;
    takes = λ i y ready e.
        let x = bind_ok (f i) (λ x. Ok (made x)) y e in
        let p = a.takes i x.0 ready x.1 in
        let Is : X → Y → Type 0 = λ z y. (i.bytes ≡ s z) × (i.at + length i.bytes ≤ i.limit) × (P z × (made z ≡ y)) in
        subst (λ z. Is (back z) z) (ok_is (made x.0) y x.2) (subst (λ z. Is z (made x.0)) (sym (again x.0 p.2)) (p.0, p.1, (p.2, refl)));
  }

  pub whole_as : {t : X → List ℕ} {Q : X → Type 0} → ((x : X) → P x → s x ≡ t x) → ((x : X) → P x → Q x) → ((x : X) → Q x → P x) → IsWhole f t Q
  whole_as same to from = record {
    reads = λ x good limit at. subst (λ u. at + length u ≤ limit → f (front limit at u) ≡ Ok x) (same x (from x good)) (a.reads x (from x good) limit at);
    takes = λ i x ready e. let p = a.takes i x ready e in (p.0 ∙ same x p.2, p.1, to x p.2);
  }

pub mark_whole : {X F : Type 0} {m : Input → Result Input F} {s : List ℕ} {g : Input → Result X F} {t : X → List ℕ} {P : X → Type 0}
    → IsMark m s → IsWhole g t P → IsWhole (λ i. m i >>= g) (λ x. s ++ t x) P
mark_whole {m = m} {g = g} mark a =
    let both = then_whole mark.agrees (λ x. tt) (λ u h. a) (λ u x h q. refl) in
    record {
      reads = λ x good limit at within. sym (bind_marked m g _) ∙ both.reads x (tt, good) limit at within;
      takes = λ i x ready e. let p = both.takes i x ready (bind_marked m g i ∙ e) in (p.0, p.1, p.2.1);
    }

-- ---- what a function answered that read the whole of some bytes

module _ {X A E F : Type 0} {read : Input → Result X F} {s : X → List ℕ} {P : X → Type 0} (w : IsWhole read s P) (format_of : E → Option F) (view : A → X) (limit : ℕ) where
  -- what reading gives, where only bytes were taken
  abbrev Answered : Result A E → Option Input → Type 0
  Answered r source = IfSome source (λ i. fields.Answers format_of view r (read i)) × OnOk r (AreBytes source)

  known_text : (o : Option (List ℕ)) (r : Result A E) → Answered r (known limit 0 o) → IfSome o (λ bytes. IfOk r (λ a. bytes ≡ s (view a)))
  known_text None r h = tt
  known_text (Some bytes) (Err e) h = tt
  known_text (Some bytes) (Ok a) h = (w.takes (front limit 0 bytes) (view a) (h.1, omega arith) h.0).0

  known_within : (o : Option (List ℕ)) (r : Result A E) → Answered r (known limit 0 o) → IfSome o (λ bytes. OnOk r (length bytes ≤ limit))
  known_within None r h = tt
  known_within (Some bytes) (Err e) h = tt
  known_within (Some bytes) (Ok a) h = let p = w.takes (front limit 0 bytes) (view a) (h.1, omega arith) h.0 in omega (arith, p.1)

  pub whole_text : (o : Option (List ℕ)) (source : Option Input) (r : Result A E) → source ≡ known limit 0 o → Answered r source → IfSome o (λ bytes. IfOk r (λ a. bytes ≡ s (view a)))
  whole_text o source r same h = known_text o r (subst (Answered r) same h)

  pub whole_within : (o : Option (List ℕ)) (source : Option Input) (r : Result A E) → source ≡ known limit 0 o → Answered r source → IfSome o (λ bytes. OnOk r (length bytes ≤ limit))
  whole_within o source r same h = known_within o r (subst (Answered r) same h)
