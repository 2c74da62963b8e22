-- Parts of a buffer, and bytes that are passed and read.
use Rattle.std.proofs.Common.{◌≡◌, ℕ, ◌+◌, ◌-◌, ◌<◌, ◌≤◌, List, [], ◌∷◌, ◌++◌, length, take, drop, Option, Some, None, sym, ◌∙◌, ap, subst, refl, arith, append_assoc, length-append, length-drop, length-take}
use Rattle.std.specs.Prelude.{IfSome}
use Rattle.std.specs.Io.KnownBytes.{Consumes, prepend_known}
use Rattle.std.proofs.lemmas.List.{drop-drop, drop-take, take-take, take-append-le, drop-append-le, length-take-le}
use Rattle.std.proofs.lemmas.Slice.{between_is}
use Rattle.std.proofs.Math.Seq.{take-add}
use Rattle.packet_captures.specs.Window.{Ahead, SameAhead, IsAllHeld, Passes, PassesAll, bytes_ahead, passed, held_in}

pub held_in-pass : (s e n : ℕ) (xs : List ℕ) → s + n ≤ e → held_in (s + n) e xs ≡ drop n (held_in s e xs)
held_in-pass s e n xs h =
    let m : ℕ = e - (s + n) in
    let k : e - s ≡ n + m = omega arith in
    sym (ap (λ (j : ℕ). drop n (take j (drop s xs))) k ∙ (drop-take n m (drop s xs) ∙ ap (λ (ys : List ℕ). take m ys) (drop-drop n s xs)))

pub held_in-part : (s e from count : ℕ) (xs : List ℕ) → s + from + count ≤ e
    → held_in (s + from) (s + from + count) xs ≡ take count (drop from (held_in s e xs))
held_in-part s e from count xs h =
    let k : s + from + count - (s + from) ≡ count = omega arith in
    let m : count ≤ e - (s + from) = omega arith in
    ap (λ (j : ℕ). take j (drop (s + from) xs)) k
    ∙ (sym (take-take count (e - (s + from)) (drop (s + from) xs) m)
    ∙ ap (λ (ys : List ℕ). take count ys) (held_in-pass s e from xs (omega arith)))

pub held_in-longer : (s e : ℕ) (xs ys : List ℕ) → s ≤ e → e ≤ length xs → held_in s e (xs ++ ys) ≡ held_in s e xs
held_in-longer s e xs ys h g =
    let k : e - s ≤ length (drop s xs) = omega (arith, length-drop s xs) in
    ap (λ (zs : List ℕ). take (e - s) zs) (drop-append-le s xs ys (omega arith)) ∙ take-append-le (e - s) (drop s xs) ys k

pub held_in-more : (s e n : ℕ) (old new : List ℕ) → s ≤ e → e ≤ length old → take e new ≡ take e old
    → held_in s (e + n) new ≡ held_in s e old ++ take n (drop e new)
held_in-more s e n old new h g f =
    let long : s ≤ length (take e old) = omega (arith, length-take-le e old g) in
    between_is new s (e + n)
    ∙ (ap (λ (ys : List ℕ). drop s ys) (take-add e n new ∙ ap (λ (ys : List ℕ). ys ++ take n (drop e new)) f)
    ∙ (drop-append-le s (take e old) (take n (drop e new)) long
    ∙ ap (λ (ys : List ℕ). ys ++ take n (drop e new)) (sym (between_is old s e))))

-- what was read is held behind what was held
pub ahead-read : (held more : List ℕ) (old new : Option (List ℕ)) → Consumes old new more
    → IfSome (prepend_known held old) (λ b. prepend_known (held ++ more) new ≡ Some b)
ahead-read held more None new c = tt
ahead-read held more (Some xs) None c = absurd c
ahead-read held more (Some xs) (Some ys) c = ap Some (append_assoc held more ys ∙ ap (λ (zs : List ℕ). held ++ zs) (sym c))

known-trans : (x y z : Option (List ℕ)) → IfSome x (λ b. y ≡ Some b) → IfSome y (λ b. z ≡ Some b) → IfSome x (λ b. z ≡ Some b)
known-trans None y z e f = tt
known-trans (Some b) None z e f = absurd (cc)
known-trans (Some b) (Some d) z e f = f ∙ e

pub same-trans : (a b c : Ahead) → SameAhead a b → SameAhead b c → SameAhead a c
same-trans a b c p q = record {
  at = q.at ∙ p.at;
  bytes = known-trans (bytes_ahead a) (bytes_ahead b) (bytes_ahead c) p.bytes q.bytes;
}

pub held_in-room : (s e n : ℕ) (xs : List ℕ) → s ≤ e → n ≤ length (held_in s e xs) → s + n ≤ e
held_in-room s e n xs h g = omega (arith, length-take (e - s) (drop s xs))

-- the bytes ahead after some were passed, and others kept
pub window-passed : (s e n at : ℕ) (xs : List ℕ) (rest : Option (List ℕ)) (before kept : List ℕ) → s + n ≤ e
    → record { at = at + n; held = held_in (s + n) e xs; rest = rest; kept = kept }
    ≡ passed n (record { at = at; held = held_in s e xs; rest = rest; kept = before }) kept
window-passed s e n at xs rest before kept h =
    let f : List ℕ → Ahead = λ (ys : List ℕ). record { at = at + n; held = ys; rest = rest; kept = kept } in
    ap f (held_in-pass s e n xs h)

-- the bytes ahead after a read
pub window-read : (s e n at : ℕ) (old new : List ℕ) (rest rest' : Option (List ℕ)) (kept kept' : List ℕ)
    → s ≤ e → e ≤ length old → take e new ≡ take e old → Consumes rest rest' (take n (drop e new))
    → SameAhead (record { at = at; held = held_in s e old; rest = rest; kept = kept })
    (record { at = at; held = held_in s (e + n) new; rest = rest'; kept = kept' })
window-read s e n at old new rest rest' kept kept' h g f c = record {
  at = refl;
  bytes =
      let P : List ℕ → Type 0 = λ (ys : List ℕ). IfSome (prepend_known (held_in s e old) rest) (λ b. prepend_known ys rest' ≡ Some b) in
      subst P (sym (held_in-more s e n old new h g f)) (ahead-read (held_in s e old) (take n (drop e new)) rest rest' c);
}

passed-there : (n : ℕ) (held : List ℕ) (rest : Option (List ℕ)) → n ≤ length held → IfSome (prepend_known held rest) (λ b. n ≤ length b)
passed-there n held None h = tt
passed-there n held (Some xs) h = omega (arith, length-append held xs)

passed-bytes : (n : ℕ) (held : List ℕ) (rest : Option (List ℕ)) → n ≤ length held
    → IfSome (prepend_known held rest) (λ b. prepend_known (drop n held) rest ≡ Some (drop n b))
passed-bytes n held None h = tt
passed-bytes n held (Some xs) h = ap Some (sym (drop-append-le n held xs h))

pub passes-passed : (n : ℕ) (a : Ahead) (kept : List ℕ) → n ≤ length a.held → Passes n a (passed n a kept)
passes-passed n a kept h = record { at = refl; there = passed-there n a.held a.rest h; bytes = passed-bytes n a.held a.rest h }

none-there : (x : Option (List ℕ)) → IfSome x (λ b. 0 ≤ length b)
none-there None = tt
none-there (Some b) = omega arith

none-bytes : (x : Option (List ℕ)) → IfSome x (λ b. x ≡ Some (drop 0 b))
none-bytes None = tt
none-bytes (Some b) = refl

pub passes-none : (a : Ahead) → Passes 0 a a
passes-none a = record { at = omega arith; there = none-there (bytes_ahead a); bytes = none-bytes (bytes_ahead a) }

both-there : (n m : ℕ) (x y : Option (List ℕ)) → IfSome x (λ b. n ≤ length b) → IfSome x (λ b. y ≡ Some (drop n b)) → IfSome y (λ b. m ≤ length b)
    → IfSome x (λ b. n + m ≤ length b)
both-there n m None y p q r = tt
both-there n m (Some b) None p q r = absurd (cc)
both-there n m (Some b) (Some d) p q r =
    let e : d ≡ drop n b = cc in
    let h : m ≤ length (drop n b) = subst (λ (ys : List ℕ). m ≤ length ys) e r in
    omega (arith, length-drop n b)

both-bytes : (n m : ℕ) (x y z : Option (List ℕ)) → IfSome x (λ b. y ≡ Some (drop n b)) → IfSome y (λ b. z ≡ Some (drop m b))
    → IfSome x (λ b. z ≡ Some (drop (n + m) b))
both-bytes n m None y z q r = tt
both-bytes n m (Some b) None z q r = absurd (cc)
both-bytes n m (Some b) (Some d) z q r =
    let e : d ≡ drop n b = cc in
    r ∙ ap Some (ap (λ (ys : List ℕ). drop m ys) e ∙ drop-drop m n b)

pub passes-trans : (n m : ℕ) (a b c : Ahead) → Passes n a b → Passes m b c → Passes (n + m) a c
passes-trans n m a b c p q = record {
  at = omega (arith, p.at, q.at);
  there = both-there n m (bytes_ahead a) (bytes_ahead b) p.there p.bytes q.there;
  bytes = both-bytes n m (bytes_ahead a) (bytes_ahead b) (bytes_ahead c) p.bytes q.bytes;
}

-- the same bytes ahead are none passed
same-bytes : (x y : Option (List ℕ)) → IfSome x (λ b. y ≡ Some b) → IfSome x (λ b. y ≡ Some (drop 0 b))
same-bytes None y p = tt
same-bytes (Some b) y p = p

pub passes-same : (a b : Ahead) → SameAhead a b → Passes 0 a b
passes-same a b p = record { at = omega (arith, p.at); there = none-there (bytes_ahead a); bytes = same-bytes (bytes_ahead a) (bytes_ahead b) p.bytes }

-- nothing is left, so what was passed is all
all-length : (n : ℕ) (x y : Option (List ℕ)) (held : List ℕ) → IfSome x (λ b. n ≤ length b) → IfSome x (λ b. y ≡ Some (drop n b))
    → IfSome y (λ b. b ≡ held) → length held < 1 → IfSome x (λ b. n ≡ length b)
all-length n None y held p q r h = tt
all-length n (Some b) None held p q r h = absurd (cc)
all-length n (Some b) (Some d) held p q r h =
    let e : drop n b ≡ held = cc in
    let k : length (drop n b) ≡ length held = ap length e in
    omega (arith, length-drop n b)

if-some : (x : Option (List ℕ)) (P Q : List ℕ → Type 0) → ((b : List ℕ) → P b → Q b) → IfSome x P → IfSome x Q
if-some None P Q f p = tt
if-some (Some b) P Q f p = f b p

empty : (xs : List ℕ) → length xs < 1 → xs ≡ []
empty [] h = refl
empty (x ∷ xs) h = absurd (omega arith)

pub passes-all : (n size : ℕ) (a b : Ahead) → Passes n a b → IsAllHeld b → length b.held < 1 → n < size → PassesAll size a b
passes-all n size a b p all h less =
    let lengths = all-length n (bytes_ahead a) (bytes_ahead b) b.held p.there p.bytes all h in
    record {
      at = if-some (bytes_ahead a) (λ (xs : List ℕ). n ≡ length xs) (λ (xs : List ℕ). b.at ≡ a.at + length xs) (λ (xs : List ℕ) (e : n ≡ length xs). omega (arith, p.at)) lengths;
      fewer = if-some (bytes_ahead a) (λ (xs : List ℕ). n ≡ length xs) (λ (xs : List ℕ). length xs < size) (λ (xs : List ℕ) (e : n ≡ length xs). omega arith) lengths;
      held = empty b.held h;
    }
