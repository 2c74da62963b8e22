-- What is wrong where a reading fails: the field that it tells of stands behind good ones, and a reading tells of each field that is wrong behind good ones.
use Rattle.std.proofs.Common.{◌≡◌, ℕ, zero, suc, ◌+◌, ◌<◌, ◌≤◌, Bool, true, false, cond, eqb, ltb, List, [], ◌∷◌, ◌++◌, length, take, Option, Some, None, Result, Ok, Err, refl, sym, ap, subst, ◌∙◌, append_assoc, append-nil, inl, inr, arith}
use Rattle.std.specs.List.{flat_map}
use Rattle.std.specs.Int.{Width, byte_len, from_be_bytes}
use Rattle.std.proofs.lemmas.Bool.{le-ltb}
use Rattle.std.proofs.lemmas.List.{length-append}
use Rattle.byte_files.specs.Fields.{Input, Names, ◌>>=◌, tested, field_at, number_at, number_where, ended}
use Rattle.byte_files.specs.Repeats.{times_at, handed_on, until_at}
use Rattle.byte_files.specs.Rows.{Row, unless, any, number, number_in, fault_at}
use Rattle.byte_files.proofs.Fields.{bind_err, ok_err, front, Takes, takes_then, Reading}
use Rattle.byte_files.proofs.Codec.{IsReady, ready_behind, Agrees, bind_twice, bind_marked, IsMark, IsEach, IsOfEach, next_text, IsNext}

-- ---- a field that is wrong

-- the fault, if a reading failed
abbrev pub failure : {X F : Type 0} → Result X F → Option F
failure (Ok x) = None
failure (Err d) = Some d

pub failure_is : {X F : Type 0} (r : Result X F) (d : F) → failure r ≡ Some d → r ≡ Err d
failure_is (Ok x) d e = absurd cc
failure_is (Err c) d e = let same : c ≡ d = cc in ap (λ z. Err z) same

pub tested_wrong : {X F : Type 0} (b : Bool) (d : F) (x : X) → failure (tested b d x) ≡ unless b d
tested_wrong true d x = refl
tested_wrong false d x = refl

-- the same of two tests, one after the other
pub twice_wrong : {X Y F : Type 0} (b : Bool) (d : F) (x : X) (test : X → Bool) (e : F) (y : X → Y)
    → failure (tested b d x >>= λ z. tested (test z) e (y z)) ≡ cond b (unless (test x) e) (Some d)
twice_wrong true d x test e y = tested_wrong (test x) e (y x)
twice_wrong false d x test e y = refl

-- past the limit, or else not wholly there, or else tested
shut : {X Y F : Type 0} (over short : Bool) (o t : F) (x : X) (f : X → Result Y F) (fault : Option F) → failure (f x) ≡ fault
    → failure (cond over (Err o) (cond short (Err t) (Ok x)) >>= f) ≡ cond over (Some o) (cond short (Some t) fault)
shut true short o t x f fault e = refl
shut false true o t x f fault e = refl
shut false false o t x f fault e = e

bind_same : {X F : Type 0} (r : Result X F) → (r >>= λ x. Ok x) ≡ r
bind_same (Ok x) = refl
bind_same (Err e) = refl

module _ {F : Type 0} (names : Names F) where
  -- What is wrong with the field at the front, by its row, is what a reading tells.
  pub record ReportsFault {X : Type 0} (read : Input → Result X F) (row : Row F) : Type 0 where
    pub tells : (i : Input) → i.at ≤ i.limit → failure (read i) ≡ fault_at names i.limit row i.at i.bytes

  wrong_as : {X : Type 0} {f g : Input → Result X F} {row : Row F} → ((i : Input) → f i ≡ g i) → ReportsFault f row → ReportsFault g row
  wrong_as same t = record { tells = λ i within. ap failure (sym (same i)) ∙ t.tells i within }

  pub field_wrong : {X : Type 0} (row : Row F) (judge : Input → List ℕ × Input → Result X F)
      → ((i j : Input) → failure (judge i (take row.width i.bytes, j)) ≡ row.fault i.at i.bytes) → ReportsFault (λ i. field_at names row.width i >>= judge i) row
  unfolding field_at
  field_wrong row judge e = record {
    tells = λ i within.
        shut (ltb i.limit (i.at + row.width)) (ltb (length i.bytes) row.width) _ _ _ (judge i) (row.fault i.at i.bytes) (e i _);
  }

  pub bytes_wrong : (n : ℕ) → ReportsFault (field_at names n) (any n)
  bytes_wrong n = wrong_as (λ i. bind_same (field_at names n i)) (field_wrong (any n) (λ i b. Ok b) (λ i j. refl))

  pub any_wrong : (w : Width) → ReportsFault (number_at names w) (any (byte_len w))
  unfolding number_at
  any_wrong w = field_wrong (any (byte_len w)) (λ i b. Ok (from_be_bytes w b.0, b.1)) (λ i j. refl)

  -- a number that is tested
  pub number_wrong : {X : Type 0} (w : Width) (fault : ℕ → ℕ → Option F) (judge : Input → ℕ × Input → Result X F)
      → ((i : Input) (n : ℕ) (j : Input) → failure (judge i (n, j)) ≡ fault i.at n) → ReportsFault (λ i. number_at names w i >>= judge i) (number w fault)
  unfolding number_at
  number_wrong w fault judge e =
      wrong_as (λ i. sym (bind_twice (field_at names (byte_len w) i) (λ b. Ok (from_be_bytes w b.0, b.1)) (judge i)))
      (field_wrong (number w fault) (λ i b. judge i (from_be_bytes w b.0, b.1)) (λ i j. e i _ j))

  pub where_wrong : (w : Width) (test : ℕ → Bool) (fault : ℕ → F) → ReportsFault (number_where names w test fault) (number_in w test fault)
  unfolding number_where
  where_wrong w test fault =
      number_wrong w (λ at n. unless (test n) (fault at)) (λ i n. tested (test n.0) (fault i.at) n) (λ i n j. tested_wrong (test n) (fault i.at) (n, j))

  -- the same, with what is tested behind it
  pub where_then_wrong : {X : Type 0} (w : Width) (test : ℕ → Bool) (fault : ℕ → F) (wrong : ℕ → ℕ → Option F) (judge : Input → ℕ × Input → Result X F)
      → ((i : Input) (n : ℕ) (j : Input) → failure (tested (test n) (fault i.at) (n, j) >>= judge i) ≡ wrong i.at n)
      → ReportsFault (λ i. number_where names w test fault i >>= judge i) (number w wrong)
  unfolding number_where
  where_then_wrong w test fault wrong judge e =
      wrong_as (λ i. sym (bind_twice (number_at names w i) (λ n. tested (test n.0) (fault i.at) n) (judge i)))
      (number_wrong w wrong (λ i n. tested (test n.0) (fault i.at) n >>= judge i) e)

  pub end_wrong : {X : Type 0} (fault : ℕ → F) (x : X) → ReportsFault (ended fault x) (record { width = 0; fault = λ at left. unless (eqb (length left) 0) (fault at) })
  end_wrong fault x = record {
    tells = λ i within.
        let over : ltb i.limit (i.at + 0) ≡ false = le-ltb _ _ (omega arith) in
        let short : ltb (length i.bytes) 0 ≡ false = le-ltb _ _ (omega arith) in
        rw (over, short) (tested_wrong (eqb (length i.bytes) 0) (fault i.at) x);
  }

-- ---- a reading that fails tells rightly

-- Whatever a reading behind a text tells is right.
pub record Refuses {X F : Type 0} (Right : F → Type 0) (first : Input) (before : List ℕ) (read : Input → Result X F) : Type 0 where
  pub rightly : (i : Input) (d : F) → Takes first before i → IsReady i → read i ≡ Err d → Right d

-- what stands behind one more
split : {X : Type 0} (text : X → List ℕ) (before : List ℕ) (x : X) (xs : List X)
    → before ++ flat_map text (x ∷ xs) ≡ (before ++ text x) ++ flat_map text xs
split text before x xs = sym (append_assoc before (text x) (flat_map text xs))

module _ {F : Type 0} {R : F → Type 0} {o : Input} where
  pub refuses_never : {X : Type 0} {before : List ℕ} (made : Input → X) → Refuses R o before (λ i. Ok (made i))
  refuses_never made = record { rightly = λ i d t ready e. absurd (ok_err _ _ d refl e) }

  pub refuses_last : {X Y : Type 0} {before : List ℕ} {f : Input → Result X F} (made : X → Y)
      → Refuses R o before f → Refuses R o before (λ i. f i >>= λ x. Ok (made x))
  refuses_last {f = f} made h = record {
    rightly = λ i d t ready e. elim (bind_err (f i) (λ x. Ok (made x)) d e) [
      | inl x ↦ h.rightly i d t ready x
      | inr x ↦ absurd (ok_err _ _ d refl x.2)
    ];
  }

  pub refuses_then : {X Y : Type 0} {before : List ℕ} {f : Reading X F} {s : X → List ℕ} {P : X → Type 0} {g : X → Input → Result Y F}
      → Agrees f s P → Refuses R o before f → ((x : X) → P x → Refuses R o (before ++ s x) (g x)) → Refuses R o before (λ i. f i >>= λ x. g x.0 x.1)
  refuses_then {before = before} {f = f} {s = s} {g = g} a h k = record {
    rightly = λ i d t ready e. elim (bind_err (f i) (λ x. g x.0 x.1) d e) [
      | inl x ↦ h.rightly i d t ready x
      | inr x ↦
          let p = a.takes i x.0 ready x.1 in
          (k x.0.0 p.1).rightly x.0.1 d (takes_then o i x.0.1 before (s x.0.0) t p.0) (ready_behind p.0 ready) x.2
    ];
  }

  pub refuses_read : {X : Type 0} {before : List ℕ} {f g : Input → Result X F} → ((i : Input) → f i ≡ g i) → Refuses R o before f → Refuses R o before g
  refuses_read same h = record { rightly = λ i d t ready e. h.rightly i d t ready (same i ∙ e) }

  pub refuses_behind : {X : Type 0} {s t : List ℕ} {f : Input → Result X F} → s ≡ t → Refuses R o s f → Refuses R o t f
  refuses_behind {f = f} same h = subst (λ u. Refuses R o u f) same h

  -- the same with the front of the text apart
  pub refuses_on : {X Y : Type 0} (a b : List ℕ) {f : Reading X F} {s : X → List ℕ} {P : X → Type 0} {g : X → Input → Result Y F}
      → Agrees f s P → Refuses R o (a ++ b) f → ((x : X) → P x → Refuses R o (a ++ (b ++ s x)) (g x)) → Refuses R o (a ++ b) (λ i. f i >>= λ x. g x.0 x.1)
  refuses_on a b {s = s} c h k = refuses_then c h (λ x p. refuses_behind (sym (append_assoc a b (s x))) (k x p))

  pub refuses_mark : {X : Type 0} {before : List ℕ} {m : Input → Result Input F} {s : List ℕ} {g : Input → Result X F}
      → IsMark m s → Refuses R o before m → Refuses R o (before ++ s) g → Refuses R o before (λ i. m i >>= g)
  refuses_mark {m = m} {g = g} mark h k = refuses_read (bind_marked m g) (refuses_then mark.agrees (refuses_last (λ j. (tt, j)) h) (λ u good. k))

  pub refuses_times : {S X : Type 0} {handed : X → S} {one : S → Reading X F} {text : X → List ℕ} {Good : S → X → Type 0} {All : S → List X → Type 0}
      {before : List ℕ} → IsEach handed Good All → ((s : S) → Agrees (one s) text (Good s)) → (n : ℕ) (s : S)
      → ((xs : List X) → All s xs → length xs < n → Refuses R o (before ++ flat_map text xs) (one (handed_on handed s xs)))
      → Refuses R o before (times_at handed one n s)
  unfolding times_at
  refuses_times each a zero s h = refuses_never (λ i. ([], i))
  refuses_times {text = text} {before = before} each a (suc n) s h =
      refuses_then (a s) (refuses_behind (append-nil before) (h [] (each.none s) (omega arith)))
      (λ x p. refuses_last (λ xs. (x ∷ xs.0, xs.1)) (refuses_times each a n _
      (λ xs all few. refuses_behind (split text before x xs) (h (x ∷ xs) (each.more s x xs p all) (omega arith)))))

  pub refuses_until : {X : Type 0} {next : Reading (Option X) F} {last : Input → Result Input F} (text : X → List ℕ) {mark : List ℕ} {Good : X → Type 0}
      {All : List X → Type 0} {before : List ℕ} → IsOfEach Good All → Agrees next (next_text text mark) (IsNext Good) → (n : ℕ)
      → ((xs : List X) → All xs → length xs < n → Refuses R o (before ++ flat_map text xs) next)
      → ((xs : List X) → All xs → length xs ≡ n → Refuses R o (before ++ flat_map text xs) last) → Refuses R o before (until_at next last n)
  unfolding until_at
  refuses_until text {before = before} each a zero h k = refuses_last (λ rest. ([], rest)) (refuses_behind (append-nil before) (k [] (each.none tt) refl))
  refuses_until text {before = before} each a (suc n) h k =
      refuses_then a (refuses_behind (append-nil before) (h [] (each.none tt) (omega arith))) (elim [
        | None ↦ λ p. refuses_never (λ i. ([], i))
        | Some x ↦ λ p. refuses_last (λ xs. (x ∷ xs.0, xs.1)) (refuses_until text each a n
            (λ xs all few. refuses_behind (split text before x xs) (h (x ∷ xs) (each.more tt x xs p all) (omega arith)))
            (λ xs all full. refuses_behind (split text before x xs) (k (x ∷ xs) (each.more tt x xs p all) (ap suc full))))
      ])

-- ---- a reading tells of each field that is wrong

-- The whole fails behind a text as a reading does that comes there.
pub record Reaches {X Y F : Type 0} (whole : Input → Result Y F) (before : List ℕ) (read : Input → Result X F) : Type 0 where
  pub stops : (limit : ℕ) (rest : List ℕ) (d : F) → length before ≤ limit → read (front limit (length before) rest) ≡ Err d
      → whole (front limit 0 (before ++ rest)) ≡ Err d

module _ {W F : Type 0} {w : Input → Result W F} where
  pub reach_start : Reaches w [] w
  reach_start = record { stops = λ limit rest d within e. e }

  pub reach_first : {X Y : Type 0} {before : List ℕ} (f : Input → Result X F) (g : X → Result Y F) → Reaches w before (λ i. f i >>= g) → Reaches w before f
  reach_first f g h = record { stops = λ limit rest d within e. h.stops limit rest d within (ap (λ r. r >>= g) e) }

  pub reach_read : {X : Type 0} {before : List ℕ} {f g : Input → Result X F} → ((i : Input) → f i ≡ g i) → Reaches w before f → Reaches w before g
  reach_read same h = record { stops = λ limit rest d within e. h.stops limit rest d within (same _ ∙ e) }

  pub reach_behind : {X : Type 0} {s t : List ℕ} {f : Input → Result X F} → s ≡ t → Reaches w s f → Reaches w t f
  reach_behind {f = f} same h = subst (λ u. Reaches w u f) same h

  pub reach_next : {X Y : Type 0} {before : List ℕ} {f : Reading X F} {s : X → List ℕ} {P : X → Type 0}
      → Agrees f s P → (x : X) → P x → (g : X × Input → Result Y F) → Reaches w before (λ i. f i >>= g) → Reaches w (before ++ s x) (λ i. g (x, i))
  reach_next {before = before} {s = s} a x good g h = record {
    stops = λ limit rest d within e.
        let size : length before + length (s x) ≡ length (before ++ s x) = sym (length-append before (s x)) in
        let last = subst (λ n. g (x, front limit n rest) ≡ Err d) (sym size) e in
        let all = ap (λ r. r >>= g) (a.reads x good limit (length before) rest (omega arith)) ∙ last in
        ap (λ b. w (front limit 0 b)) (append_assoc before (s x) rest) ∙ h.stops limit (s x ++ rest) d (omega arith) all;
  }

  -- the same with the front of the text apart
  pub reach_on : {X Y : Type 0} (b c : List ℕ) {f : Reading X F} {s : X → List ℕ} {P : X → Type 0}
      → Agrees f s P → (x : X) → P x → (g : X × Input → Result Y F) → Reaches w (b ++ c) (λ i. f i >>= g) → Reaches w (b ++ (c ++ s x)) (λ i. g (x, i))
  reach_on b c {s = s} a x good g h = reach_behind (append_assoc b c (s x)) (reach_next a x good g h)

  pub reach_mark : {X : Type 0} {before : List ℕ} {m : Input → Result Input F} {s : List ℕ}
      → IsMark m s → (g : Input → Result X F) → Reaches w before (λ i. m i >>= g) → Reaches w (before ++ s) g
  reach_mark {m = m} mark g h = reach_next mark.agrees tt tt _ (reach_read (λ i. sym (bind_marked m g i)) h)

  pub reach_times : {S X : Type 0} {before : List ℕ} {handed : X → S} {one : S → Reading X F} {text : X → List ℕ} {Good : S → X → Type 0} {All : S → List X → Type 0}
      → IsEach handed Good All → ((s : S) → Agrees (one s) text (Good s)) → (n : ℕ) (s : S) (xs : List X) → All s xs → length xs < n
      → Reaches w before (times_at handed one n s) → Reaches w (before ++ flat_map text xs) (one (handed_on handed s xs))
  unfolding times_at
  reach_times each a zero s xs all few h = absurd (omega arith)
  reach_times {before = before} {one = one} each a (suc n) s [] all few h = reach_behind (sym (append-nil before)) (reach_first (one s) _ h)
  reach_times {before = before} {handed = handed} {one = one} {text = text} each a (suc n) s (x ∷ xs) all few h =
      let p = each.parts s x xs all in
      reach_behind (append_assoc before (text x) (flat_map text xs))
      (reach_times each a n (handed x) xs p.1 (omega arith) (reach_first (times_at handed one n (handed x)) _ (reach_next (a s) x p.0 _ h)))

  pub reach_until : {X : Type 0} {next : Reading (Option X) F} (last : Input → Result Input F) (text : X → List ℕ) {mark : List ℕ} {Good : X → Type 0}
      {All : List X → Type 0} → IsOfEach Good All → Agrees next (next_text text mark) (IsNext Good) → (n k : ℕ) (xs : List X) {before : List ℕ}
      → All xs → n ≡ length xs + k → Reaches w before (until_at next last n) → Reaches w (before ++ flat_map text xs) (until_at next last k)
  unfolding until_at
  reach_until {next = next} last text each a n k [] {before = before} all size h =
      reach_behind (sym (append-nil before)) (subst (λ m. Reaches w before (until_at next last m)) (size ∙ omega arith) h)
  reach_until last text each a zero k (x ∷ xs) all size h = absurd (omega arith)
  reach_until {next = next} last text each a (suc n) k (x ∷ xs) {before = before} all size h =
      let p = each.parts tt x xs all in
      reach_behind (append_assoc before (text x) (flat_map text xs))
      (reach_until last text each a n k xs p.1 (omega arith) (reach_first (until_at next last n) _ (reach_next a (Some x) p.0 _ h)))

  -- where one more may come, and where none may
  pub reach_more : {X : Type 0} {before : List ℕ} (next : Reading (Option X) F) (last : Input → Result Input F) (k : ℕ)
      → Reaches w before (until_at next last (suc k)) → Reaches w before next
  unfolding until_at
  reach_more next last k h = reach_first next _ h

  pub reach_last : {X : Type 0} {before : List ℕ} (next : Reading (Option X) F) (last : Input → Result Input F)
      → Reaches w before (until_at next last zero) → Reaches w before last
  unfolding until_at
  reach_last next last h = reach_first last _ h
