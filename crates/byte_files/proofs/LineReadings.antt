-- How a line is read, byte by byte.
use Rattle.std.proofs.Common.{◌≡◌, ◌≢◌, ℕ, ◌+◌, ◌<◌, ◌≤◌, ◌==◌, min, List, [], ◌∷◌, ◌++◌, length, take, set, get_or, if◌then◌else◌, Option, Some, None, refl, sym, ap, ◌∙◌, arith, append-nil, length-append, length-set, length-take-le, take_all}
use Rattle.std.specs.List.{onto_first}
use Rattle.std.specs.Io.KnownBytes.{Consumes, IsAtEnd}
use Rattle.std.proofs.KnownBytes.{Consumes-trans}
use Rattle.std.proofs.lemmas.Bool.Decides.{nat_tests}
use Rattle.std.proofs.lemmas.List.{length-take, take_more_set, take-append-le}
use Rattle.byte_files.specs.Text.{lines_of}
use Rattle.byte_files.specs.Lines.{IsOneLine, ReadsLine, HoldsLine}

no_end-more : (bs : List ℕ) (b : ℕ) → IsOneLine bs → b ≢ 10 → IsOneLine (bs ++ b ∷ [])
no_end-more [] b none other = (other, tt)
no_end-more (x ∷ bs) b none other = (none.0, no_end-more bs b none.1 other)

other_byte : {X : Type 0} (b : ℕ) (x y : X) → b ≢ 10 → (if b == 10 then x else y) ≡ y
other_byte b x y other = grind (arith, nat_tests)

pub line_cut : (bs rest : List ℕ) → IsOneLine bs → lines_of (bs ++ 10 ∷ rest) ≡ bs ∷ lines_of rest
line_cut [] rest none = refl
line_cut (b ∷ bs) rest none =
    other_byte b ([] ∷ lines_of (bs ++ 10 ∷ rest)) (onto_first b (lines_of (bs ++ 10 ∷ rest))) none.0 ∙ ap (onto_first b) (line_cut bs rest none.1)

line_whole : (b : ℕ) (bs : List ℕ) → IsOneLine (b ∷ bs) → lines_of (b ∷ bs) ≡ (b ∷ bs) ∷ []
line_whole b [] none = other_byte b ([] ∷ []) (onto_first b []) none.0
line_whole b (c ∷ bs) none =
    other_byte b ([] ∷ lines_of (c ∷ bs)) (onto_first b (lines_of (c ∷ bs))) none.0 ∙ ap (onto_first b) (line_whole c bs none.1)

-- THE LINE SO FAR: it has no line feed, and the buffer has it, or as much of it as it holds
pub record SoFar (old now : Option (List ℕ)) (buffer : List ℕ) (held : ℕ) : Type 0 where
  pub line : List ℕ
  pub none : IsOneLine line
  pub taken : Consumes old now line
  pub within : held ≤ length buffer
  pub front : take held buffer ≡ take (length buffer) line

-- how much is held
held_is : (held : ℕ) (buffer line : List ℕ) → held ≤ length buffer → take held buffer ≡ take (length buffer) line → held ≡ min (length buffer) (length line)
held_is held buffer line within front = sym (length-take-le held buffer within) ∙ ap length front ∙ length-take (length buffer) line

-- one more byte, that is held
pub so_far-held : {a b c : Option (List ℕ)} {buffer : List ℕ} {held byte : ℕ} → SoFar a b buffer held → Consumes b c (byte ∷ []) → byte ≢ 10
    → held < length buffer → SoFar a c (set buffer held byte) (held + 1)
so_far-held {a} {b} {c} {buffer} {held} {byte} before next other room =
    let line = before.line in
    let size = held_is held buffer line before.within before.front in
    let same : length (set buffer held byte) ≡ length buffer = length-set buffer held byte in
    let longer = length-append line (byte ∷ []) in
    let whole : take held buffer ≡ line = before.front ∙ take_all (length buffer) line (omega arith) in
    record {
      line = line ++ byte ∷ [];
      none = no_end-more line byte before.none other;
      taken = Consumes-trans a b c line (byte ∷ []) before.taken next;
      within = omega arith;
      front = take_more_set buffer held byte room ∙ ap (λ l. l ++ byte ∷ []) whole ∙ sym (take_all (length (set buffer held byte)) (line ++ byte ∷ []) (omega arith));
    }

-- one more byte, for which there is no room
pub so_far-past : {a b c : Option (List ℕ)} {buffer : List ℕ} {held byte : ℕ} → SoFar a b buffer held → Consumes b c (byte ∷ []) → byte ≢ 10
    → length buffer ≤ held → SoFar a c buffer held
so_far-past {a} {b} {c} {buffer} {held} {byte} before next other full =
    let line = before.line in
    let size = held_is held buffer line before.within before.front in
    record {
      line = line ++ byte ∷ [];
      none = no_end-more line byte before.none other;
      taken = Consumes-trans a b c line (byte ∷ []) before.taken next;
      within = before.within;
      front = before.front ∙ sym (take-append-le (length buffer) line (byte ∷ []) (omega arith));
    }

reads-cut : (a b c : Option (List ℕ)) (line : List ℕ) → IsOneLine line → Consumes a b line → Consumes b c (10 ∷ []) → ReadsLine a c line
reads-cut None b c line none taken next = tt
reads-cut (Some x) None c line none taken next = absurd taken
reads-cut (Some x) (Some y) None line none taken next = absurd next
reads-cut (Some x) (Some y) (Some z) line none taken next = ap lines_of (taken ∙ ap (λ l. line ++ l) next) ∙ line_cut line z none

reads-last : (a b : Option (List ℕ)) (line : List ℕ) → IsOneLine line → 0 < length line → Consumes a b line → IsAtEnd b → ReadsLine a b line
reads-last None b line none some taken end = tt
reads-last (Some x) None line none some taken end = absurd taken
reads-last (Some x) (Some y) [] none some taken end = absurd (omega arith)
reads-last (Some x) (Some y) (b ∷ bs) none some taken end =
    ap lines_of (taken ∙ ap (λ l. (b ∷ bs) ++ l) end ∙ append-nil (b ∷ bs)) ∙ line_whole b bs none ∙ ap (λ l. (b ∷ bs) ∷ lines_of l) (sym end)

-- a line feed ends it
pub line-ended : {a b c : Option (List ℕ)} {buffer : List ℕ} {held : ℕ} → SoFar a b buffer held → Consumes b c (10 ∷ []) → HoldsLine a c buffer held
line-ended {a} {b} {c} before next = record {
  line = before.line;
  one = before.none;
  read = reads-cut a b c before.line before.none before.taken next;
  within = before.within;
  front = before.front;
}

-- the end of the input ends it
pub line-last : {a b : Option (List ℕ)} {buffer : List ℕ} {held : ℕ} → SoFar a b buffer held → IsAtEnd b → 0 < held → HoldsLine a b buffer held
line-last {a} {b} {buffer} {held} before end some =
    let size = held_is held buffer before.line before.within before.front in
    record {
      line = before.line;
      one = before.none;
      read = reads-last a b before.line before.none (omega arith) before.taken end;
      within = before.within;
      front = before.front;
    }

nothing : (line : List ℕ) → length line ≡ 0 → line ≡ []
nothing [] e = refl
nothing (b ∷ bs) e = absurd (omega arith)

at_end-back : (a b : Option (List ℕ)) (line : List ℕ) → line ≡ [] → Consumes a b line → IsAtEnd b → IsAtEnd a
at_end-back None b line none taken end = tt
at_end-back (Some x) None line none taken end = absurd taken
at_end-back (Some x) (Some y) line none taken end = taken ∙ ap (λ l. l ++ y) none ∙ end

-- there is none
pub no-line : {a b : Option (List ℕ)} {buffer : List ℕ} {held : ℕ} → held ≡ 0 → 0 < length buffer → SoFar a b buffer held → IsAtEnd b → IsAtEnd a
no-line {a} {b} {buffer} {held} none room before end =
    let size = held_is held buffer before.line before.within before.front in
    at_end-back a b before.line (nothing before.line (omega arith)) before.taken end

-- nothing more was read
pub so_far-same : {a b : Option (List ℕ)} {buffer : List ℕ} {held : ℕ} (c : Option (List ℕ)) (buf : List ℕ) (n : ℕ) → n ≡ 0 → SoFar a b buffer held
    → Consumes b c (take n buf) → SoFar a c buffer held
so_far-same {a} {b} c buf n none before next = record {
  line = before.line;
  none = before.none;
  taken = rw (none, append-nil) at (Consumes-trans a b c before.line (take n buf) before.taken next);
  within = before.within;
  front = before.front;
}

-- one byte was read
pub one_byte : (b c : Option (List ℕ)) (buf : List ℕ) (n : ℕ) → length buf ≡ 1 → n ≤ length buf → 0 < n → Consumes b c (take n buf)
    → Consumes b c (get_or buf 0 0 ∷ [])
one_byte b c [] n size within some next = absurd (omega arith)
one_byte b c (x ∷ []) n size within some next = let one : n ≡ 1 = omega arith in rw one at next
one_byte b c (x ∷ y ∷ ys) n size within some next = absurd (omega arith)
