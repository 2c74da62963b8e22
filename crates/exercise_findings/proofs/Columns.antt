-- Columns: one value for each entry.
use Rattle.std.proofs.Common.{◌≡◌, ℕ, ◌+◌, ◌<◌, ◌≤◌, List, [], ◌∷◌, ◌++◌, length, map, Option, Some, None, refl, sym, ap, ◌∙◌, subst, ⊎_elim, arith}
use Rattle.std.specs.Prelude.{◌≢◌, slice_index_or, nat_eq, IfSome, OnOk, OnErr, Result, Ok, Err, if◌then◌else◌}
use Rattle.std.proofs.Math.ListN.{get_or-eq_default}
use Rattle.std.proofs.lemmas.List.{length_push, get_or_append_left, get_or_at, get_or-map, length-map}
use Rattle.std.proofs.lemmas.Bool.{cases_lt, cases_eq, eq-eqb, ne_eqb}
use Rattle.exercise_findings.specs.Number.{entry_number, entry_of}
use Rattle.exercise_findings.specs.Column.{IsColumn, IsShortColumn}

-- a column without entries
pub column_none : {X : Type 0} (d : X) (P : ℕ → X → Type 0) → IsColumn d P 0 []
column_none d P = record { count = refl; each = λ j l. absurd (omega arith) }

-- a column goes on by one value
pub column_more : {X : Type 0} (d : X) (P : ℕ → X → Type 0) (n : ℕ) (xs : List X) (x : X)
    → IsColumn d P n xs → P n x → IsColumn d P (n + 1) (xs ++ x ∷ [])
column_more d P n xs x column here = record {
  count = length_push xs x ∙ ap (λ k. k + 1) column.count;
  each = λ j l. ⊎_elim
      (λ (below : j < n). subst (P j) (sym (get_or_append_left xs (x ∷ []) d j (omega (arith, column.count)))) (column.each j below))
      (λ (at : n ≤ j). let same : n ≡ j = omega arith in
      subst (λ m. P m (slice_index_or (xs ++ x ∷ []) m d)) same (subst (P n) (sym (get_or_at xs x [] d n column.count)) here))
      (cases_lt j n);
}

-- ---- a column that may end early

pub short_none : {X : Type 0} (d : X) (P : ℕ → X → Type 0) → IsShortColumn d P 0 []
short_none d P = record { each = λ j l. absurd (omega arith); rest = λ j l. refl }

-- it goes on by one place, of which nothing is said
pub short_still : {X : Type 0} (d : X) (P : ℕ → X → Type 0) (n : ℕ) (xs : List X) → IsShortColumn d P n xs → P n d → IsShortColumn d P (n + 1) xs
short_still d P n xs column here = record {
  each = λ j l. ⊎_elim
      (λ (below : j < n). column.each j below)
      (λ (at : n ≤ j). let same : n ≡ j = omega arith in subst (λ m. P m (slice_index_or xs m d)) same (subst (P n) (sym (column.rest n (omega arith))) here))
      (cases_lt j n);
  rest = λ j l. column.rest j (omega (arith, l));
}

-- ---- one number is written

pub written_here : (d n x : ℕ) (old new : List ℕ) → ((j : ℕ) → slice_index_or new j d ≡ (if nat_eq j n then x else slice_index_or old j d)) → slice_index_or new n d ≡ x
written_here d n x old new written = written n ∙ ap (λ q. if q then x else slice_index_or old n d) (eq-eqb n n refl)

pub written_apart : (d n x : ℕ) (old new : List ℕ) → ((j : ℕ) → slice_index_or new j d ≡ (if nat_eq j n then x else slice_index_or old j d))
    → (j : ℕ) → j ≢ n → slice_index_or new j d ≡ slice_index_or old j d
written_apart d n x old new written j apart = written j ∙ ap (λ q. if q then x else slice_index_or old j d) (ne_eqb j n apart)

pub short_written : (d : ℕ) (P : ℕ → ℕ → Type 0) (n m x : ℕ) (old new : List ℕ) → n < m
    → ((j : ℕ) → slice_index_or new j d ≡ (if nat_eq j n then x else slice_index_or old j d)) → P n x → IsShortColumn d P m old → IsShortColumn d P m new
short_written d P n m x old new within written here column = record {
  each = λ j l. ⊎_elim
      (λ (same : j ≡ n). subst (λ k. P k (slice_index_or new k d)) (sym same) (subst (P n) (sym (written_here d n x old new written)) here))
      (λ apart. subst (P j) (sym (written_apart d n x old new written j apart)) (column.each j l))
      (cases_eq j n);
  rest = λ j l. written_apart d n x old new written j (λ same. absurd (omega (arith, l, within, same))) ∙ column.rest j l;
}

-- one more number
pub short_more : (d : ℕ) (P : ℕ → ℕ → Type 0) (n x : ℕ) (old new : List ℕ)
    → ((j : ℕ) → slice_index_or new j d ≡ (if nat_eq j n then x else slice_index_or old j d)) → P n x → IsShortColumn d P n old → IsShortColumn d P (n + 1) new
short_more d P n x old new written here column = record {
  each = λ j l. ⊎_elim
      (λ (same : j ≡ n). subst (λ k. P k (slice_index_or new k d)) (sym same) (subst (P n) (sym (written_here d n x old new written)) here))
      (λ apart. subst (P j) (sym (written_apart d n x old new written j apart)) (column.each j (omega (arith, l, apart))))
      (cases_eq j n);
  rest = λ j l. written_apart d n x old new written j (λ same. absurd (omega (arith, l, same))) ∙ column.rest j (omega (arith, l));
}

-- ---- what a column that may end early says at any place, where nothing is said past what it is of
pub short_told : {X : Type 0} (read : ℕ → Option X) (f : ℕ → Option X) (d n i : ℕ) (xs : List ℕ) → read d ≡ None
    → IsShortColumn d (λ j x. read x ≡ f j) n xs → ((k : ℕ) → n ≤ k → f k ≡ None) → read (slice_index_or xs i d) ≡ f i
short_told read f d n i xs nothing column none = ⊎_elim
    (λ (below : i < n). column.each i below)
    (λ (past : n ≤ i). ap read (column.rest i past) ∙ nothing ∙ sym (none i past))
    (cases_lt i n)

-- the same of what is read of the whole column
pub short_map : (read f : ℕ → Option ℕ) (d n i : ℕ) (xs : List ℕ) → read d ≡ None
    → IsShortColumn d (λ j x. read x ≡ f j) n xs → ((k : ℕ) → n ≤ k → f k ≡ None) → slice_index_or (map read xs) i None ≡ f i
short_map read f d n i xs nothing column none = ⊎_elim
    (λ (there : i < length xs). get_or-map read xs i d None there ∙ short_told read f d n i xs nothing column none)
    (λ (past : length xs ≤ i). get_or-eq_default (map read xs) None (omega (arith, past, length-map xs read))
    ∙ sym nothing ∙ ap read (sym (get_or-eq_default xs d past)) ∙ short_told read f d n i xs nothing column none)
    (cases_lt i (length xs))

-- what is not what stands behind the end is within it
pub short_within : (d i : ℕ) (xs : List ℕ) → slice_index_or xs i d ≢ d → i < length xs
short_within d i xs apart = ⊎_elim (λ (there : i < length xs). there) (λ (past : length xs ≤ i). absurd (apart (get_or-eq_default xs d past))) (cases_lt i (length xs))

-- ---- numbers of entries

-- the number of an entry, which is below the one that stands for none, gives the entry
pub number_back : (o : Option ℕ) → IfSome o (λ e. e < 4294967295) → entry_of (entry_number o) ≡ o
number_back None few = refl
number_back (Some e) few = ap (λ b. if b then None else Some e) (ne_eqb e 4294967295 (λ same. absurd (omega (arith, few, same))))

pub on_ok : {A E : Type 0} {P Q : Type 0} (result : Result A E) → (P → Q) → OnOk result P → OnOk result Q
on_ok (Ok a) f p = f p
on_ok (Err e) f p = tt

pub on_err : {A E : Type 0} {P : Type 0} (result : Result A E) → P → OnErr result P
on_err (Ok a) p = tt
on_err (Err e) p = p

pub ruleset column_steps = (column_none, column_more)
