-- The news of the replies of a station, found by these replies.
use Rattle.std.proofs.Common.{◌≡◌, ◌⊎◌, inl, inr, ⊎_elim, ℕ, zero, suc, ◌<◌, ◌≤◌, List, length, Bool, true, false, Option, Some, None, refl, sym, ap, ◌∙◌, subst, arith}
use Rattle.std.specs.Prelude.{is_some, ◌&&◌, bytes_eq, nat_le, option_and_then, IfSome, if◌then◌else◌}
use Rattle.std.specs.Option.{option_map_or}
use Rattle.std.specs.Cmp.Lexicographic.{bytes_decides}
use Rattle.std.proofs.lemmas.Bool.{cases_lt, and_parts, and_from, leb-true, leb-false}
use Rattle.std.proofs.lemmas.Option.{same_Some}
use Rattle.siman_pdus.specs.declared.pdu.Pdu.{Pdu}
use Rattle.siman_pdus.specs.Answers.{is_answer_to}
use Rattle.exercise_model.specs.Recording.{PlainRecording}
use Rattle.exercise_model.specs.Place.{first_below}
use Rattle.exercise_model.proofs.Offered.{first_found, first_is}
use Rattle.exercise_review.specs.Counted.{last_below}
use Rattle.exercise_review.specs.Entries.{bytes_sent, bytes_received, pdu_sent}
use Rattle.exercise_review.specs.declared.reply.Reply.{Reply}
use Rattle.exercise_review.specs.StationTrace.{first_news, last_news, word_in}
use Rattle.exercise_review.specs.Heard.{gets_in}
use Rattle.exercise_review.specs.News.{hears_at, first_heard, last_heard, earlier, later}
use Rattle.exercise_review.specs.Order.{OrderData}
use Rattle.exercise_review.specs.Reply.{answers_order, is_reply, replies_in, has_reply_in, is_news}
use Rattle.exercise_review.specs.Word.{word_of, word_at, settles, settles_at, is_settling, first_settling}
use Rattle.exercise_review.proofs.Heard.{meant_got, meant_sent}
use Rattle.exercise_review.proofs.Runs.{none_passes, some_passes, there, pdu_in_log}
use Rattle.exercise_review.proofs.Walks.{past, last_found}

off : (b : Bool) → (b ≡ true → ⊥) → b ≡ false
off true never = absurd (never refl)
off false never = refl

-- ---- the last that passes

pub last_is : (f : ℕ → Bool) (n i : ℕ) → i < n → f i ≡ true → ((k : ℕ) → i < k → k < n → f k ≡ false) → last_below f n ≡ Some i
unfolding last_below
last_is f zero i within passes none = absurd (omega (arith, within))
last_is f (suc n) i within passes none =
    ⊎_elim
    (λ (less : i < n). ap (λ b. if b then Some n else last_below f n) (none n less (omega arith)) ∙ last_is f n i less passes (λ k above below. none k above (omega (arith, below))))
    (λ (at : n ≤ i). let same : n ≡ i = omega (arith, at, within) in
    ap (λ b. if b then Some n else last_below f n) (ap f same ∙ passes) ∙ ap Some same)
    (cases_lt i n)

none_last_below : (f : ℕ → Bool) (n : ℕ) → ((k : ℕ) → k < n → f k ≡ false) → last_below f n ≡ None
unfolding last_below
none_last_below f zero none = refl
none_last_below f (suc n) none = ap (λ b. if b then Some n else last_below f n) (none n (omega arith)) ∙ none_last_below f n (λ k below. none k (omega (arith, below)))

none_first_below : (f : ℕ → Bool) (n : ℕ) → ((k : ℕ) → k < n → f k ≡ false) → first_below f n ≡ None
none_first_below f n none =
    elim (first_below f n) as (λ o. first_below f n ≡ o → o ≡ None) [
      | None ↦ λ _. refl
      | Some i ↦ λ found. let first = first_found f n i found in absurd (let no : true ≡ false = sym first.passes ∙ none i first.below in cc)
    ] refl

-- none has the key between the last that has it and the end
none_behind : (h : ℕ → Bool) (m j : ℕ) → past (last_below h m) ≤ j → j < m → h j ≡ true → ⊥
unfolding last_below
none_behind h zero j after below has = absurd (omega (arith, below))
none_behind h (suc m) j after below has =
    elim (h m) as (λ b. h m ≡ b → past (if b then Some m else last_below h m) ≤ j → ⊥) [
      | true ↦ λ _ behind. absurd (omega (arith, behind, below))
      | false ↦ λ here behind. ⊎_elim
          (λ (less : j < m). none_behind h m j behind less has)
          (λ (at : m ≤ j). let same : m ≡ j = omega (arith, at, below) in let no : true ≡ false = sym has ∙ ap h (sym same) ∙ here in absurd (cc))
          (cases_lt j m)
    ] refl after

-- ---- the least of the first, over the numbers that count

-- there is one, no later than i
abbrev pub IsBy : Option ℕ → ℕ → Type 0
IsBy best i = (x : ℕ) × (best ≡ Some x) × (x ≤ i)

-- there is one, no earlier than i
abbrev pub IsFrom : Option ℕ → ℕ → Type 0
IsFrom best i = (x : ℕ) × (best ≡ Some x) × (i ≤ x)

-- a number that counts hears at i
abbrev pub IsHeard : (ℕ → Bool) → (ℕ → ℕ → Bool) → ℕ → ℕ → Type 0
IsHeard p g n i = (i < n) × ((j : ℕ) × ((j < n) × ((p j ≡ true) × (g j i ≡ true))))

-- of what the numbers from k on hear, this is the first
pub record IsLeast (p : ℕ → Bool) (g : ℕ → ℕ → Bool) (n k : ℕ) (best : Option ℕ) : Type 0 where
  pub sound : (i : ℕ) → best ≡ Some i → IsHeard p g n i
  pub least : (j i : ℕ) → k ≤ j → j < n → p j ≡ true → g j i ≡ true → i < n → IsBy best i

pub record IsGreatest (p : ℕ → Bool) (g : ℕ → ℕ → Bool) (n k : ℕ) (best : Option ℕ) : Type 0 where
  pub sound : (i : ℕ) → best ≡ Some i → IsHeard p g n i
  pub greatest : (j i : ℕ) → k ≤ j → j < n → p j ≡ true → g j i ≡ true → i < n → IsFrom best i

pub least_starts : (p h : ℕ → Bool) (g : ℕ → ℕ → Bool) (n : ℕ) (next : Option ℕ) → ((j : ℕ) → p j ≡ true → h j ≡ true) → next ≡ last_below h n
    → IsLeast p g n (past next) None
least_starts p h g n next under is = record {
  sound = λ i e. absurd (cc);
  least = λ j i from within counts hears below. absurd (none_behind h n j (subst (λ o. past o ≤ j) is from) within (under j counts));
}

pub greatest_starts : (p h : ℕ → Bool) (g : ℕ → ℕ → Bool) (n : ℕ) (next : Option ℕ) → ((j : ℕ) → p j ≡ true → h j ≡ true) → next ≡ last_below h n
    → IsGreatest p g n (past next) None
greatest_starts p h g n next under is = record {
  sound = λ i e. absurd (cc);
  greatest = λ j i from within counts hears below. absurd (none_behind h n j (subst (λ o. past o ≤ j) is from) within (under j counts));
}

-- the earlier of two is one of them, and no later than either
earlier_one : (P : ℕ → Type 0) (o q : Option ℕ) → ((i : ℕ) → o ≡ Some i → P i) → ((i : ℕ) → q ≡ Some i → P i) → (i : ℕ) → earlier o q ≡ Some i → P i
earlier_one P None q a b i e = b i e
earlier_one P (Some x) None a b i e = a i e
earlier_one P (Some x) (Some y) a b i e =
    elim (nat_le x y) as (λ t. (if t then Some x else Some y) ≡ Some i → P i) [ true ↦ λ h. a i h | false ↦ λ h. b i h ] e

later_one : (P : ℕ → Type 0) (o q : Option ℕ) → ((i : ℕ) → o ≡ Some i → P i) → ((i : ℕ) → q ≡ Some i → P i) → (i : ℕ) → later o q ≡ Some i → P i
later_one P None q a b i e = b i e
later_one P (Some x) None a b i e = a i e
later_one P (Some x) (Some y) a b i e =
    elim (nat_le x y) as (λ t. (if t then Some y else Some x) ≡ Some i → P i) [ true ↦ λ h. b i h | false ↦ λ h. a i h ] e

earlier_by : (x y i : ℕ) → (x ≤ i) ⊎ (y ≤ i) → IsBy (earlier (Some x) (Some y)) i
earlier_by x y i either =
    elim (nat_le x y) as (λ t. nat_le x y ≡ t → IsBy (if t then Some x else Some y) i) [
      | true ↦ λ le. (x, refl, ⊎_elim (λ (a : x ≤ i). a) (λ (b : y ≤ i). let before = leb-true x y le in omega (arith, before, b)) either)
      | false ↦ λ gt. (y, refl, ⊎_elim (λ (a : x ≤ i). let before = leb-false x y gt in omega (arith, before, a)) (λ (b : y ≤ i). b) either)
    ] refl

later_from : (x y i : ℕ) → (i ≤ x) ⊎ (i ≤ y) → IsFrom (later (Some x) (Some y)) i
later_from x y i either =
    elim (nat_le x y) as (λ t. nat_le x y ≡ t → IsFrom (if t then Some y else Some x) i) [
      | true ↦ λ le. (y, refl, ⊎_elim (λ (a : i ≤ x). let before = leb-true x y le in omega (arith, before, a)) (λ (b : i ≤ y). b) either)
      | false ↦ λ gt. (x, refl, ⊎_elim (λ (a : i ≤ x). a) (λ (b : i ≤ y). let before = leb-false x y gt in omega (arith, before, b)) either)
    ] refl

left_by : (o q : Option ℕ) (i : ℕ) → IsBy o i → IsBy (earlier o q) i
left_by None q i by = let e = by.1 in absurd (cc)
left_by (Some x) None i by = by
left_by (Some x) (Some y) i by = earlier_by x y i (inl (let same = same_Some x by.0 by.1 in omega (arith, same, by.2)))

right_by : (o q : Option ℕ) (i : ℕ) → IsBy q i → IsBy (earlier o q) i
right_by None q i by = by
right_by (Some x) None i by = let e = by.1 in absurd (cc)
right_by (Some x) (Some y) i by = earlier_by x y i (inr (let same = same_Some y by.0 by.1 in omega (arith, same, by.2)))

left_from : (o q : Option ℕ) (i : ℕ) → IsFrom o i → IsFrom (later o q) i
left_from None q i from = let e = from.1 in absurd (cc)
left_from (Some x) None i from = from
left_from (Some x) (Some y) i from = later_from x y i (inl (let same = same_Some x from.0 from.1 in omega (arith, same, from.2)))

right_from : (o q : Option ℕ) (i : ℕ) → IsFrom q i → IsFrom (later o q) i
right_from None q i from = from
right_from (Some x) None i from = let e = from.1 in absurd (cc)
right_from (Some x) (Some y) i from = later_from x y i (inr (let same = same_Some y from.0 from.1 in omega (arith, same, from.2)))

-- the first is no later than any, the last no earlier
first_by : (f : ℕ → Bool) (n i : ℕ) → f i ≡ true → i < n → IsBy (first_below f n) i
first_by f n i passes within =
    elim (first_below f n) as (λ o. first_below f n ≡ o → IsBy o i) [
      | None ↦ λ none. absurd (none_passes f n i (ap is_some none) within passes)
      | Some x ↦ λ found. (
        x,
        refl,
        ⊎_elim
            (λ (less : i < x). absurd (none_passes f x i (ap is_some (first_found f n x found).none) less passes))
            (λ (at : x ≤ i). at) (cases_lt i x),
      )
    ] refl

last_from : (f : ℕ → Bool) (n i : ℕ) → f i ≡ true → i < n → IsFrom (last_below f n) i
unfolding last_below
last_from f zero i passes within = absurd (omega (arith, within))
last_from f (suc n) i passes within =
    elim (f n) as (λ b. f n ≡ b → IsFrom (if b then Some n else last_below f n) i) [
      | true ↦ λ _. (n, refl, omega (arith, within))
      | false ↦ λ here. ⊎_elim
          (λ (less : i < n). last_from f n i passes less)
          (λ (at : n ≤ i). let same : n ≡ i = omega (arith, at, within) in absurd (let no : true ≡ false = sym passes ∙ ap f (sym same) ∙ here in cc))
          (cases_lt i n)
    ] refl

-- where j is, or between it and the next there is none
where_is : {X : Type 0} (h : ℕ → Bool) (j m : ℕ) (next : Option ℕ) → next ≡ last_below h j → past next ≤ m → (h m ≡ true)
    → (suc j ≤ m → X) → (m ≡ j → X) → X
where_is h j m next is from has above at =
    ⊎_elim
    (λ (less : m < j). absurd (none_behind h j m (subst (λ o. past o ≤ m) is from) less has))
    (λ (not_less : j ≤ m). ⊎_elim (λ (more : j < m). above (omega (arith, more))) (λ (le : m ≤ j). at (omega (arith, le, not_less))) (cases_lt j m))
    (cases_lt m j)

pub least_passes : (p h : ℕ → Bool) (g : ℕ → ℕ → Bool) (n j : ℕ) (next best first : Option ℕ) → ((m : ℕ) → p m ≡ true → h m ≡ true) → next ≡ last_below h j
    → j < n → p j ≡ true → first ≡ first_below (g j) n → IsLeast p g n (suc j) best → IsLeast p g n (past next) (earlier best first)
least_passes p h g n j next best first under is within counts first_is so_far = record {
  sound = earlier_one (IsHeard p g n) best first so_far.sound (λ i e.
      let found = first_found (g j) n i (sym first_is ∙ e) in
      (found.below, (j, (within, (counts, found.passes)))));
  least = λ m i from below passes hears inside.
      where_is h j m next is from (under m passes)
      (λ above. left_by best first i (so_far.least m i above below passes hears inside))
      (λ same. right_by best first i (subst (λ o. IsBy o i) (sym first_is) (first_by (g j) n i (ap (λ x. g x i) (sym same) ∙ hears) inside)));
}

pub least_fails : (p h : ℕ → Bool) (g : ℕ → ℕ → Bool) (n j : ℕ) (next best : Option ℕ) → ((m : ℕ) → p m ≡ true → h m ≡ true) → next ≡ last_below h j
    → p j ≡ false → IsLeast p g n (suc j) best → IsLeast p g n (past next) best
least_fails p h g n j next best under is fails so_far = record {
  sound = so_far.sound;
  least = λ m i from below passes hears inside.
      where_is h j m next is from (under m passes)
      (λ above. so_far.least m i above below passes hears inside)
      (λ same. absurd (let no : true ≡ false = sym passes ∙ ap p same ∙ fails in cc));
}

pub greatest_passes : (p h : ℕ → Bool) (g : ℕ → ℕ → Bool) (n j : ℕ) (next best last : Option ℕ) → ((m : ℕ) → p m ≡ true → h m ≡ true) → next ≡ last_below h j
    → j < n → p j ≡ true → last ≡ last_below (g j) n → IsGreatest p g n (suc j) best → IsGreatest p g n (past next) (later best last)
greatest_passes p h g n j next best last under is within counts last_is so_far = record {
  sound = later_one (IsHeard p g n) best last so_far.sound (λ i e.
      let found = last_found (g j) n i (sym last_is ∙ e) in
      (found.0, (j, (within, (counts, found.1)))));
  greatest = λ m i from below passes hears inside.
      where_is h j m next is from (under m passes)
      (λ above. left_from best last i (so_far.greatest m i above below passes hears inside))
      (λ same. right_from best last i (subst (λ o. IsFrom o i) (sym last_is) (last_from (g j) n i (ap (λ x. g x i) (sym same) ∙ hears) inside)));
}

pub greatest_fails : (p h : ℕ → Bool) (g : ℕ → ℕ → Bool) (n j : ℕ) (next best : Option ℕ) → ((m : ℕ) → p m ≡ true → h m ≡ true) → next ≡ last_below h j
    → p j ≡ false → IsGreatest p g n (suc j) best → IsGreatest p g n (past next) best
greatest_fails p h g n j next best under is fails so_far = record {
  sound = so_far.sound;
  greatest = λ m i from below passes hears inside.
      where_is h j m next is from (under m passes)
      (λ above. so_far.greatest m i above below passes hears inside)
      (λ same. absurd (let no : true ≡ false = sym passes ∙ ap p same ∙ fails in cc));
}

-- where the next number is gathered too, whether it counts or not
pub least_on : (p h : ℕ → Bool) (g : ℕ → ℕ → Bool) (n j : ℕ) (next best first : Option ℕ) → ((m : ℕ) → p m ≡ true → h m ≡ true) → next ≡ last_below h j
    → j < n → (p j ≡ true → first ≡ first_below (g j) n) → IsLeast p g n (suc j) best → IsLeast p g n (past next) (if p j then earlier best first else best)
least_on p h g n j next best first under is within first_is so_far =
    elim (p j) as (λ b. p j ≡ b → IsLeast p g n (past next) (if b then earlier best first else best)) [
      | true ↦ λ counts. least_passes p h g n j next best first under is within counts (first_is counts) so_far
      | false ↦ λ fails. least_fails p h g n j next best under is fails so_far
    ] refl

pub greatest_on : (p h : ℕ → Bool) (g : ℕ → ℕ → Bool) (n j : ℕ) (next best last : Option ℕ) → ((m : ℕ) → p m ≡ true → h m ≡ true) → next ≡ last_below h j
    → j < n → (p j ≡ true → last ≡ last_below (g j) n) → (p j ≡ false → last ≡ None) → IsGreatest p g n (suc j) best → IsGreatest p g n (past next) (later best last)
greatest_on p h g n j next best last under is within last_is none so_far =
    elim (p j) as (λ b. p j ≡ b → IsGreatest p g n (past next) (later best last)) [
      | true ↦ λ counts. greatest_passes p h g n j next best last under is within counts (last_is counts) so_far
      | false ↦ λ fails. subst (IsGreatest p g n (past next)) (sym (ap (later best) (none fails) ∙ nothing best)) (greatest_fails p h g n j next best under is fails so_far)
    ] refl
  where
    nothing : (o : Option ℕ) → later o None ≡ o
    nothing None = refl
    nothing (Some x) = refl

-- what passes a test is what some number that counts hears
abbrev pub Hears : (ℕ → Bool) → (ℕ → ℕ → Bool) → ℕ → (ℕ → Bool) → Type 0
Hears p g n test = ((i : ℕ) → i < n → test i ≡ true → IsHeard p g n i) × ((i : ℕ) → IsHeard p g n i → test i ≡ true)

pub least_ends : (p : ℕ → Bool) (g : ℕ → ℕ → Bool) (n : ℕ) (best : Option ℕ) (test : ℕ → Bool) → Hears p g n test
    → IsLeast p g n 0 best → best ≡ first_below test n
least_ends p g n best test hears is =
    elim best as (λ o. best ≡ o → o ≡ first_below test n) [
      | None ↦ λ none. sym (none_first_below test n (λ i within. off (test i) (λ passes.
          let heard = hears.0 i within passes in
          let by = is.least heard.1.0 i (omega arith) heard.1.1.0 heard.1.1.1.0 heard.1.1.1.1 within in
          let no : Some by.0 ≡ None = sym by.1 ∙ none in absurd (cc))))
      | Some x ↦ λ some.
          let sound = is.sound x some in
          sym (first_is test n x sound.0 (hears.1 x sound) (λ i below. off (test i) (λ passes.
          let within : i < n = omega (arith, below, sound.0) in
          let heard = hears.0 i within passes in
          let by = is.least heard.1.0 i (omega arith) heard.1.1.0 heard.1.1.1.0 heard.1.1.1.1 within in
          let same : x ≡ by.0 = same_Some x by.0 (sym some ∙ by.1) in
          absurd (omega (arith, same, by.2, below)))))
    ] refl

pub greatest_ends : (p : ℕ → Bool) (g : ℕ → ℕ → Bool) (n : ℕ) (best : Option ℕ) (test : ℕ → Bool) → Hears p g n test
    → IsGreatest p g n 0 best → best ≡ last_below test n
greatest_ends p g n best test hears is =
    elim best as (λ o. best ≡ o → o ≡ last_below test n) [
      | None ↦ λ none. sym (none_last_below test n (λ i within. off (test i) (λ passes.
          let heard = hears.0 i within passes in
          let from = is.greatest heard.1.0 i (omega arith) heard.1.1.0 heard.1.1.1.0 heard.1.1.1.1 within in
          let no : Some from.0 ≡ None = sym from.1 ∙ none in absurd (cc))))
      | Some x ↦ λ some.
          let sound = is.sound x some in
          sym (last_is test n x sound.0 (hears.1 x sound) (λ i above within. off (test i) (λ passes.
          let heard = hears.0 i within passes in
          let from = is.greatest heard.1.0 i (omega arith) heard.1.1.0 heard.1.1.1.0 heard.1.1.1.1 within in
          let same : x ≡ from.0 = same_Some x from.0 (sym some ∙ from.1) in
          absurd (omega (arith, same, from.2, above)))))
    ] refl

-- ---- the news of the replies

-- what is heard has the same bytes
same_bytes : (r : PlainRecording) (s t j i : ℕ) → hears_at r s t j i ≡ true → (b : List ℕ) × ((bytes_sent r t j ≡ Some b) × (bytes_received r s i ≡ Some b))
unfolding gets_in
same_bytes r s t j i h =
    let sent = there (λ b. gets_in r s b i) (bytes_sent r t j) h in
    let got = there (bytes_eq sent.0) (bytes_received r s i) sent.2 in
    (sent.0, (sent.1, got.1 ∙ ap Some (sym ((bytes_decides sent.0 got.0).0 got.2))))

bytes_same : (r : PlainRecording) (s t j i : ℕ) (b : List ℕ) → bytes_sent r t j ≡ Some b → bytes_received r s i ≡ Some b → hears_at r s t j i ≡ true
unfolding gets_in
bytes_same r s t j i b sent got =
    ap (λ o. option_map_or (λ c. gets_in r s c i) o false) sent ∙ ap (λ o. option_map_or (bytes_eq b) o false) got ∙ (bytes_decides b b).1 refl

settles_alike : (r : PlainRecording) (s t j i : ℕ) (b : List ℕ) → bytes_sent r t j ≡ Some b → bytes_received r s i ≡ Some b → settles_at r j ≡ settles_at r i
unfolding settles_at
settles_alike r s t j i b sent got = ap (λ o. option_map_or (λ p. settles p.body) o false) (meant_sent r t j b sent ∙ sym (meant_got r s i b got))

-- a reply whose bytes are heard is news
reply_is_news : (r : PlainRecording) (o : OrderData) (s t j i : ℕ) (b : List ℕ) → o.maker ≡ Some s → is_reply r o t j ≡ true → j < length r.entries
    → bytes_sent r t j ≡ Some b → bytes_received r s i ≡ Some b → is_news r o t i ≡ true
unfolding is_news has_reply_in replies_in
reply_is_news r o s t j i b maker replies within sent got =
    let here : replies_in r o t b j ≡ true = and_from _ _ replies (ap (λ c. option_map_or (bytes_eq b) c false) sent ∙ (bytes_decides b b).1 refl) in
    let some = first_by (replies_in r o t b) (length r.entries) j here within in
    ap (λ (m : Option ℕ). option_map_or (has_reply_in r o t) (option_and_then (λ x. bytes_received r x i) m) false) maker
    ∙ ap (λ c. option_map_or (has_reply_in r o t) c false) got
    ∙ ap is_some some.1

-- and news has the bytes of a reply
news_is_reply : (r : PlainRecording) (o : OrderData) (s t i : ℕ) → o.maker ≡ Some s → is_news r o t i ≡ true
    → (j : ℕ) × ((j < length r.entries) × ((is_reply r o t j ≡ true) × ((b : List ℕ) × ((bytes_sent r t j ≡ Some b) × (bytes_received r s i ≡ Some b)))))
unfolding is_news has_reply_in replies_in
news_is_reply r o s t i maker news =
    let got = there (has_reply_in r o t) (bytes_received r s i)
    (sym (ap (λ (m : Option ℕ). option_map_or (has_reply_in r o t) (option_and_then (λ x. bytes_received r x i) m) false) maker) ∙ news) in
    let j = some_passes (replies_in r o t got.0) (length r.entries) got.2 in
    let parts = and_parts (is_reply r o t j.0) _ j.2 in
    let sent = there (bytes_eq got.0) (bytes_sent r t j.0) parts.1 in (
      j.0,
      (
        (first_found (replies_in r o t got.0) (length r.entries) j.0 j.1).below,
        (
          parts.0,
          (got.0, (sent.1 ∙ ap Some (sym ((bytes_decides got.0 sent.0).0 sent.2)), got.1)),
        ),
      ),
    )

pub settled_heard : (r : PlainRecording) (o : OrderData) (s t : ℕ) → o.maker ≡ Some s
    → Hears (is_settling r (is_reply r o t)) (hears_at r s t) (length r.entries) (is_settling r (is_news r o t))
settled_heard r o s t maker = (
  λ i within passes.
      let parts = and_parts (is_news r o t i) _ passes in
      let j = news_is_reply r o s t i maker parts.0 in
      let b = j.1.1.1 in
      (within, (j.0, (j.1.0, (and_from _ _ j.1.1.0 (settles_alike r s t j.0 i b.0 b.1.0 b.1.1 ∙ parts.1), bytes_same r s t j.0 i b.0 b.1.0 b.1.1)))),
  λ i heard.
      let j = heard.1 in
      let parts = and_parts (is_reply r o t j.0) _ j.1.1.0 in
      let b = same_bytes r s t j.0 i j.1.1.1 in
      and_from _ _ (reply_is_news r o s t j.0 i b.0 maker parts.0 j.1.0 b.1.0 b.1.1) (sym (settles_alike r s t j.0 i b.0 b.1.0 b.1.1) ∙ parts.1),
)

pub are_all_received : (r : PlainRecording) (o : OrderData) (s t : ℕ) → o.maker ≡ Some s
    → Hears (is_reply r o t) (hears_at r s t) (length r.entries) (is_news r o t)
are_all_received r o s t maker = (
  λ i within passes.
      let j = news_is_reply r o s t i maker passes in
      let b = j.1.1.1 in
      (within, (j.0, (j.1.0, (j.1.1.0, bytes_same r s t j.0 i b.0 b.1.0 b.1.1)))),
  λ i heard.
      let j = heard.1 in
      let b = same_bytes r s t j.0 i j.1.1.1 in
      reply_is_news r o s t j.0 i b.0 maker j.1.1.0 j.1.0 b.1.0 b.1.1,
)

-- where a reply was heard
reply_bytes : (r : PlainRecording) (o : OrderData) (t j : ℕ) → is_reply r o t j ≡ true → (b : List ℕ) × (bytes_sent r t j ≡ Some b)
unfolding is_reply pdu_sent
reply_bytes r o t j h =
    let q = there (λ (x : Pdu). is_answer_to x o.request) (pdu_sent r t j) (and_parts (answers_order r o t j) _ h).0 in
    let b = pdu_in_log r (bytes_sent r t j) q.0 q.1 in
    (b.0, b.1)

pub first_is_heard : (r : PlainRecording) (o : OrderData) (s t j : ℕ) → is_reply r o t j ≡ true
    → first_heard r s t j ≡ first_below (hears_at r s t j) (length r.entries)
first_is_heard r o s t j replies =
    let b = reply_bytes r o t j replies in
    ap (option_and_then (λ c. first_below (gets_in r s c) (length r.entries))) b.1
    ∙ sym (ap (λ (x : Option (List ℕ)). first_below (λ i. option_map_or (λ c. gets_in r s c i) x false) (length r.entries)) b.1)

pub last_is_heard : (r : PlainRecording) (o : OrderData) (s t j : ℕ) → is_reply r o t j ≡ true
    → last_heard r s t j ≡ last_below (hears_at r s t j) (length r.entries)
last_is_heard r o s t j replies =
    let b = reply_bytes r o t j replies in
    ap (option_and_then (λ c. last_below (gets_in r s c) (length r.entries))) b.1
    ∙ sym (ap (λ (x : Option (List ℕ)). last_below (λ i. option_map_or (λ c. gets_in r s c i) x false) (length r.entries)) b.1)

-- ---- nobody to hear them

no_news : (r : PlainRecording) (o : OrderData) (t i : ℕ) → o.maker ≡ None → is_news r o t i ≡ false
unfolding is_news
no_news r o t i none = ap (λ (m : Option ℕ). option_map_or (has_reply_in r o t) (option_and_then (λ s. bytes_received r s i) m) false) none

pub none_settled : (r : PlainRecording) (o : OrderData) (t : ℕ) → o.maker ≡ None → None ≡ first_settling r (is_news r o t)
unfolding first_settling
none_settled r o t none =
    sym (none_first_below (is_settling r (is_news r o t)) (length r.entries) (λ i _. ap (λ b. b && settles_at r i) (no_news r o t i none)))

pub none_last : (r : PlainRecording) (o : OrderData) (t : ℕ) → o.maker ≡ None → None ≡ last_below (is_news r o t) (length r.entries)
none_last r o t none = sym (none_last_below (is_news r o t) (length r.entries) (λ i _. no_news r o t i none))

-- ---- the news of an order, whoever made it

-- its maker, if there is one, receives at entry i what station t sends at entry j
abbrev pub hears : PlainRecording → (maker : Option ℕ) → (t j i : ℕ) → Bool
hears r maker t j i = option_map_or (λ s. hears_at r s t j i) maker false

settled_by : (r : PlainRecording) (o : OrderData) (t : ℕ) (maker : Option ℕ) → o.maker ≡ maker
    → Hears (is_settling r (is_reply r o t)) (hears r maker t) (length r.entries) (is_settling r (is_news r o t))
settled_by r o t None none = (
  λ i within passes. absurd (let no : true ≡ false = sym (and_parts (is_news r o t i) _ passes).0 ∙ no_news r o t i none in cc),
  λ i heard. absurd (let no : false ≡ true = heard.1.1.1.1 in cc),
)
settled_by r o t (Some s) is = settled_heard r o s t is

pub settled_news : (r : PlainRecording) (o : OrderData) (t : ℕ)
    → Hears (is_settling r (is_reply r o t)) (hears r o.maker t) (length r.entries) (is_settling r (is_news r o t))
settled_news r o t = settled_by r o t o.maker refl

all_by : (r : PlainRecording) (o : OrderData) (t : ℕ) (maker : Option ℕ) → o.maker ≡ maker
    → Hears (is_reply r o t) (hears r maker t) (length r.entries) (is_news r o t)
all_by r o t None none = (
  λ i within passes. absurd (let no : true ≡ false = sym passes ∙ no_news r o t i none in cc),
  λ i heard. absurd (let no : false ≡ true = heard.1.1.1.1 in cc),
)
all_by r o t (Some s) is = are_all_received r o s t is

pub all_news : (r : PlainRecording) (o : OrderData) (t : ℕ) → Hears (is_reply r o t) (hears r o.maker t) (length r.entries) (is_news r o t)
all_news r o t = all_by r o t o.maker refl

-- what was found at entry j is the reply there
abbrev pub IsFoundAt : PlainRecording → OrderData → (t j : ℕ) → Option Reply → Type 0
IsFoundAt r o t j found = (is_some found ≡ is_reply r o t j) × IfSome found (λ (x : Reply). bytes_sent r t j ≡ Some x.bytes.now)

-- where its maker hears it first, and last
pub first_is_news : (r : PlainRecording) (o : OrderData) (t j : ℕ) (maker : Option ℕ) (found : Option Reply) → is_reply r o t j ≡ true → IsFoundAt r o t j found
    → first_news r maker found ≡ first_below (hears r maker t j) (length r.entries)
first_is_news r o t j None found replies is = sym (none_first_below (hears r None t j) (length r.entries) (λ i _. refl))
first_is_news r o t j (Some s) None replies is = absurd (let no : false ≡ true = is.0 ∙ replies in cc)
first_is_news r o t j (Some s) (Some x) replies is =
    sym (ap (option_and_then (λ b. first_below (gets_in r s b) (length r.entries))) is.1) ∙ first_is_heard r o s t j replies

pub last_is_news : (r : PlainRecording) (o : OrderData) (t j : ℕ) (maker : Option ℕ) (found : Option Reply) → is_reply r o t j ≡ true → IsFoundAt r o t j found
    → last_news r maker found ≡ last_below (hears r maker t j) (length r.entries)
last_is_news r o t j None found replies is = sym (none_last_below (hears r None t j) (length r.entries) (λ i _. refl))
last_is_news r o t j (Some s) None replies is = absurd (let no : false ≡ true = is.0 ∙ replies in cc)
last_is_news r o t j (Some s) (Some x) replies is =
    sym (ap (option_and_then (λ b. last_below (gets_in r s b) (length r.entries))) is.1) ∙ last_is_heard r o s t j replies

-- and nowhere what is no reply
pub no_reply_no_news : (r : PlainRecording) (o : OrderData) (t j : ℕ) (maker : Option ℕ) (found : Option Reply) → is_reply r o t j ≡ false → IsFoundAt r o t j found
    → last_news r maker found ≡ None
no_reply_no_news r o t j None found none is = refl
no_reply_no_news r o t j (Some s) None none is = refl
no_reply_no_news r o t j (Some s) (Some x) none is = absurd (let no : true ≡ false = is.0 ∙ none in cc)

-- ---- the words of replies

-- the word of what is sent at an entry, and of what is received there
sent_word : (r : PlainRecording) (t j : ℕ) (b : List ℕ) → bytes_sent r t j ≡ Some b → word_at r j ≡ word_in r b
unfolding word_at
sent_word r t j b sent = ap (option_and_then (λ p. word_of p.body)) (meant_sent r t j b sent)

got_word : (r : PlainRecording) (s i : ℕ) (b : List ℕ) → gets_in r s b i ≡ true → word_at r i ≡ word_in r b
unfolding word_at gets_in
got_word r s i b h =
    let got = there (bytes_eq b) (bytes_received r s i) h in
    ap (option_and_then (λ p. word_of p.body)) (meant_got r s i b (got.1 ∙ ap Some (sym ((bytes_decides b got.0).0 got.2))))

pub spoken_there : (r : PlainRecording) (t j : ℕ) (found : Option Reply) → IfSome found (λ (x : Reply). bytes_sent r t j ≡ Some x.bytes.now)
    → IfSome found (λ (x : Reply). x.word ≡ word_in r x.bytes.now) → IfSome found (λ (x : Reply). x.word ≡ word_at r j)
spoken_there r t j None sent word = tt
spoken_there r t j (Some x) sent word = word ∙ sym (sent_word r t j x.bytes.now sent)

-- the word of where they are heard
pub first_word : (r : PlainRecording) (s : ℕ) (b : List ℕ) (i : ℕ) → first_below (gets_in r s b) (length r.entries) ≡ Some i → word_in r b ≡ word_at r i
first_word r s b i found = sym (got_word r s i b (first_found (gets_in r s b) (length r.entries) i found).passes)

pub last_word : (r : PlainRecording) (s : ℕ) (b : List ℕ) (i : ℕ) → last_below (gets_in r s b) (length r.entries) ≡ Some i → word_in r b ≡ word_at r i
last_word r s b i found = sym (got_word r s i b (last_found (gets_in r s b) (length r.entries) i found).1)
