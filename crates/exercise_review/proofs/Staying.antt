-- The stays of entities, one change more at a time, and what is told of them.
use Rattle.std.proofs.Common.{◌≡◌, ℕ, zero, suc, ◌+◌, ◌<◌, ◌≤◌, List, [], ◌∷◌, ◌++◌, length, map, take, drop, get_or, cond, true, false, Option, Some, None, refl, sym, ap, ◌∙◌, append_assoc, append-nil, subst, arith}
use Rattle.std.specs.Prelude.{IfSome, Result, Ok, Err, Vec}
use Rattle.std.specs.declared.alloc.Global.{Global}
use Rattle.std.specs.Result.{IsErrAnd}
use Rattle.std.proofs.lemmas.Bool.{ne_eqb}
use Rattle.std.proofs.lemmas.List.{map-append, length-append, length-map}
use Rattle.dis_records.specs.declared.entity_state.EntityState.{EntityState}
use Rattle.dis_records.specs.Entity.{entity_of}
use Rattle.exercise_model.specs.Station.{is_absent}
use Rattle.exercise_model.specs.Recording.{PlainRecording, IsRecording}
use Rattle.exercise_model.specs.History.{station_at}
use Rattle.exercise_model.specs.State.{changed}
use Rattle.exercise_model.specs.Cause.{same_state}
use Rattle.exercise_findings.specs.Number.{entry_number, entry_of}
use Rattle.exercise_findings.specs.State.{state_before}
use Rattle.exercise_review.specs.declared.changes.Made.{Made}
use Rattle.exercise_review.specs.declared.fault.ReviewFault.{ReviewFault}
use Rattle.exercise_review.specs.declared.fault.ReviewFault.TheVariants.{OverLimit, Memory}
use Rattle.exercise_review.specs.declared.life.Stretch.{Stretch}
use Rattle.exercise_review.specs.declared.span.Span.{Span}
use Rattle.exercise_review.specs.declared.stay.Stay.{Stay}
use Rattle.exercise_review.specs.Life.{LifeSoFar, stretch_of, life_after, life_before, lives_of}
use Rattle.exercise_review.specs.Room.{lists_below, AddsWithin}
use Rattle.exercise_review.specs.Span.{life_by_changes, span_of, spans_of_next, spans_of, all_spans}
use Rattle.exercise_review.specs.Course.{IsUnaffected}
use Rattle.exercise_review.specs.Stay.{span_at, StaysWithin, stay_of, stretch_so_far, stays_of_next, stays_of, all_stays, stay_ended_at, stay_ended_by, stay_after}
use Rattle.exercise_review.proofs.Courses.{lived_over}
use Rattle.exercise_review.proofs.Spans.{lived_more}

-- ---- a life so far, as it is kept

-- behind what was there stand the stays that ended, and the entity is in this one
pub record AreKept (s e : ℕ) (old : List Stay) (l : LifeSoFar) (stays : List Stay) (stay : Stay) : Type 0 where
  pub kept : stays ≡ old ++ map (stay_of s e) l.ended
  pub now : stay ≡ stay_of s e (stretch_so_far l)

ended_is : (s e : ℕ) (l : LifeSoFar) (end : Option ℕ) → stay_ended_at (stay_of s e (stretch_so_far l)) (entry_number end) ≡ map (stay_of s e) (stretch_of l end)
ended_is s e l end =
    elim (is_absent l.state) as (λ b. cond b [] (stay_of s e (record { state = l.state; from = l.since; until = end }) ∷ [])
    ≡ map (stay_of s e) (cond b [] (record { state = l.state; from = l.since; until = end } ∷ []))) [
      | true ↦ refl
      | false ↦ refl
    ]

on_ended : (s e n : ℕ) (l : LifeSoFar) (y : EntityState)
    → map (stay_of s e) (life_after l n y).ended ≡ map (stay_of s e) l.ended ++ stay_ended_by (stay_of s e (stretch_so_far l)) n y
on_ended s e n l y =
    let next : LifeSoFar = record { ended = l.ended ++ stretch_of l (Some n); state = y; since = Some n } in
    elim (same_state y l.state) as (λ b. map (stay_of s e) (cond b l next).ended
    ≡ map (stay_of s e) l.ended ++ cond b [] (stay_ended_at (stay_of s e (stretch_so_far l)) n)) [
      | true ↦ sym (append-nil (map (stay_of s e) l.ended))
      | false ↦
          map-append (stay_of s e) l.ended (stretch_of l (Some n)) ∙ ap (λ xs. map (stay_of s e) l.ended ++ xs) (sym (ended_is s e l (Some n)))
    ]

on_now : (s e n : ℕ) (l : LifeSoFar) (y : EntityState)
    → stay_after (stay_of s e (stretch_so_far l)) n y ≡ stay_of s e (stretch_so_far (life_after l n y))
on_now s e n l y =
    let next : LifeSoFar = record { ended = l.ended ++ stretch_of l (Some n); state = y; since = Some n } in
    elim (same_state y l.state) as (λ b. cond b (stay_of s e (stretch_so_far l)) (record (stay_of s e (stretch_so_far l)) { state = y; from = n })
    ≡ stay_of s e (stretch_so_far (cond b l next))) [
      | true ↦ refl
      | false ↦ refl
    ]

pub kept_on : (s e n : ℕ) (old part new : List Stay) (l : LifeSoFar) (stay next : Stay) (y : EntityState) → AreKept s e old l part stay
    → new ≡ part ++ stay_ended_by stay n y → next ≡ stay_after stay n y → AreKept s e old (life_after l n y) new next
kept_on s e n old part new l stay next y before added on = record {
  kept = added ∙ ap (λ x. part ++ stay_ended_by x n y) before.now ∙ ap (λ xs. xs ++ stay_ended_by (stay_of s e (stretch_so_far l)) n y) before.kept
      ∙ append_assoc old (map (stay_of s e) l.ended) (stay_ended_by (stay_of s e (stretch_so_far l)) n y)
      ∙ ap (λ xs. old ++ xs) (sym (on_ended s e n l y));
  now = on ∙ ap (λ x. stay_after x n y) before.now ∙ on_now s e n l y;
}

-- the stay that it is in at the end is the last
pub kept_whole : (s e : ℕ) (old part : List Stay) (l : LifeSoFar) (stay : Stay) → AreKept s e old l part stay
    → part ++ stay_ended_at stay 0xFFFFFFFF ≡ old ++ map (stay_of s e) (l.ended ++ stretch_of l None)
kept_whole s e old part l stay before =
    ap (λ x. part ++ stay_ended_at x 0xFFFFFFFF) before.now ∙ ap (λ xs. xs ++ stay_ended_at (stay_of s e (stretch_so_far l)) 0xFFFFFFFF) before.kept
    ∙ append_assoc old (map (stay_of s e) l.ended) (stay_ended_at (stay_of s e (stretch_so_far l)) 0xFFFFFFFF)
    ∙ ap (λ xs. old ++ (map (stay_of s e) l.ended ++ xs)) (ended_is s e l None)
    ∙ ap (λ xs. old ++ xs) (sym (map-append (stay_of s e) l.ended (stretch_of l None)))

-- where the entity stays in its state, so does what is kept of it
pub kept_over : (s e : ℕ) (old stays : List Stay) (l life : LifeSoFar) (stay : Stay) (ms : List Made) (a b : ℕ) → AreKept s e old life stays stay
    → life ≡ life_by_changes e l (take a ms) → a ≤ b → b ≤ length ms → IsUnaffected e stay.state ms a b → AreKept s e old (life_by_changes e l (take b ms)) stays stay
kept_over s e old stays l life stay ms a b kept so_far from within still =
    let state : stay.state ≡ life.state = ap (λ (x : Stay). x.state) kept.now in
    subst (λ x. AreKept s e old x stays stay) (lived_over e l life ms a b from within so_far (subst (λ y. IsUnaffected e y ms a b) state still)) kept

-- what the next change makes of a life
pub next_lived : (s e : ℕ) (old stays : List Stay) (l : LifeSoFar) (stay : Stay) (ms : List Made) (k : ℕ) (d : Made) (y : EntityState)
    → AreKept s e old (life_by_changes e l (take k ms)) stays stay → k < length ms → y ≡ changed e stay.state (get_or ms k d).change
    → life_after (life_by_changes e l (take k ms)) (get_or ms k d).entry y ≡ life_by_changes e l (take (k + 1) ms)
next_lived s e old stays l stay ms k d y kept within made =
    let life : LifeSoFar = life_by_changes e l (take k ms) in
    lived_more e l life (life_after life (get_or ms k d).entry y) ms k d y within refl
    (made ∙ ap (λ (x : Stay). changed e x.state (get_or ms k d).change) kept.now) refl

-- ---- room

pub adds_same : {X : Type 0} (old part added more new : List X) (most : ℕ) (result : Result (Unit {0}) ReviewFault) → part ++ more ≡ old ++ added
    → AddsWithin most part more result new → AddsWithin most old added result new
adds_same old part added more new most (Ok x) same made = (made.0 ∙ same, made.1)
adds_same old part added more new most (Err OverLimit) same many = omega (arith, many, ap length same, length-append part more, length-append old added)
adds_same old part added more new most (Err Memory) same many = tt

-- no less is added by all than by what came first
pub over : {X : Type 0} (old part added more new last : List X) (most : ℕ) (e : ReviewFault) (result : Result (Unit {0}) ReviewFault)
    → IsErrAnd result (λ x. x ≡ e) → length part + length more ≤ length old + length added
    → AddsWithin most part more (Err e) new → AddsWithin most old added result last
over old part added more new last most e (Ok x) is fits many = absurd is
over old part added more new last most e (Err x) is fits many =
    subst (λ y. AddsWithin most old added (Err y) last) (sym is) (of_fault e many)
  where
    of_fault : (f : ReviewFault) → AddsWithin most part more (Err f) new → AddsWithin most old added (Err f) last
    of_fault OverLimit many = omega (arith, fits, many)
    of_fault Memory many = tt

ended_more : (l : LifeSoFar) (n : ℕ) (y : EntityState) → length l.ended ≤ length (life_after l n y).ended
ended_more l n y =
    let next : LifeSoFar = record { ended = l.ended ++ stretch_of l (Some n); state = y; since = Some n } in
    elim (same_state y l.state) as (λ b. length l.ended ≤ length (cond b l next).ended) [
      | true ↦ omega arith
      | false ↦ omega (arith, length-append l.ended (stretch_of l (Some n)))
    ]

ended_grows : (e : ℕ) (l : LifeSoFar) (ms : List Made) → length l.ended ≤ length (life_by_changes e l ms).ended
ended_grows e l [] = omega arith
ended_grows e l (m ∷ ms) =
    omega (arith, ended_more l m.entry (changed e l.state m.change), ended_grows e (life_after l m.entry (changed e l.state m.change)) ms)

lived_split : (e k : ℕ) (l : LifeSoFar) (ms : List Made) → life_by_changes e l ms ≡ life_by_changes e (life_by_changes e l (take k ms)) (drop k ms)
lived_split e zero l ms = refl
lived_split e (suc k) l [] = refl
lived_split e (suc k) l (m ∷ ms) = lived_split e k (life_after l m.entry (changed e l.state m.change)) ms

-- what ends at the next change fits among all
pub next_fits : (s e n k : ℕ) (old part : List Stay) (l before : LifeSoFar) (stay : Stay) (ms : List Made) (y : EntityState) → AreKept s e old before part stay
    → life_after before n y ≡ life_by_changes e l (take (k + 1) ms)
    → length part + length (stay_ended_by stay n y) ≤ length old + length (map (stay_of s e) (let w = life_by_changes e l ms in w.ended ++ stretch_of w None))
next_fits s e n k old part l before stay ms y kept next =
    let w : LifeSoFar = life_by_changes e l ms in
    let on = on_ended s e n before y in
    let same : length (stay_ended_by stay n y) ≡ length (stay_ended_by (stay_of s e (stretch_so_far before)) n y) = ap (λ x. length (stay_ended_by x n y)) kept.now in
    let grows = ended_grows e (life_by_changes e l (take (k + 1) ms)) (drop (k + 1) ms) in
    let split : length w.ended ≡ length (life_by_changes e (life_by_changes e l (take (k + 1) ms)) (drop (k + 1) ms)).ended = ap (λ (x : LifeSoFar). length x.ended) (lived_split e (k + 1) l ms) in
    let here : length (life_after before n y).ended ≡ length (life_by_changes e l (take (k + 1) ms)).ended = ap (λ (x : LifeSoFar). length x.ended) next in
    omega (
      arith,
      same,
      grows,
      split,
      here,
      ap length kept.kept,
      length-append old (map (stay_of s e) before.ended),
      ap length on,
      length-append (map (stay_of s e) before.ended) (stay_ended_by (stay_of s e (stretch_so_far before)) n y),
      length-map (life_after before n y).ended (stay_of s e),
      length-map (w.ended ++ stretch_of w None) (stay_of s e),
      length-append w.ended (stretch_of w None),
    )

-- ---- the entries of a life are those of its log

abbrev AreBelow : ℕ → List Stretch → Type 0
AreBelow n [] = Unit {0}
AreBelow n (x ∷ xs) = IfSome x.from (λ i. i < n) × IfSome x.until (λ i. i < n) × AreBelow n xs

below_append : (n : ℕ) (xs ys : List Stretch) → AreBelow n xs → AreBelow n ys → AreBelow n (xs ++ ys)
below_append n [] ys first second = second
below_append n (x ∷ xs) ys first second = (first.0, first.1, below_append n xs ys first.2 second)

record IsBelow (n : ℕ) (l : LifeSoFar) : Type 0 where
  ended : AreBelow n l.ended
  since : IfSome l.since (λ i. i < n)

stretch_below : (n : ℕ) (l : LifeSoFar) (end : Option ℕ) → IfSome l.since (λ i. i < n) → IfSome end (λ i. i < n) → AreBelow n (stretch_of l end)
stretch_below n l end since ends =
    elim (is_absent l.state) as (λ b. AreBelow n (cond b [] (record { state = l.state; from = l.since; until = end } ∷ []))) [
      | true ↦ tt
      | false ↦ (since, ends, tt)
    ]

on_below : (n i : ℕ) (l : LifeSoFar) (y : EntityState) → i < n → IsBelow n l → IsBelow n (life_after l i y)
on_below n i l y less before =
    let next : LifeSoFar = record { ended = l.ended ++ stretch_of l (Some i); state = y; since = Some i } in
    elim (same_state y l.state) as (λ b. IsBelow n (cond b l next)) [
      | true ↦ before
      | false ↦ record { ended = below_append n l.ended (stretch_of l (Some i)) before.ended (stretch_below n l (Some i) before.since less); since = less }
    ]

life_below : (r : PlainRecording) (s e n i : ℕ) → i ≤ n → IsBelow n (life_before r s e i)
unfolding life_before
life_below r s e n zero within = record { ended = tt; since = tt }
life_below r s e n (suc i) within =
    on_below n i (life_before r s e i) (state_before r s e (suc i)) (omega (arith, within)) (life_below r s e n i (omega (arith, within)))

lives_below : (r : PlainRecording) (s e : ℕ) → AreBelow (length r.entries) (lives_of r s e)
unfolding lives_of
lives_below r s e =
    let l = life_before r s e (length r.entries) in
    let below = life_below r s e (length r.entries) (length r.entries) (omega arith) in
    below_append (length r.entries) l.ended (stretch_of l None) below.ended (stretch_below (length r.entries) l None below.since tt)

-- ---- what is told of stays

read_back : (n : ℕ) (x : Option ℕ) → n ≤ 0xFFFFFFFF → IfSome x (λ i. i < n) → entry_of (entry_number x) ≡ x
read_back n None few below = refl
read_back n (Some i) few below =
    ap (λ b. cond b None (Some i)) (ne_eqb i 0xFFFFFFFF (λ same. let no : ⊥ = omega (arith, same, few, below) in no))

stays_told : (r : PlainRecording) (s e n : ℕ) (xs : List Stretch) → n ≤ 0xFFFFFFFF → AreBelow n xs
    → map (span_at r) (map (stay_of s e) xs) ≡ map (span_of r (entity_of (station_at r s).address e)) xs
stays_told r s e n [] few below = refl
stays_told r s e n (x ∷ xs) few below =
    let id = entity_of (station_at r s).address e in
    ap (λ i. span_of r id (record { state = x.state; from = i; until = entry_of (entry_number x.until) }) ∷ map (span_at r) (map (stay_of s e) xs)) (read_back n x.from few below.0)
    ∙ ap (λ i. span_of r id (record { state = x.state; from = x.from; until = i }) ∷ map (span_at r) (map (stay_of s e) xs)) (read_back n x.until few below.1)
    ∙ ap (λ ys. span_of r id x ∷ ys) (stays_told r s e n xs few below.2)

lists_told : {X Y : Type 0} (f : X → Y) (g : ℕ → List X) (h : ℕ → List Y) (n : ℕ) → ((k : ℕ) → map f (g k) ≡ h k) → map f (lists_below g n) ≡ lists_below h n
unfolding lists_below
lists_told f g h zero each = refl
lists_told f g h (suc n) each =
    map-append f (lists_below g n) (g n) ∙ ap (λ xs. xs ++ map f (g n)) (lists_told f g h n each) ∙ ap (λ xs. lists_below h n ++ xs) (each n)

pub station_told : (r : PlainRecording) (s : ℕ) → IsRecording r → map (span_at r) (stays_of r s) ≡ spans_of r s
unfolding stays_of spans_of
station_told r s limits =
    lists_told (span_at r) (stays_of_next r s) (spans_of_next r s) 65533
    (λ k. stays_told r s (k + 1) (length r.entries) (lives_of r s (k + 1)) (omega (arith, limits.count)) (lives_below r s (k + 1)))

pub all_told : (r : PlainRecording) → IsRecording r → map (span_at r) (all_stays r) ≡ all_spans r
unfolding all_stays all_spans
all_told r limits = lists_told (span_at r) (stays_of r) (spans_of r) (length r.setting.stations) (λ s. station_told r s limits)

pub as_many_told : (r : PlainRecording) → IsRecording r → length (all_stays r) ≡ length (all_spans r)
as_many_told r limits = sym (length-map (all_stays r) (span_at r)) ∙ ap length (all_told r limits)

pub stays_made : (r : PlainRecording) (old new stays : List Stay) (spans : List Span) (most : ℕ) → old ≡ [] → map (span_at r) stays ≡ spans
    → (new ≡ old ++ stays) × (length new ≤ most) → (map (span_at r) new ≡ spans) × (length new ≤ most)
stays_made r old new stays spans most none told made = (ap (map (span_at r)) (made.0 ∙ ap (λ xs. xs ++ stays) none) ∙ told, made.1)

pub stays_unmade : (r : PlainRecording) (old new stays : List Stay) (spans : List Span) (most : ℕ) (e : ReviewFault) (result : Result (Vec Stay Global) ReviewFault)
    → IsErrAnd result (λ x. x ≡ e) → old ≡ [] → map (span_at r) stays ≡ spans → AddsWithin most old stays (Err e) new → StaysWithin r most spans result
stays_unmade r old new stays spans most e (Ok x) is none told many = absurd is
stays_unmade r old new stays spans most e (Err x) is none told many = subst (λ y. StaysWithin r most spans (Err y)) (sym is) (of_fault e many)
  where
    of_fault : (f : ReviewFault) → AddsWithin most old stays (Err f) new → StaysWithin r most spans (Err f)
    of_fault OverLimit many = omega (arith, many, ap length none, ap length told, length-map stays (span_at r))
    of_fault Memory many = tt
