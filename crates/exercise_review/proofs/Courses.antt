-- The changes of stations as a course keeps them: what comes next, one change more at a time, and what is passed over.
use Rattle.std.proofs.Common.{◌≡◌, ◌≢◌, ⊎_elim, ℕ, zero, suc, ◌+◌, ◌-◌, ◌<◌, ◌≤◌, List, [], ◌∷◌, ◌++◌, length, set, take, drop, get_or, replicate, Bool, true, false, Option, Some, None, Vec, refl, sym, ap, ◌∙◌, subst, arith}
use Rattle.std.specs.Prelude.{IfSome, nat_eq, slice_get, slice_index_or, not, ◌&&◌, option_map, option_and_then, if◌then◌else◌}
use Rattle.std.specs.Option.{option_to_list}
use Rattle.std.specs.declared.alloc.Global.{Global}
use Rattle.std.proofs.lemmas.Bool.{cases_eq, cases_lt, eqb-true, eq-eqb, ne_eqb}
use Rattle.std.proofs.lemmas.List.{take_more, take_all, drop_more, drop_all, length-set, length-append, length-replicate, get_or-replicate, get_or_past}
use Rattle.std.proofs.lemmas.Option.{slice_get_read}
use Rattle.dis_records.specs.declared.kind.Kind.{Kind}
use Rattle.dis_records.specs.declared.entity.Scope.{Scope}
use Rattle.dis_records.specs.declared.entity.Scope.TheVariants.{One, All}
use Rattle.dis_records.specs.declared.entity_state.EntityState.{EntityState}
use Rattle.dis_records.specs.declared.entity_state.EntityState.TheVariants.{Absent, Stopped, Running}
use Rattle.exercise_model.specs.declared.state.Change.{Change}
use Rattle.exercise_model.specs.Station.{is_entity, listed_state}
use Rattle.exercise_model.specs.Entry.{Entry}
use Rattle.exercise_model.specs.Recording.{PlainRecording, IsRecording}
use Rattle.exercise_model.specs.History.{Event, event_of, station_of, station_at}
use Rattle.exercise_model.specs.State.{state_made, scope_has, changed, change_made, entity_state}
use Rattle.exercise_model.specs.Cause.{same_state}
use Rattle.exercise_model.specs.Place.{event_at, own_event, log_before}
use Rattle.exercise_model.specs.Account.{changed_by, change_at}
use Rattle.exercise_model.proofs.Offered.{log_before-none}
use Rattle.exercise_review.specs.declared.changes.Made.{Made}
use Rattle.exercise_review.specs.declared.course.OwnChanges.{OwnChanges}
use Rattle.exercise_review.specs.declared.course.StationChanges.{StationChanges}
use Rattle.exercise_findings.specs.State.{state_before}
use Rattle.exercise_review.specs.Life.{LifeSoFar, stretch_of, life_after, lives_of}
use Rattle.exercise_review.specs.Room.{lists_below}
use Rattle.exercise_review.specs.Span.{own_change, made_of, made_at, changes_made, life_by_changes}
use Rattle.exercise_review.specs.Course.{AreChanges, no_made, change_in, is_one, is_all, is_of, is_change_of_all_in, IsNextIn, AreNextIn, AreUpTo, AreOwn, IsCourse, IsUnaffected, course_life, course_stretches}
use Rattle.exercise_review.proofs.Lists.{lists_none}
use Rattle.exercise_review.proofs.Spans.{state_is, life_by_changes-more, lives_on, lives_are, change_more, change_none}

-- ---- the changes of all stations

get-set_other : {X : Type 0} (xs : List X) (i : ℕ) (y : X) (k : ℕ) → k ≢ i → slice_get (set xs i y) k ≡ slice_get xs k
get-set_other [] i y k apart = refl
get-set_other (x ∷ xs) zero y zero apart = absurd (apart refl)
get-set_other (x ∷ xs) zero y (suc k) apart = refl
get-set_other (x ∷ xs) (suc i) y zero apart = refl
get-set_other (x ∷ xs) (suc i) y (suc k) apart = get-set_other xs i y k (λ e. apart (ap suc e))

get-set_here : {X : Type 0} (xs : List X) (i : ℕ) (y : X) → i < length xs → slice_get (set xs i y) i ≡ Some y
get-set_here [] i y l = absurd (omega (arith, l))
get-set_here (x ∷ xs) zero y l = refl
get-set_here (x ∷ xs) (suc i) y l = get-set_here xs i y (omega (arith, l))

-- what an entry changes at a station is its change, if it is one of that station
own_is : (r : PlainRecording) (s n : ℕ) (e : Entry) → slice_get r.entries n ≡ Some e
    → own_change r s n ≡ (if nat_eq (station_of (event_of e)) s then change_at r n else None)
unfolding own_event change_at
own_is r s n e at =
    let made : ℕ → Event → Option Change = λ t. change_made r.setting.exercise (station_at r t) (log_before r t n) in
    ap (λ o. option_and_then (made s) (option_and_then (λ x. event_at s (event_of x)) o)) at
    ∙ elim (nat_eq (station_of (event_of e)) s) as (λ b. nat_eq (station_of (event_of e)) s ≡ b
    → option_and_then (made s) (if b then Some (event_of e) else None) ≡ (if b then change_at r n else None)) [
      | true ↦ λ here.
          ap (λ t. made t (event_of e)) (sym (eqb-true (station_of (event_of e)) s here))
          ∙ sym (ap (option_and_then (λ x. changed_by r n (event_of x))) at)
      | false ↦ λ _. refl
    ] refl

own_none : (r : PlainRecording) (s n : ℕ) → change_at r n ≡ None → own_change r s n ≡ None
unfolding own_event
own_none r s n none =
    elim (slice_get r.entries n) as (λ o. slice_get r.entries n ≡ o → own_change r s n ≡ None) [
      | None ↦ λ at.
          ap (λ o. option_and_then (change_made r.setting.exercise (station_at r s) (log_before r s n)) (option_and_then (λ x. event_at s (event_of x)) o)) at
      | Some e ↦ λ at.
          own_is r s n e at
          ∙ elim (nat_eq (station_of (event_of e)) s) as (λ b. (if b then change_at r n else None) ≡ None) [ true ↦ none | false ↦ refl ]
    ] refl

none_yet : (r : PlainRecording) (s : ℕ) (o : Option (Vec Made Global)) → IfSome o (λ ms. ms.items ≡ []) → IfSome o (λ ms. ms.items ≡ lists_below (made_at r s) 0)
none_yet r s None none = tt
none_yet r s (Some ms) none = none ∙ sym (lists_none (made_at r s))

pub changes_start : (r : PlainRecording) (all : List (Vec Made Global)) → length all ≡ length r.setting.stations
    → ((s : ℕ) → IfSome (slice_get all s) (λ ms. ms.items ≡ [])) → AreChanges r 0 all
changes_start r all count none = record { count = count; each = λ s. none_yet r s (slice_get all s) (none s) }

each_still : (r : PlainRecording) (s n : ℕ) (o : Option (Vec Made Global)) → own_change r s n ≡ None
    → IfSome o (λ ms. ms.items ≡ lists_below (made_at r s) n) → IfSome o (λ ms. ms.items ≡ lists_below (made_at r s) (n + 1))
each_still r s n None none before = tt
each_still r s n (Some ms) none before = change_none r s n ms.items none before

pub changes_still : (r : PlainRecording) (n : ℕ) (all : List (Vec Made Global)) → change_at r n ≡ None → AreChanges r n all → AreChanges r (n + 1) all
changes_still r n all none so_far = record {
  count = so_far.count;
  each = λ s. each_still r s n (slice_get all s) (own_none r s n none) (so_far.each s);
}

pub changes_more : (r : PlainRecording) (n t : ℕ) (e : Entry) (c : Change) (all : List (Vec Made Global)) (old new : Vec Made Global)
    → slice_get r.entries n ≡ Some e → t ≡ station_of (event_of e) → change_at r n ≡ Some c → slice_get all t ≡ Some old → t < length all
    → new.items ≡ old.items ++ made_of n c ∷ [] → AreChanges r n all → AreChanges r (n + 1) (set all t new)
changes_more r n t e c all old new at station change here within pushed so_far = record {
  count = length-set all t new ∙ so_far.count;
  each = λ s. ⊎_elim
      (λ (same : s ≡ t).
      subst (λ o. IfSome o (λ ms. ms.items ≡ lists_below (made_at r s) (n + 1)))
      (sym (ap (slice_get (set all t new)) same ∙ get-set_here all t new within))
      (change_more r s n c old.items new.items
      (own_is r s n e at ∙ ap (λ b. if b then change_at r n else None) (eq-eqb (station_of (event_of e)) s (sym (same ∙ station))) ∙ change)
      (subst (λ o. IfSome o (λ ms. ms.items ≡ lists_below (made_at r s) n)) (ap (slice_get all) same ∙ here) (so_far.each s)) pushed))
      (λ apart.
      subst (λ o. IfSome o (λ ms. ms.items ≡ lists_below (made_at r s) (n + 1))) (sym (get-set_other all t new s apart))
      (each_still r s n (slice_get all s)
      (own_is r s n e at ∙ ap (λ b. if b then change_at r n else None) (ne_eqb (station_of (event_of e)) s (λ same. apart (sym same ∙ sym station))))
      (so_far.each s)))
      (cases_eq s t);
}

-- ---- what comes next

pub next_end : (test : Change → Bool) (ms : List Made) (a : ℕ) → a ≡ length ms → IsNextIn test ms a (length ms)
next_end test ms a end = record {
  from = omega (arith, end);
  within = omega arith;
  none = λ i l m. absurd (let no : ⊥ = omega (arith, l, m, end) in no);
  passes = λ l. absurd (let no : ⊥ = omega (arith, l) in no);
}

pub next_here : (test : Change → Bool) (ms : List Made) (k : ℕ) → k < length ms → test (change_in ms k) ≡ true → IsNextIn test ms k k
next_here test ms k within here = record {
  from = omega arith;
  within = omega (arith, within);
  none = λ i l m. absurd (let no : ⊥ = omega (arith, l, m) in no);
  passes = λ _. here;
}

pub next_behind : (test : Change → Bool) (ms : List Made) (k b : ℕ) → test (change_in ms k) ≡ false → IsNextIn test ms (k + 1) b → IsNextIn test ms k b
next_behind test ms k b fails next = record {
  from = omega (arith, next.from);
  within = next.within;
  none = λ i l m. ⊎_elim
      (λ (past : k < i). next.none i (omega (arith, past)) m)
      (λ (up_to : i ≤ k). let same : i ≡ k = omega (arith, l, up_to) in ap (λ j. test (change_in ms j)) same ∙ fails)
      (cases_lt k i);
  passes = next.passes;
}

pub next_later : (test : Change → Bool) (ms : List Made) (a b c : ℕ) → a ≤ c → c ≤ b → IsNextIn test ms a b → IsNextIn test ms c b
next_later test ms a b c later up_to next = record {
  from = up_to;
  within = next.within;
  none = λ i l m. next.none i (omega (arith, l, later)) m;
  passes = next.passes;
}

-- behind the last that passes there is none
pub next_none : (test : Change → Bool) (ms : List Made) (a : ℕ) (places : List ℕ) → a ≤ length ms
    → ((i : ℕ) → a ≤ i → i < length ms → test (change_in ms i) ≡ false) → places ≡ replicate a (length ms) → AreNextIn test ms a places
next_none test ms a places within none is k l m =
    subst (IsNextIn test ms k)
    (sym (ap (λ ps. slice_index_or ps k (length ms)) is ∙ get_or_past (replicate a (length ms)) k (length ms) (omega (arith, l, length-replicate a (length ms)))))
    (record {
      from = m;
      within = omega arith;
      none = λ i low high. none i (omega (arith, l, low)) high;
      passes = λ less. absurd (let no : ⊥ = omega (arith, less) in no);
    })

pub next_more : (test : Change → Bool) (ms : List Made) (a k x : ℕ) (old new : List ℕ) → k + 1 ≡ a
    → ((j : ℕ) → slice_index_or new j (length ms) ≡ (if nat_eq j k then x else slice_index_or old j (length ms))) → IsNextIn test ms k x
    → AreNextIn test ms a old → AreNextIn test ms k new
next_more test ms a k x old new on written here next j l m = ⊎_elim
    (λ (same : j ≡ k).
    subst (λ i. IsNextIn test ms i (slice_index_or new j (length ms))) (sym same)
    (subst (IsNextIn test ms k) (sym (written j ∙ ap (λ b. if b then x else slice_index_or old j (length ms)) (eq-eqb j k same))) here))
    (λ apart.
    subst (IsNextIn test ms j) (sym (written j ∙ ap (λ b. if b then x else slice_index_or old j (length ms)) (ne_eqb j k apart)))
    (next j (past j k l on apart) m))
    (cases_eq j k)
  where
    past : (j k : ℕ) {a : ℕ} → k ≤ j → k + 1 ≡ a → j ≢ k → a ≤ j
    past j k l on apart = ⊎_elim (λ (less : k < j). omega (arith, less, on)) (λ (up_to : j ≤ k). absurd (apart (omega (arith, l, up_to)))) (cases_lt k j)

-- ---- the own changes of each entity

-- what is read in a list of one value, or past its end
all_same : {X : Type 0} (n k : ℕ) (d : X) → slice_index_or (replicate n d) k d ≡ d
all_same n k d = ⊎_elim
    (λ (below : k < n). get_or-replicate n k d d below)
    (λ (past : n ≤ k). get_or_past (replicate n d) k d (omega (arith, past, length-replicate n d)))
    (cases_lt k n)

pub own_starts : (ms : List Made) (last a : ℕ) (o : OwnChanges) → a ≡ length ms → o.first.items ≡ replicate (last + 1) (length ms)
    → o.next.items ≡ replicate (length ms) (length ms) → AreOwn ms last a o
own_starts ms last a o end first next = record {
  numbers = ap length first ∙ length-replicate (last + 1) (length ms);
  count = ap length next ∙ length-replicate (length ms) (length ms);
  first = λ e.
      subst (IsNextIn (is_of e) ms a)
      (sym (ap (λ ps. slice_index_or ps e (length ms)) first ∙ all_same (last + 1) e (length ms)))
      (next_end (is_of e) ms a end);
  next = λ k l m. absurd (let no : ⊥ = omega (arith, l, m, end) in no);
}

-- the number of the entity alone that a change is one of is not past the last
pub up_to : (ms : List Made) (last k n : ℕ) → AreUpTo last ms → k < length ms → (change_in ms k).scope ≡ One n → n < last + 1
up_to ms last k n numbers within one = ⊎_elim
    (λ (more : last < n). absurd (let no : false ≡ true = sym (numbers n k more within) ∙ ap (is_one n) one ∙ eq-eqb n n refl in cc))
    (λ (less : n ≤ last). omega (arith, less))
    (cases_lt last n)

-- a change of all entities
pub own_still : (ms : List Made) (last k : ℕ) (o : OwnChanges) → (change_in ms k).scope ≡ All → AreOwn ms last (k + 1) o → AreOwn ms last k o
own_still ms last k o all own = record {
  numbers = own.numbers;
  count = own.count;
  first = λ e. next_behind (is_of e) ms k (slice_index_or o.first.items e (length ms)) (ap (is_one e) all) (own.first e);
  next = λ j l m e here. ⊎_elim
      (λ (past : k < j). own.next j (omega (arith, past)) m e here)
      (λ (up_to : j ≤ k). let same : j ≡ k = omega (arith, l, up_to) in
      absurd (let no : false ≡ true = sym (ap (is_one e) (ap (λ i. (change_in ms i).scope) same ∙ all)) ∙ here in cc))
      (cases_lt k j);
}

-- a change of entity n alone
pub own_more : (ms : List Made) (last k n : ℕ) (old new : OwnChanges) → (change_in ms k).scope ≡ One n → k < length ms
    → length new.first.items ≡ length old.first.items → length new.next.items ≡ length old.next.items
    → ((e : ℕ) → slice_index_or new.first.items e (length ms) ≡ (if nat_eq e n then k else slice_index_or old.first.items e (length ms)))
    → ((j : ℕ) → slice_index_or new.next.items j 0 ≡ (if nat_eq j k then slice_index_or old.first.items n (length ms) else slice_index_or old.next.items j 0))
    → AreOwn ms last (k + 1) old → AreOwn ms last k new
own_more ms last k n old new one within firsts nexts first next own = record {
  numbers = firsts ∙ own.numbers;
  count = nexts ∙ own.count;
  first = λ e. ⊎_elim
      (λ (same : e ≡ n).
      subst (IsNextIn (is_of e) ms k) (sym (first e ∙ ap (λ b. if b then k else slice_index_or old.first.items e (length ms)) (eq-eqb e n same)))
      (next_here (is_of e) ms k within (ap (is_one e) one ∙ eq-eqb n e (sym same))))
      (λ apart.
      subst (IsNextIn (is_of e) ms k) (sym (first e ∙ ap (λ b. if b then k else slice_index_or old.first.items e (length ms)) (ne_eqb e n apart)))
      (next_behind (is_of e) ms k (slice_index_or old.first.items e (length ms)) (ap (is_one e) one ∙ ne_eqb n e (λ same. apart (sym same))) (own.first e)))
      (cases_eq e n);
  next = λ j l m e here. ⊎_elim
      (λ (past : k < j).
      subst (IsNextIn (is_of e) ms (j + 1))
      (sym (next j ∙ ap (λ b. if b then slice_index_or old.first.items n (length ms) else slice_index_or old.next.items j 0)
      (ne_eqb j k (λ same. let no : ⊥ = omega (arith, past, same) in no))))
      (own.next j (omega (arith, past)) m e here))
      (λ (up_to : j ≤ k).
      let same : j ≡ k = omega (arith, l, up_to) in
      let is : n ≡ e = eqb-true n e (sym (ap (is_one e) (ap (λ i. (change_in ms i).scope) same ∙ one)) ∙ here) in
      subst (IsNextIn (is_of e) ms (j + 1))
      (sym (next j ∙ ap (λ b. if b then slice_index_or old.first.items n (length ms) else slice_index_or old.next.items j 0) (eq-eqb j k same)))
      (subst (λ i. IsNextIn (is_of e) ms (i + 1) (slice_index_or old.first.items n (length ms))) (sym same)
      (subst (λ f. IsNextIn (is_of f) ms (k + 1) (slice_index_or old.first.items n (length ms))) is (own.first n))))
      (cases_lt k j);
}

-- ---- what a station opens with: a list of entities, from its end on

pub listed-more : (xs : List (ℕ × EntityState)) (i done : ℕ) (x : ℕ × EntityState) (e : ℕ) → x ≡ get_or xs i x → done < length xs → i ≡ length xs - 1 - done
    → listed_state (drop (length xs - (done + 1)) xs) e ≡ (if nat_eq x.0 e then x.1 else listed_state (drop (length xs - done) xs) e)
listed-more xs i done x e at within here =
    let last : length xs - (done + 1) ≡ i = omega (arith, within, here) in
    let next : i + 1 ≡ length xs - done = omega (arith, within, here) in
    ap (λ n. listed_state (drop n xs) e) last
    ∙ ap (λ ys. listed_state ys e) (drop_more xs i x (omega (arith, within, here)))
    ∙ ap (λ (y : ℕ × EntityState). listed_state (y ∷ drop (i + 1) xs) e) (sym at)
    ∙ ap (λ n. if nat_eq x.0 e then x.1 else listed_state (drop n xs) e) next

pub none_start : (xs : List (ℕ × EntityState)) (ys : List EntityState) (n e : ℕ) → ys ≡ replicate n Absent
    → slice_index_or ys e Absent ≡ listed_state (drop (length xs - 0) xs) e
none_start xs ys n e is =
    let whole : length xs ≤ length xs - 0 = omega arith in
    ap (λ zs. slice_index_or zs e Absent) is ∙ all_same n e Absent ∙ sym (ap (λ zs. listed_state zs e) (drop_all (length xs - 0) xs whole))

-- ---- what is passed over

same_from : (a b : EntityState) → not (same_state a b) ≡ false → a ≡ b
same_from Absent Absent h = refl
same_from Stopped Stopped h = refl
same_from Running Running h = refl
same_from Absent Stopped h = absurd (cc)
same_from Absent Running h = absurd (cc)
same_from Stopped Absent h = absurd (cc)
same_from Stopped Running h = absurd (cc)
same_from Running Absent h = absurd (cc)
same_from Running Stopped h = absurd (cc)

unmoved : (e : ℕ) (y : EntityState) (k : Kind) (s : Scope) → is_one e s ≡ false → (is_all s && not (same_state (state_made k y) y)) ≡ false
    → (if scope_has s e then state_made k y else y) ≡ y
unmoved e y k (One n) other moves = ap (λ b. if b then state_made k y else y) other
unmoved e y k All other moves = same_from (state_made k y) y moves

pub still_up_to : (e : ℕ) (y : EntityState) (ms : List Made) (a own all b : ℕ) → IsNextIn (is_of e) ms a own → IsNextIn (is_change_of_all_in y) ms a all
    → b ≤ own → b ≤ all → IsUnaffected e y ms a b
still_up_to e y ms a own all b of moves up_to_own up_to_all = λ i l m.
    unmoved e y (change_in ms i).kind (change_in ms i).scope (of.none i l (omega (arith, m, up_to_own))) (moves.none i l (omega (arith, m, up_to_all)))

lived_far : (e : ℕ) (l : LifeSoFar) (ms : List Made) (a d : ℕ) → a + d ≤ length ms → IsUnaffected e (life_by_changes e l (take a ms)).state ms a (a + d)
    → life_by_changes e l (take (a + d) ms) ≡ life_by_changes e l (take a ms)
lived_far e l ms a zero within still = let same : a + 0 ≡ a = omega arith in ap (λ n. life_by_changes e l (take n ms)) same
lived_far e l ms a (suc d) within still =
    let so_far = lived_far e l ms a d (omega (arith, within)) (λ i low high. still i low (omega (arith, high))) in
    let next : a + suc d ≡ a + d + 1 = omega arith in
    let m = get_or ms (a + d) no_made in
    ap (λ n. life_by_changes e l (take n ms)) next
    ∙ ap (life_by_changes e l) (take_more ms (a + d) no_made (omega (arith, within)))
    ∙ life_by_changes-more e l (take (a + d) ms) m
    ∙ ap (λ x. life_after x m.entry (changed e x.state m.change)) so_far
    ∙ ap (life_after (life_by_changes e l (take a ms)) m.entry) (still (a + d) (omega arith) (omega arith))
    ∙ lives_on (life_by_changes e l (take a ms)) m.entry

-- where an entity stays in its state, so does its life
pub lived_over : (e : ℕ) (l now : LifeSoFar) (ms : List Made) (a b : ℕ) → a ≤ b → b ≤ length ms → now ≡ life_by_changes e l (take a ms)
    → IsUnaffected e now.state ms a b → now ≡ life_by_changes e l (take b ms)
lived_over e l now ms a b from within so_far still =
    let far : b ≡ a + (b - a) = omega (arith, from) in
    so_far ∙ sym (ap (λ n. life_by_changes e l (take n ms)) far
    ∙ lived_far e l ms a (b - a) (omega (arith, within, from))
    (λ i low high. subst (λ (x : LifeSoFar). changed e x.state (change_in ms i) ≡ x.state) so_far (still i low (omega (arith, high, from)))))

-- an entity that stays Absent has nothing to tell
pub none_lived : (c : StationChanges) (e : ℕ) → slice_index_or c.starts.items e Absent ≡ Absent → IsUnaffected e Absent c.changes.now 0 (length c.changes.now)
    → course_stretches c e ≡ []
none_lived c e absent still =
    let idle : LifeSoFar = record { ended = []; state = Absent; since = None } in
    let ms = c.changes.now in
    let stays = lived_over e idle idle ms 0 (length ms) (omega arith) (omega arith) refl still in
    ap (λ y. let l = life_by_changes e (record { ended = []; state = y; since = None }) ms in l.ended ++ stretch_of l None) absent
    ∙ ap (λ xs. let l = life_by_changes e idle xs in l.ended ++ stretch_of l None) (sym (take_all (length ms) ms (omega arith)))
    ∙ ap (λ (l : LifeSoFar). l.ended ++ stretch_of l None) (sym stays)

-- ---- a life by the course of a station is the life of the entity

start_is : (r : PlainRecording) (s e : ℕ) (c : StationChanges) → is_entity e ≡ true → IsCourse r s c → slice_index_or c.starts.items e Absent ≡ state_before r s e 0
unfolding entity_state
start_is r s e c entity course =
    course.starts e ∙ sym (state_is r s e 0 entity ∙ ap (λ log. entity_state r.setting.exercise (station_at r s) log e) (log_before-none r s))

pub lives_in_are : (r : PlainRecording) (s e : ℕ) (c : StationChanges) → is_entity e ≡ true → IsCourse r s c → course_stretches c e ≡ lives_of r s e
lives_in_are r s e c entity course =
    lives_are r s e [] (course_stretches c e) (slice_index_or c.starts.items e Absent) (course_life c e) c.changes.now entity refl
    (start_is r s e c entity course) course.changes refl refl

-- ---- as many changes as there are entries at most

one_made : (n : ℕ) (c : Option Change) → length (option_to_list (option_map (made_of n) c)) ≤ 1
one_made n None = omega arith
one_made n (Some c) = omega arith

few_made : (r : PlainRecording) (s n : ℕ) → length (lists_below (made_at r s) n) ≤ n
unfolding lists_below made_at
few_made r s zero = omega arith
few_made r s (suc n) =
    omega (arith, few_made r s n, one_made n (own_change r s n), length-append (lists_below (made_at r s) n) (made_at r s n))

pub few_changes : (r : PlainRecording) (s : ℕ) (ms : List Made) → IsRecording r → ms ≡ changes_made r s → length ms < 4294967296
unfolding changes_made
few_changes r s ms limits are = omega (arith, limits.count, few_made r s (length r.entries), ap length are)

-- ---- the changes of one of all stations

pub changes_here : (r : PlainRecording) (all : List (Vec Made Global)) (s : ℕ) (ms : Vec Made Global) → AreChanges r (length r.entries) all → s < length all
    → ms ≡ get_or all s ms → ms.items ≡ changes_made r s
unfolding changes_made
changes_here r all s ms are within value =
    subst (λ o. IfSome o (λ x. x.items ≡ lists_below (made_at r s) (length r.entries))) (slice_get_read all (length all) s ms refl within value) (are.each s)
