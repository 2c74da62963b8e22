-- Numbers of entities past which there is nothing to tell.
use Rattle.std.proofs.Common.{◌≡◌, ℕ, zero, suc, ◌+◌, ◌<◌, ◌≤◌, List, [], ◌++◌, length, true, false, sym, ap, ◌∙◌, arith}
use Rattle.std.specs.Prelude.{map, slice_index_or}
use Rattle.std.proofs.lemmas.Bool.{le-leb, and_from}
use Rattle.std.proofs.lemmas.List.{append-nil}
use Rattle.dis_records.specs.declared.entity_state.EntityState.TheVariants.{Absent}
use Rattle.exercise_model.specs.Station.{is_entity}
use Rattle.exercise_model.specs.Recording.{PlainRecording}
use Rattle.exercise_review.specs.declared.course.StationChanges.{StationChanges}
use Rattle.exercise_review.specs.Course.{change_in, is_of, is_change_of_all_in, IsNextIn, IsCourse, course_stretches}
use Rattle.exercise_review.specs.Room.{lists_below}
use Rattle.exercise_review.specs.Stay.{stay_of, entity_stays}
use Rattle.exercise_review.proofs.Courses.{none_lived, still_up_to, lives_in_are}
use Rattle.exercise_review.proofs.Lists.{lists_more}

-- where no change is its own, and none of all brings what is Absent to life, an entity that the station does not open with has no life
pub none_living : (c : StationChanges) (e all : ℕ) → slice_index_or c.starts.items e Absent ≡ Absent
    → ((i : ℕ) → i < length c.changes.now → is_of e (change_in c.changes.now i) ≡ false)
    → IsNextIn (is_change_of_all_in Absent) c.changes.now 0 all → length c.changes.now ≤ all → course_stretches c e ≡ []
none_living c e all absent none next far =
    let ms = c.changes.now in
    let own : IsNextIn (is_of e) ms 0 (length ms) = record {
      from = omega arith;
      within = omega arith;
      none = λ i l m. none i m;
      passes = λ l. absurd (let no : ⊥ = omega (arith, l) in no);
    } in
    none_lived c e absent (still_up_to e Absent ms 0 (length ms) all (length ms) own next (omega arith) far)

-- a number up to the largest that an entity has, from 1 on
pub entity_from : (k : ℕ) → k + 1 ≤ 65533 → is_entity (k + 1) ≡ true
entity_from k most = and_from _ _ (le-leb 1 (k + 1) (omega arith)) (le-leb (k + 1) 65533 most)

-- ---- the stays that are left out are none

pub lists_still : {X : Type 0} (f : ℕ → List X) (a d : ℕ) → ((k : ℕ) → a ≤ k → k < a + d → f k ≡ []) → lists_below f (a + d) ≡ lists_below f a
lists_still f a zero none = ap (lists_below f) (let same : a + zero ≡ a = omega arith in same)
lists_still f a (suc d) none =
    ap (lists_below f) (let on : a + suc d ≡ a + d + 1 = omega arith in on)
    ∙ lists_more f (a + d)
    ∙ ap (λ xs. lists_below f (a + d) ++ xs) (none (a + d) (omega arith) (omega arith))
    ∙ append-nil (lists_below f (a + d))
    ∙ lists_still f a d (λ k l m. none k l (omega (arith, m)))

pub no_stays : (r : PlainRecording) (s e : ℕ) (c : StationChanges) → is_entity e ≡ true → IsCourse r s c → course_stretches c e ≡ [] → entity_stays r s e ≡ []
no_stays r s e c entity course none = ap (map (stay_of s e)) (sym (lives_in_are r s e c entity course) ∙ none)
