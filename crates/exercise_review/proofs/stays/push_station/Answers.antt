use Rattle.std.proofs.Common.{◌≡◌, ℕ, ◌+◌, ◌-◌, ◌<◌, ◌≤◌, [], ◌++◌, map, sym, ap, ◌∙◌, subst, arith}
use Rattle.std.specs.Prelude.{Err}
use Rattle.exercise_model.specs.declared.station.TheConstants.{LARGEST_ENTITY}
use Rattle.exercise_model.specs.Recording.{PlainRecording}
use Rattle.exercise_review.specs.Room.{lists_below, AddsWithin}
use Rattle.exercise_review.specs.Stay.{stay_of, stays_of_next, stays_of}
use Rattle.exercise_review.proofs.Courses.{lives_in_are}
use Rattle.exercise_review.proofs.Unused.{entity_from, lists_still, no_stays}
use Rattle.exercise_review.proofs.Lists.{room_begins, room_goes_on, room_ends}
use Rattle.exercise_review.proofs.stays.push_station.Goals as goal

pub loop-below-init : goal.loop-below-init
loop-below-init g c = record { added = room_begins c.args.stays.now.items (stays_of_next c.args.findings.now c.args.station); room = c.requires.room }

pub returns-in_err-push_entity : goal.returns-in_err-push_entity
unfolding stays_of
returns-in_err-push_entity g c =
    let r : PlainRecording = c.args.findings.now in
    let s : ℕ = c.args.station in
    let k : ℕ = c.loop-below.below in
    let most : k + 1 ≤ 65533 = omega (arith, c.loop-below-test.true, c.last_entity_alive-below-end.ensures.within) in
    let same = ap (map (stay_of s (k + 1))) (lives_in_are r s (k + 1) c.in_ok-course.course (entity_from k most) c.in_ok-course.ensures) in
    room_ends c.args.stays.now.items c.loop-below.stays.items c.push_entity.new.stays.items c.push_entity.new.stays.items
    (stays_of_next r s) k LARGEST_ENTITY c.args.most c.in_err-push_entity.field-0.0
    c.from_residual-in_err-push_entity.result c.from_residual-in_err-push_entity.ensures.1
    (omega (arith, most)) c.loop-below.invariant.added
    (subst (λ xs. AddsWithin c.args.most c.loop-below.stays.items xs (Err c.in_err-push_entity.field-0.0) c.push_entity.new.stays.items) same c.in_err-push_entity.ensures)

pub loop-below-preserved : goal.loop-below-preserved
loop-below-preserved g c =
    let r : PlainRecording = c.args.findings.now in
    let s : ℕ = c.args.station in
    let k : ℕ = c.loop-below.below in
    let most : k + 1 ≤ 65533 = omega (arith, c.loop-below-test.true, c.last_entity_alive-below-end.ensures.within) in
    let same = ap (map (stay_of s (k + 1))) (lives_in_are r s (k + 1) c.in_ok-course.course (entity_from k most) c.in_ok-course.ensures) in
    record {
      added = room_goes_on c.args.stays.now.items c.loop-below.stays.items c.push_entity.new.stays.items (stays_of_next r s) k
          c.loop-below.invariant.added (c.in_ok-push_entity.ensures.0 ∙ ap (λ xs. c.loop-below.stays.items ++ xs) same);
      room = c.in_ok-push_entity.ensures.1;
    }

pub returns : goal.returns
unfolding stays_of
returns g c =
    let r : PlainRecording = c.args.findings.now in
    let s : ℕ = c.args.station in
    let n : ℕ = c.loop-below.below in
    let d : ℕ = 65533 - n in
    let most = c.last_entity_alive-below-end.ensures.within in
    let end : n ≡ c.last_entity_alive-below-end.result = omega (arith, c.loop-below-test.false, c.loop-below.auto.below-end) in
    let all : n + d ≡ 65533 = omega (arith, end, most) in
    let none : (k : ℕ) → n ≤ k → k < n + d → stays_of_next r s k ≡ [] = λ k l m.
    no_stays r s (k + 1) c.in_ok-course.course (entity_from k (omega (arith, m, all))) c.in_ok-course.ensures
    (c.last_entity_alive-below-end.ensures.none (k + 1) (omega (arith, l, end)) (omega (arith, m, all))) in (
      c.loop-below.invariant.added
          ∙ ap (λ xs. c.args.stays.now.items ++ xs) (sym (lists_still (stays_of_next r s) n d none) ∙ ap (lists_below (stays_of_next r s)) all),
      c.loop-below.invariant.room,
    )
