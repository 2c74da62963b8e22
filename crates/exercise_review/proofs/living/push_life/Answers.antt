use Rattle.std.proofs.Common.{ℕ, ◌+◌, map, take, refl, sym, append-nil, subst, arith}
use Rattle.std.proofs.lemmas.List.{take_all}
use Rattle.exercise_review.specs.Span.{life_by_changes}
use Rattle.exercise_review.specs.Course.{is_of, start_in, course_stretches}
use Rattle.exercise_review.specs.Stay.{stay_of}
use Rattle.exercise_review.proofs.Courses.{next_later}
use Rattle.exercise_review.proofs.Staying.{AreKept, kept_on, kept_over, kept_whole, next_lived, next_fits, adds_same, over}
use Rattle.exercise_review.proofs.living.push_life.Goals as goal

pub loop-place-init : goal.loop-place-init
loop-place-init c =
    let ms = c.args.course.now.changes.now in
    let own = c.first_own-own.ensures in
    let stay = c.stay_end-place.ensures in
    let old = c.args.stays.now.items in
    let l = start_in c.args.course.now c.args.entity in
    record {
      within = omega (arith, stay.to, own.within);
      own = next_later (is_of c.args.entity) ms 0 c.first_own-own.result c.stay_end-place.result (omega arith) stay.to own;
      kept = kept_over c.args.station c.args.entity old old l l c.start_stay-stay.result ms 0 c.stay_end-place.result
          (record { kept = sym (append-nil old); now = c.start_stay-stay.ensures }) refl (omega arith) (omega (arith, stay.to, own.within)) stay.still;
      room = c.requires.room;
    }

pub loop-place-preserved : goal.loop-place-preserved
loop-place-preserved c =
    let ms = c.args.course.now.changes.now in
    let s : ℕ = c.args.station in
    let e : ℕ = c.args.entity in
    let old = c.args.stays.now.items in
    let own = c.next_own_after-own.ensures in
    let stay = c.stay_end-place-in-loop-place.ensures in
    let k : ℕ = c.loop-place.place in
    let l = start_in c.args.course.now e in
    let before = c.loop-place.invariant.kept in
    let y = c.changed-state.result in
    let lived = next_lived s e old c.loop-place.stays.items l c.loop-place.stay ms k _ y before c.loop-place-test.true c.changed-state.ensures in
    let kept =
    kept_on s e _ old c.loop-place.stays.items c.stay_on.new.stays.items (life_by_changes e l (take k ms)) c.loop-place.stay c.stay_on.new.stay y before
    c.in_ok-stay_on.ensures.added.0 c.in_ok-stay_on.ensures.stay in
    record {
      within = omega (arith, stay.to, own.within);
      own = next_later (is_of e) ms _ c.next_own_after-own.result c.stay_end-place-in-loop-place.result stay.from stay.to own;
      kept = kept_over s e old c.stay_on.new.stays.items l _ c.stay_on.new.stay ms (k + 1) c.stay_end-place-in-loop-place.result kept lived stay.from
          (omega (arith, stay.to, own.within)) stay.still;
      room = c.in_ok-stay_on.ensures.added.1;
    }

pub loop-place-smaller : goal.loop-place-smaller
loop-place-smaller c = omega (arith, c.stay_end-place-in-loop-place.ensures.from, c.loop-place-test.true)

pub returns-in_err-stay_on : goal.returns-in_err-stay_on
returns-in_err-stay_on c =
    let ms = c.args.course.now.changes.now in
    let s : ℕ = c.args.station in
    let e : ℕ = c.args.entity in
    let old = c.args.stays.now.items in
    let k : ℕ = c.loop-place.place in
    let l = start_in c.args.course.now e in
    let before = c.loop-place.invariant.kept in
    let lived =
    next_lived s e old c.loop-place.stays.items l c.loop-place.stay ms k _ c.changed-state.result before c.loop-place-test.true c.changed-state.ensures in
    over old c.loop-place.stays.items (map (stay_of s e) (course_stretches c.args.course.now e)) _ c.stay_on.new.stays.items c.stay_on.new.stays.items c.args.most
    c.in_err-stay_on.field-0.0 c.from_residual.result c.from_residual.ensures.1
    (next_fits s e _ k old c.loop-place.stays.items l (life_by_changes e l (take k ms)) c.loop-place.stay ms c.changed-state.result before lived)
    c.in_err-stay_on.ensures.added

pub returns : goal.returns
returns c =
    let ms = c.args.course.now.changes.now in
    let s : ℕ = c.args.station in
    let e : ℕ = c.args.entity in
    let old = c.args.stays.now.items in
    let part = c.loop-place.stays.items in
    let l = start_in c.args.course.now e in
    let all = take_all c.loop-place.place ms (omega (arith, c.loop-place-test.false)) in
    let whole : AreKept s e old (life_by_changes e l ms) part c.loop-place.stay =
    subst (λ xs. AreKept s e old (life_by_changes e l xs) part c.loop-place.stay) all c.loop-place.invariant.kept in
    adds_same old part (map (stay_of s e) (course_stretches c.args.course.now e)) _ c.end_stay.new.stays.items c.args.most c.end_stay.result
    (kept_whole s e old part (life_by_changes e l ms) c.loop-place.stay whole) c.end_stay.ensures
