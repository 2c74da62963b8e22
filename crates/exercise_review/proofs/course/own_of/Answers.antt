use Rattle.std.proofs.Common.{◌-◌, ◌+◌, ◌≡◌, length, subst, arith}
use Rattle.exercise_review.specs.Course.{AreOwn}
use Rattle.exercise_review.proofs.course.own_of.Goals as goal

pub loop-done-init : goal.loop-done-init
loop-done-init c =
    let start : length c.args.changes.now ≡ length c.args.changes.now - 0 = omega arith in
    subst (λ a. AreOwn c.args.changes.now c.args.last a c.in_ok-own.own) start c.in_ok-own.ensures

pub note_own-requires-clause-behind : goal.note_own-requires-clause-behind
note_own-requires-clause-behind c =
    let on : length c.args.changes.now - c.loop-done.done ≡ length c.args.changes.now - 1 - c.loop-done.done + 1 = omega (arith, c.loop-done-test.true) in
    subst (λ a. AreOwn c.args.changes.now c.args.last a c.loop-done.own) on c.loop-done.invariant

pub loop-done-preserved : goal.loop-done-preserved
loop-done-preserved c =
    let here : length c.args.changes.now - 1 - c.loop-done.done ≡ length c.args.changes.now - (c.loop-done.done + 1) = omega (arith, c.loop-done-test.true) in
    subst (λ a. AreOwn c.args.changes.now c.args.last a c.note_own.new.own) here c.note_own.ensures

pub returns : goal.returns
returns c =
    let end : length c.args.changes.now - c.loop-done.done ≡ 0 = omega (arith, c.loop-done-test.false) in
    subst (λ a. AreOwn c.args.changes.now c.args.last a c.loop-done.own) end c.loop-done.invariant
