use Rattle.std.proofs.Common.{◌+◌, ◌<◌, length, arith}
use Rattle.exercise_review.proofs.course.last_opening.Goals as goal

pub returns : goal.returns
returns c = λ i l.
    let end : length c.args.opening.now < c.loop-place.place + 1 = omega (arith, c.loop-place-test.false) in
    c.loop-place.invariant i (omega (arith, l, end))
