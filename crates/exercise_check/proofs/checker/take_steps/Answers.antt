use Rattle.std.proofs.Common.{◌≡◌, take, slice_index_or, Some, inr, sym}
use Rattle.exercise_check.specs.Goodness.{cause_at, no_step}
use Rattle.exercise_check.proofs.Causes.{never_count}
use Rattle.exercise_check.proofs.checker.take_steps.Goals as goal

pub returns-in-Some-clause-bad : goal.returns-in-Some-clause-bad
returns-in-Some-clause-bad g c =
    let r = c.args.found.now in
    let steps = c.args.steps.now in
    let i = c.loop-i.i in
    let here : cause_at r steps i ≡ Some c.in-Some.cause = sym (rw c.loop-i.invariant.findings at (rw c.in-Some.is at c.take_step.ensures.cause)) in
    inr (record {
      count = c.requires.count;
      within = c.loop-i-test.true;
      good = c.loop-i.invariant.good;
      here = here;
      other = never_count r (take i steps) (slice_index_or steps i no_step) c.in-Some.cause here;
    })
