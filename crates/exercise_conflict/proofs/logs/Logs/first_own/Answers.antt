use Rattle.std.proofs.Common.{◌≡◌, ◌+◌, sym, ap, ◌∙◌, arith}
use Rattle.exercise_model.specs.Place.{first_below}
use Rattle.exercise_conflict.proofs.Steps.{first_none, first_still, first_here}
use Rattle.exercise_conflict.proofs.Owning.{none_skipped}
use Rattle.exercise_conflict.proofs.logs.Logs.first_own.Goals as goal

pub loop-next-init : goal.loop-next-init
loop-next-init g c = record {
  within = c.first-next.ensures.within;
  none = none_skipped c.args.self.now c.args.station (g.Q.NumberTest.test c.args.question.now) 0 c.first-next.result c.requires.own c.first-next.ensures.first
      (first_none (g.Q.NumberTest.test c.args.question.now));
}

pub returns-then-passes : goal.returns-then-passes
returns-then-passes g c =
    sym (first_here (g.Q.NumberTest.test c.args.question.now) c.loop-next.next c.args.end c.loop-next.invariant.none (sym c.passes.ensures ∙ c.if-passes.true)
    c.loop-next-test.true)

pub loop-next-preserved : goal.loop-next-preserved
loop-next-preserved g c = record {
  within = c.follower-next.ensures.within;
  none = none_skipped c.args.self.now c.args.station (g.Q.NumberTest.test c.args.question.now) (c.loop-next.next + 1) c.follower-next.result c.requires.own
      c.follower-next.ensures.follows
      (first_still (g.Q.NumberTest.test c.args.question.now) c.loop-next.next c.loop-next.invariant.none (sym c.passes.ensures ∙ c.if-passes.false));
}

pub loop-next-smaller : goal.loop-next-smaller
loop-next-smaller g c = omega (arith, c.follower-next.ensures.follows.on, c.follower-next.ensures.within, c.loop-next-test.true)

pub returns : goal.returns
returns g c =
    let end : c.loop-next.next ≡ c.args.end = omega (arith, c.loop-next-test.false, c.loop-next.invariant.within) in
    sym (ap (first_below (g.Q.NumberTest.test c.args.question.now)) (sym end) ∙ c.loop-next.invariant.none)
