use Rattle.std.proofs.Common.{◌<◌, sym, ◌∙◌, arith}
use Rattle.exercise_conflict.proofs.Backs.{begins, arrives, falls, stops, goes_on, ends}
use Rattle.exercise_conflict.proofs.cycles.push_waiting_path.Goals as goal

pub loop-step-init : goal.loop-step-init
loop-step-init c = begins c.args.waits.now c.args.station c.args.from c.args.way.now.items

pub returns-then-at-station : goal.returns-then-at-station
returns-then-at-station c =
    arrives c.args.waits.now c.args.station c.args.from c.args.way.now.items c.loop-step.way.items c.loop-step.at c.loop-step._step c.loop-step.invariant
    c.loop-step-test.true c.if-at-station.true

pub returns-then-at-station-2 : goal.returns-then-at-station-2
returns-then-at-station-2 c =
    falls c.args.waits.now c.args.station c.args.from c.args.way.now.items c.loop-step.way.items c.loop-step.at c.loop-step._step c.loop-step.invariant
    c.loop-step-test.true c.if-at-station-2.true

pub returns-in-None : goal.returns-in-None
returns-in-None c =
    let above : c.args.station < c.loop-step.at = omega (arith, c.if-at-station.false, c.if-at-station-2.false) in
    stops c.args.waits.now c.args.station c.args.from c.args.way.now.items c.loop-step.way.items c.loop-step.at c.loop-step._step c.loop-step.invariant
    c.loop-step-test.true above (sym c.wait_at.ensures ∙ c.in-None.is)

pub loop-step-preserved : goal.loop-step-preserved
loop-step-preserved c =
    let above : c.args.station < c.loop-step.at = omega (arith, c.if-at-station.false, c.if-at-station-2.false) in
    goes_on c.args.waits.now c.args.station c.args.from c.args.way.now.items c.loop-step.way.items c.push.new.self.items c.loop-step.at c.loop-step._step
    c.in-Some.wait c.loop-step.invariant c.loop-step-test.true above (sym c.wait_at.ensures ∙ c.in-Some.is) c.in_ok-push-in-Some.ensures.items

pub returns : goal.returns
returns c =
    ends c.args.waits.now c.args.station c.args.from c.args.way.now.items c.loop-step.way.items c.loop-step.at c.loop-step._step c.loop-step.invariant
    (omega (arith, c.loop-step-test.false, c.loop-step.auto._step-end))
