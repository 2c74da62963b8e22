use Rattle.exercise_chart.proofs.Steps.{taken_none, taken_more}
use Rattle.exercise_chart.proofs.taken.steps_taken.Goals as goal

pub loop-number-init : goal.loop-number-init
loop-number-init c = taken_none c.args.steps.now c.args.entries c.in_ok-taken.taken.items c.in_ok-taken.ensures.count c.in_ok-taken.ensures.each

pub loop-number-preserved : goal.loop-number-preserved
loop-number-preserved c =
    taken_more c.args.steps.now c.loop-number.number c.args.entries c.loop-number.taken.items c.note_step.new.taken.items _ c.loop-number-test.true
    c.note_step.ensures.count c.note_step.ensures.each c.loop-number.invariant
