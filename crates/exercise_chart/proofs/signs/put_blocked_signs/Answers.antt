use Rattle.exercise_chart.specs.Signs.{blocked_sign_text}
use Rattle.exercise_chart.proofs.Below.{texts_begin, item_next}
use Rattle.exercise_chart.proofs.signs.put_blocked_signs.Goals as goal

pub loop-number-init : goal.loop-number-init
loop-number-init c = texts_begin _ _

pub loop-number-preserved : goal.loop-number-preserved
loop-number-preserved c =
    item_next (blocked_sign_text c.args.frame.now) c.args.blocked.now c.loop-number.number _ _ _ _ c.loop-number-test.true c.loop-number.invariant
    c.in_ok-put_blocked_sign.ensures
