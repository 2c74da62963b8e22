use Rattle.exercise_chart.specs.Rows.{blocked_text}
use Rattle.exercise_chart.proofs.Below.{texts_begin, item_next}
use Rattle.exercise_chart.proofs.rows.put_blocked_rows.Goals as goal

pub loop-number-init : goal.loop-number-init
loop-number-init g c = texts_begin _ _

pub loop-number-preserved : goal.loop-number-preserved
loop-number-preserved g c =
    item_next (blocked_text c.args.frame.now (g.L.ExerciseLog.recording c.args.log.now)) c.args.blocked.now c.loop-number.number _ _ _ _ c.loop-number-test.true
    c.loop-number.invariant c.in_ok-put_blocked.ensures
