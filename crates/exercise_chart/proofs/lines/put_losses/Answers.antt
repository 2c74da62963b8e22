use Rattle.exercise_chart.specs.Lines.{loss_text, losses_text}
use Rattle.exercise_chart.proofs.Behind.{all_between}
use Rattle.exercise_chart.proofs.lines.put_losses.Goals as goal

pub returns : goal.returns
unfolding losses_text
returns g c =
    all_between (loss_text c.args.frame.now (g.L.ExerciseLog.recording c.args.log.now)) c.args.losses.now c.loop-loss.loss-index _ _ _ _ _ _ c.loop-loss-test.false c.in_ok-push_str.ensures.bytes c.loop-loss.invariant
    c.in_ok-push_str-2.ensures.bytes
