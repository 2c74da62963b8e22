use Rattle.std.proofs.Common.{◌≡◌, ◌++◌, ap, ◌∙◌, string_bytes, arith}
use Rattle.siman_print.specs.Below.{texts_below}
use Rattle.exercise_chart.specs.Columns.{names_above, names_text}
use Rattle.exercise_chart.specs.Frame.{blocks_of}
use Rattle.exercise_chart.proofs.Below.{texts_begin, texts_next}
use Rattle.exercise_chart.proofs.columns.put_names.Goals as goal

pub loop-block-init : goal.loop-block-init
loop-block-init g c = texts_begin _ _

pub loop-block-preserved : goal.loop-block-preserved
loop-block-preserved g c =
    texts_next (names_above c.args.frame.now (g.L.ExerciseLog.recording c.args.log.now)) c.loop-block.block _ _ _ c.loop-block.invariant c.in_ok-put_names_above.ensures

pub returns : goal.returns
unfolding names_text
returns g c =
    let all : c.loop-block.block ≡ blocks_of c.args.frame.now = omega (arith, c.blocks-block-end.ensures) in
    c.loop-block.invariant ∙ ap (λ n. string_bytes c.args.text.now ++ texts_below (names_above c.args.frame.now (g.L.ExerciseLog.recording c.args.log.now)) n) all
