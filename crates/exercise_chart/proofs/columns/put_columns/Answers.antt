use Rattle.std.proofs.Common.{ap, arith}
use Rattle.exercise_chart.specs.Columns.{column_text, columns_text}
use Rattle.exercise_chart.specs.Frame.{FrameData}
use Rattle.exercise_chart.proofs.Behind.{below_between}
use Rattle.exercise_chart.proofs.Below.{texts_begin, texts_next}
use Rattle.exercise_chart.proofs.columns.put_columns.Goals as goal

pub loop-column-init : goal.loop-column-init
loop-column-init c = texts_begin _ _

pub loop-column-preserved : goal.loop-column-preserved
loop-column-preserved c = texts_next (column_text c.args.frame.now) c.loop-column.column _ _ _ c.loop-column.invariant c.in_ok-put_column.ensures

pub returns : goal.returns
unfolding columns_text
returns c =
    below_between (column_text c.args.frame.now) c.loop-column.column c.args.frame.now.kept _ _ _ _ _ _ (omega (arith, ap (λ (f : FrameData). f.kept) c.frame.view_is)) c.in_ok-push_str.ensures.bytes
    c.loop-column.invariant c.in_ok-push_str-2.ensures.bytes
