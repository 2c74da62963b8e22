use Rattle.std.proofs.Common.{◌≡◌, arith}
use Rattle.exercise_chart.specs.Sheets.{sheets_of, sheet_text, sheets_text}
use Rattle.exercise_chart.proofs.Behind.{below_between}
use Rattle.exercise_chart.proofs.Below.{texts_begin, texts_next}
use Rattle.exercise_chart.proofs.sheets.put_sheets.Goals as goal

pub loop-number-init : goal.loop-number-init
loop-number-init c = texts_begin _ _

pub loop-number-preserved : goal.loop-number-preserved
loop-number-preserved c = texts_next (sheet_text c.args.frame.now) c.loop-number.number _ _ _ c.loop-number.invariant c.in_ok-put_sheet.ensures

pub returns : goal.returns
unfolding sheets_text
returns c =
    let all : c.loop-number.number ≡ sheets_of c.args.frame.now = omega (arith, c.sheets_of-number-end.ensures.sheets) in
    below_between (sheet_text c.args.frame.now) c.loop-number.number (sheets_of c.args.frame.now) _ _ _ _ _ _ all c.in_ok-push_str.ensures.bytes
    c.loop-number.invariant c.in_ok-push_str-2.ensures.bytes
