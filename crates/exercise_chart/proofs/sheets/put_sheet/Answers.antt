use Rattle.std.proofs.Common.{ℕ, ◌++◌, ◌/◌, ◌%◌, codes}
use Rattle.exercise_chart.specs.Frame.{FrameData}
use Rattle.exercise_chart.specs.Sheets.{sheets_across, sheet_begin, parts_text, sheet_text}
use Rattle.exercise_chart.proofs.Behind.{behind}
use Rattle.exercise_chart.proofs.sheets.put_sheet.Goals as goal

pub returns : goal.returns
unfolding sheet_text
returns c =
    let f : FrameData = c.args.frame.now in
    let n : ℕ = c.args.number in
    let parts = rw c.sheets_across-across.ensures.across at c.in_ok-put_parts.ensures in
    behind _ _ _ (sheet_begin n ++ parts_text f (n % sheets_across f) (n / sheets_across f)) (codes "</svg>\n")
    (behind _ _ _ (sheet_begin n) (parts_text f (n % sheets_across f) (n / sheets_across f)) c.in_ok-begin_sheet.ensures parts)
    c.in_ok-push_str.ensures.bytes
