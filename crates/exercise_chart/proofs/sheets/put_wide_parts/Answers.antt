use Rattle.std.proofs.Common.{ℕ, ◌-◌}
use Rattle.exercise_chart.specs.declared.sheets.TheConstants.{SHEET, ACROSS}
use Rattle.exercise_chart.specs.Frame.{FrameData, rows_x}
use Rattle.exercise_chart.specs.Sheets.{sheet_x, sheet_width, part_text}
use Rattle.exercise_chart.proofs.Behind.{behind}
use Rattle.exercise_chart.proofs.sheets.put_wide_parts.Goals as goal

pub returns : goal.returns
returns c =
    let f : FrameData = c.args.frame.now in
    let t : ℕ = c.args.number in
    behind _ _ _ (part_text 0 (sheet_x t) (sheet_width f t) c.args.block) (part_text ACROSS (rows_x f - 8) (SHEET - ACROSS) c.args.block)
    (rw (c.sheet_x.ensures.x, c.sheet_width-width.ensures) at c.in_ok-put_part.ensures) (rw c.rows_x.ensures.x at c.in_ok-put_part-2.ensures)
