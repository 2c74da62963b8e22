-- The parts of a row, each where the frame has it.
use Rattle.std.proofs.Common.{ℕ, ◌+◌, ◌-◌, List, [], ◌∷◌, ◌++◌, codes}
use Rattle.exercise_model.specs.Recording.{PlainRecording}
use Rattle.exercise_chart.specs.declared.row.Row.{Row}
use Rattle.exercise_chart.specs.Element.{begun_words, number, word}
use Rattle.exercise_chart.specs.Frame.{FrameData, words_x, step_y}
use Rattle.exercise_chart.specs.Rows.{block_begin, rule_text, step_text, row_clock_text, row_words}
use Rattle.exercise_chart.proofs.Behind.{behind}
use Rattle.exercise_chart.proofs.rows.put_row.Goals as goal

place_text : FrameData → Row → List ℕ
place_text f row =
    begun_words (number (codes "x") (words_x f) ∷ number (codes "y") (step_y f row.at.step + 4) ∷ word (codes "class") (codes "row")
    ∷ number (codes "data-step") row.at.step ∷ number (codes "data-entry") row.at.entry ∷ [])

pub returns : goal.returns
unfolding place_text
returns g c =
    let r : PlainRecording = g.L.ExerciseLog.recording c.args.log.now in
    let f : FrameData = c.args.frame.now in
    let row : Row = c.args.row.now in
    let y : ℕ = step_y f row.at.step in
    let rule = rw c.step_y-y.ensures.y at c.in_ok-put_rule.ensures in
    let step = rw c.step_y-y.ensures.y at c.in_ok-put_step.ensures in
    let clock = rw c.step_y-y.ensures.y at c.in_ok-put_row_clock.ensures in
    let begun = rw (c.words_x.ensures.x, c.step_y-y.ensures.y) at c.in_ok-begin_words.ensures in
    let zero : List ℕ = block_begin (row.at.step - f.rows.first) in
    let one : List ℕ = zero ++ rule_text f y in
    let two : List ℕ = one ++ step_text f (y + 4) row.at.step in
    let three : List ℕ = two ++ row_clock_text f (y + 4) row in
    let four : List ℕ = three ++ place_text f row in
    behind _ _ _ (four ++ row_words r row) (codes "</text>\n")
    (behind _ _ _ four (row_words r row)
    (behind _ _ _ three (place_text f row)
    (behind _ _ _ two (row_clock_text f (y + 4) row) (behind _ _ _ one (step_text f (y + 4) row.at.step) (behind _ _ _ zero (rule_text f y) (rw c.row_number.ensures at c.in_ok-begin_block.ensures) rule) step) clock)
    begun)
    c.in_ok-put_row_words.ensures)
    c.in_ok-push_str.ensures.bytes
