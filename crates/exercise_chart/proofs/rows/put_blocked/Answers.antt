-- The parts of a blocked row, each where the frame has it.
use Rattle.std.proofs.Common.{ℕ, ◌+◌, List, [], ◌∷◌, ◌++◌, codes}
use Rattle.exercise_model.specs.Recording.{PlainRecording}
use Rattle.exercise_model.specs.Numbers.{cause_number}
use Rattle.exercise_chart.specs.declared.blocked.BlockedRow.{BlockedRow}
use Rattle.exercise_chart.specs.Element.{begun_words, number, word}
use Rattle.exercise_chart.specs.Frame.{FrameData, words_x, rows_shown, blocked_y}
use Rattle.exercise_chart.specs.Rows.{block_begin, rule_text, row_clock_text, row_words, cause_words}
use Rattle.exercise_chart.proofs.Behind.{behind}
use Rattle.exercise_chart.proofs.rows.put_blocked.Goals as goal

place_text : FrameData → (n : ℕ) → BlockedRow → List ℕ
place_text f n b =
    begun_words (number (codes "x") (words_x f) ∷ number (codes "y") (blocked_y f n + 4) ∷ word (codes "fill") (codes "#dc2626")
    ∷ word (codes "class") (codes "blocked") ∷ number (codes "data-entry") b.row.at.entry ∷ number (codes "data-cause") (cause_number b.cause) ∷ [])

pub returns : goal.returns
unfolding place_text
returns g c =
    let r : PlainRecording = g.L.ExerciseLog.recording c.args.log.now in
    let f : FrameData = c.args.frame.now in
    let b : BlockedRow = c.args.blocked.now in
    let n : ℕ = c.args.number in
    let y : ℕ = blocked_y f n in
    let start = rw c.rows_shown.ensures.count at c.in_ok-begin_block.ensures in
    let rule = rw c.blocked_y-y.ensures.y at c.in_ok-put_rule.ensures in
    let clock = rw c.blocked_y-y.ensures.y at c.in_ok-put_row_clock.ensures in
    let begun = rw (c.words_x.ensures.x, c.blocked_y-y.ensures.y, c.from.ensures, c.number.ensures) at c.in_ok-begin_words.ensures in
    let zero : List ℕ = block_begin (rows_shown f + n) in
    let one : List ℕ = zero ++ rule_text f y in
    let two : List ℕ = one ++ row_clock_text f (y + 4) b.row in
    let three : List ℕ = two ++ place_text f n b in
    let four : List ℕ = three ++ row_words r b.row in
    behind _ _ _ (four ++ cause_words b.cause) (codes "</text>\n")
    (behind _ _ _ four (cause_words b.cause)
    (behind _ _ _ three (row_words r b.row)
    (behind _ _ _ two (place_text f n b) (behind _ _ _ one (row_clock_text f (y + 4) b.row) (behind _ _ _ zero (rule_text f y) start rule) clock) begun)
    c.in_ok-put_row_words.ensures)
    c.in_ok-put_cause.ensures)
    c.in_ok-push_str.ensures.bytes
