use Rattle.std.proofs.Common.{◌≡◌, ◌++◌, string_bytes, append_assoc}
use Rattle.exercise_chart.specs.Heading.{size_text, print_text, opening_text}
use Rattle.exercise_chart.proofs.Behind.{behind}
use Rattle.exercise_chart.proofs.heading.put_opening.Goals as goal

pub returns : goal.returns
unfolding opening_text
returns c =
    let first : string_bytes c.write.new.self ≡ string_bytes c.args.text.now ++ size_text c.args.frame.now =
    simp append_assoc (rw (c.width-width.ensures, c.height-height.ensures) at c.in_ok-write.ensures.bytes) in
    let second : string_bytes c.write-2.new.self ≡ string_bytes c.write.new.self ++ print_text c.args.frame.now =
    simp append_assoc (rw c.sheets_of-sheets.ensures.sheets at c.in_ok-write-2.ensures.bytes) in
    behind _ _ _ (size_text c.args.frame.now) (print_text c.args.frame.now) first second
