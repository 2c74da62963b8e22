-- The rows of the lines so far.
use Rattle.std.proofs.Common.{◌≡◌, ◌++◌, take, string_bytes}
use Rattle.siman_print.specs.Spelled.{lines_spelled}
use Rattle.siman_plans.specs.ClosingLines.{all_move_rows}
use Rattle.siman_plans.proofs.background.Background.put_moves.Given as goal

abbrev pub invariant-loop-line : goal.invariant-loop-line
invariant-loop-line l = string_bytes l.text ≡ string_bytes l.initial.text ++ lines_spelled l.spelling (all_move_rows l.self (take l.line-index l.planned))
