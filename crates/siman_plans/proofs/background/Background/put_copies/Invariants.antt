-- With the rows of what is left, those so far are the rows of all.
use Rattle.std.proofs.Common.{◌≡◌, ◌++◌, length, string_bytes}
use Rattle.siman_print.specs.Spelled.{lines_spelled}
use Rattle.siman_plans.specs.ClosingLines.{copies_of}
use Rattle.siman_plans.proofs.background.Background.put_copies.Given as goal

abbrev pub invariant-loop-others : goal.invariant-loop-others
invariant-loop-others l =
    string_bytes l.text ++ lines_spelled l.spelling (copies_of l.self l.copied.0 l.copied.1 l.others) ≡ string_bytes l.initial.text ++ lines_spelled l.spelling (copies_of l.self l.copied.0 l.copied.1 l.receipts)

abbrev pub decreases-loop-others : goal.decreases-loop-others
decreases-loop-others l = length l.others
