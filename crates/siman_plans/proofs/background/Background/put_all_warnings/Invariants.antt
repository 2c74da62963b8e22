-- The rows of the lines so far.
use Rattle.std.proofs.Common.{◌≡◌, ◌++◌, take, string_bytes}
use Rattle.std.specs.List.{flat_map}
use Rattle.siman_print.specs.Spelled.{lines_spelled}
use Rattle.siman_plans.specs.ClosingLines.{warnings_of}
use Rattle.siman_plans.proofs.background.Background.put_all_warnings.Given as goal

abbrev pub invariant-loop-line : goal.invariant-loop-line
invariant-loop-line l = string_bytes l.text ≡ string_bytes l.initial.text ++ lines_spelled l.spelling (flat_map (warnings_of l.self l.sent) (take l.line-index l.planned))
