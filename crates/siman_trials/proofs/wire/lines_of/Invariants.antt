-- As many lines as were made.
use Rattle.std.proofs.Common.{◌≡◌, length}
use Rattle.siman_trials.proofs.wire.lines_of.Given as goal

abbrev pub invariant-loop-line : goal.invariant-loop-line
invariant-loop-line l = length l.lines.items ≡ l.line
