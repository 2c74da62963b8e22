-- The line has begun so far.
use Rattle.std.proofs.Common.{◌<◌, length, None}
use Rattle.siman_operator.specs.Coming.{GoesOnBy}
use Rattle.siman_operator.proofs.coming.next_coming.Given as goal

abbrev pub invariant-loop : goal.invariant-loop
invariant-loop g l =
    (0 < length l.buffer) × GoesOnBy (g.R.Read.remaining l.fn.input) (g.R.Read.remaining l.input) l.fn.buffer l.buffer l.fn.held l.held None
