-- The buffer has the line so far, or as much of it as it holds.
use Rattle.std.proofs.Common.{◌<◌, length}
use Rattle.byte_files.proofs.LineReadings.{SoFar}
use Rattle.byte_files.proofs.lines.read_line.Given as goal

abbrev pub invariant-loop : goal.invariant-loop
invariant-loop g l =
    (0 < length l.buffer) × SoFar (g.R.Read.remaining l.initial.reader) (g.R.Read.remaining l.reader) l.buffer l.held
