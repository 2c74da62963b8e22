-- What came so far was taken and told, and the next line has begun.
use Rattle.std.proofs.Common.{◌≡◌, ◌≤◌, ◌+◌, length}
use Rattle.siman_operator.specs.Deeds.{data_of, printed, GoesOn}
use Rattle.siman_operator.specs.Noting.{telling}
use Rattle.siman_operator.specs.declared.reading.TheConstants.{LONGEST_LINE}
use Rattle.siman_operator.proofs.Played.{Going}
use Rattle.siman_operator.proofs.playing.play_lines.Given as goal

abbrev pub invariant-loop : goal.invariant-loop
invariant-loop g l =
    (length l.buffer ≡ LONGEST_LINE + 1)
    × (l.number ≤ l.counter)
    × Going l.fn.stations (telling g.L.Line.passed) (g.R.Read.remaining l.fn.input) (g.R.Read.remaining l.input) (data_of l.fn.post) (data_of l.post) (g.E.Write.contents l.fn.errors) (g.E.Write.contents l.errors)
    l.number l.told l.buffer l.held
    × GoesOn (printed (data_of l.fn.post) (g.O.Write.contents l.fn.out)) (printed (data_of l.post) (g.O.Write.contents l.out))
