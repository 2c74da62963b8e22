use Rattle.siman_operator.specs.Noting.{telling}
use Rattle.siman_operator.specs.Deeds.{data_of, printed, IsAtSameTime, GoesOn}
use Rattle.siman_operator.proofs.Taking.{SoFar}
use Rattle.siman_operator.proofs.post.Post.take_turns.Given as goal

-- what came of the turns so far
abbrev pub invariant-loop : goal.invariant-loop
invariant-loop g l =
    SoFar (telling g.L.Line.passed) l.fn.self.clock l.counter l.fn.self.station l.fn.self.recorder l.self.station l.self.recorder l.trouble
    × IsAtSameTime (data_of l.fn.self) (data_of l.self)
    × GoesOn (printed (data_of l.fn.self) (g.O.Write.contents l.fn.out)) (printed (data_of l.self) (g.O.Write.contents l.out))
