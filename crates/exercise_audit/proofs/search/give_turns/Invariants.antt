use Rattle.std.proofs.Common.{take}
use Rattle.exercise_audit.specs.Search.{HaveTurns}
use Rattle.exercise_audit.proofs.search.give_turns.Given as goal

-- The stations so far have their turns.
abbrev pub invariant-loop-station : goal.invariant-loop-station
invariant-loop-station g l = HaveTurns l.course (take l.station-index l.stations) l.initial.turns l.turns
