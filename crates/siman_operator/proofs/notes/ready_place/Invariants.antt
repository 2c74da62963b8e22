use Rattle.siman_operator.specs.Notes.{ready_at}
use Rattle.siman_operator.proofs.ReadyPlaces.{NonePass}
use Rattle.siman_operator.proofs.notes.ready_place.Given as goal

-- None so far is sent again.
abbrev pub invariant-loop-place : goal.invariant-loop-place
invariant-loop-place l = NonePass (ready_at l.manager l.now) l.place
