use Rattle.std.proofs.Common.{◌≡◌, ◌++◌, take, drop}
use Rattle.dis_records.specs.declared.entity_state.EntityState.{EntityState}
use Rattle.siman_application.specs.Listed.{inserted}
use Rattle.siman_application.proofs.entity_list.place_for.Given as goal

abbrev pub invariant-loop-place : goal.invariant-loop-place
invariant-loop-place l =
    (state : EntityState) → take l.place l.entities ++ inserted l.number state (drop l.place l.entities) ≡ inserted l.number state l.entities
