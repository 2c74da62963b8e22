use Rattle.std.proofs.Common.{◌≡◌, ◌++◌, take, drop}
use Rattle.siman_application.specs.Listed.{removed}
use Rattle.siman_application.proofs.entity_list.place_of.Given as goal

abbrev pub invariant-loop-place : goal.invariant-loop-place
invariant-loop-place l = take l.place l.entities ++ removed l.number (drop l.place l.entities) ≡ removed l.number l.entities
