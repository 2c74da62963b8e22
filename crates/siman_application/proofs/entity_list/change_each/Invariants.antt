use Rattle.std.proofs.Common.{◌≡◌, ◌++◌, take, drop}
use Rattle.siman_application.specs.Listed.{all_changed}
use Rattle.siman_application.proofs.entity_list.change_each.Given as goal

abbrev pub invariant-loop-place : goal.invariant-loop-place
invariant-loop-place l = l.entities.items ≡ all_changed l.change (take l.place l.initial.entities.items) ++ drop l.place l.initial.entities.items
