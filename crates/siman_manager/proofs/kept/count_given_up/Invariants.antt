use Rattle.std.proofs.Common.{◌≡◌, ◌≤◌, take, count_by}
use Rattle.indexmap.specs.IndexMap.{values}
use Rattle.siman_manager.specs.Book.{is_given_up}
use Rattle.siman_manager.proofs.kept.count_given_up.Given as goal

abbrev pub invariant-loop-place : goal.invariant-loop-place
invariant-loop-place l = record {
  room : l.count ≤ l.place;
  so_far : l.count ≡ count_by is_given_up (take l.place (values l.orders));
}
