use Rattle.std.proofs.Common.{◌≡◌, take}
use Rattle.std.specs.List.{list_any}
use Rattle.exercise_review.specs.Filter.{is_under, passes_under}
use Rattle.exercise_review.proofs.filter.holds_under.Given as goal

-- Whether there is one among the filters so far, and one that passes.
abbrev pub invariant-loop-filter : goal.invariant-loop-filter
invariant-loop-filter g l = record {
  any : l.any ≡ list_any (is_under l.key) (take l.filter-index l.filters);
  passed : l.passed ≡ list_any (passes_under l.key (g.T.Filtered.test l.item)) (take l.filter-index l.filters);
}
