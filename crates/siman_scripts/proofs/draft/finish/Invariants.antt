use Rattle.std.proofs.Common.{◌≡◌}
use Rattle.siman_scripts.proofs.draft.finish.Given as goal

abbrev pub invariant-loop-draft : goal.invariant-loop-draft
invariant-loop-draft l = l.stations.items ≡ l.yielded
