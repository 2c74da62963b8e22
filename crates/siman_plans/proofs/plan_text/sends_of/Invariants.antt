-- With the datagrams of what is left, those so far are the datagrams of all.
use Rattle.std.proofs.Common.{◌≡◌, ◌++◌, length, map}
use Rattle.exercise_model.specs.Held.{kept}
use Rattle.siman_stations.specs.World.{sent_in}
use Rattle.siman_plans.proofs.plan_text.sends_of.Given as goal

abbrev pub invariant-loop-others : goal.invariant-loop-others
invariant-loop-others l = map (λ d. d.now) l.sends.items ++ sent_in (map kept l.others) ≡ sent_in (map kept l.entries)

abbrev pub decreases-loop-others : goal.decreases-loop-others
decreases-loop-others l = length l.others
