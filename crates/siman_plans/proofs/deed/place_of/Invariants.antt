use Rattle.std.proofs.Common.{length, ◌-◌, ◌≡◌, ◌≤◌, ◌++◌, take, drop}
use Rattle.siman_plans.specs.Sent.{received_at}
use Rattle.siman_plans.proofs.deed.place_of.Given as goal

abbrev pub invariant-loop-place : goal.invariant-loop-place
invariant-loop-place l =
    (l.place ≤ length l.receipts) × (received_at l.station l.receipts ≡ take l.place l.receipts ++ received_at l.station (drop l.place l.receipts))

abbrev pub decreases-loop-place : goal.decreases-loop-place
decreases-loop-place l = length l.receipts - l.place
