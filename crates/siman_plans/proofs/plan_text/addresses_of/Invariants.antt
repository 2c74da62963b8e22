-- The addresses so far.
use Rattle.std.proofs.Common.{◌≡◌, map, take}
use Rattle.siman_plans.proofs.plan_text.addresses_of.Given as goal

abbrev pub invariant-loop-station : goal.invariant-loop-station
invariant-loop-station l = l.addresses.items ≡ map (λ s. s.address) (take l.station-index l.stations)
