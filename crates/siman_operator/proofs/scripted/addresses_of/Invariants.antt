-- The addresses so far are those of the stations so far.
use Rattle.std.proofs.Common.{◌≡◌, take}
use Rattle.siman_operator.specs.Scripted.{addresses_of}
use Rattle.siman_operator.proofs.scripted.addresses_of.Given as goal

abbrev pub invariant-loop-station : goal.invariant-loop-station
invariant-loop-station l = l.addresses.items ≡ addresses_of (take l.station-index l.stations)
