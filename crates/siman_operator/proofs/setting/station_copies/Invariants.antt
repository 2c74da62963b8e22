-- The copies so far are the stations so far.
use Rattle.std.proofs.Common.{◌≡◌, take}
use Rattle.siman_operator.proofs.setting.station_copies.Given as goal

abbrev pub invariant-loop-station : goal.invariant-loop-station
invariant-loop-station l = l.copies.items ≡ take l.station-index l.stations
