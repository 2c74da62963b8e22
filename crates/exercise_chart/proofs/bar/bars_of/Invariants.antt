use Rattle.std.proofs.Common.{◌≡◌}
use Rattle.exercise_review.specs.Room.{lists_below}
use Rattle.exercise_chart.specs.Bar.{station_bars, station_undrawn}
use Rattle.exercise_chart.proofs.bar.bars_of.Given as goal

-- The bars of the stations so far, and their entities without one.
abbrev pub invariant-loop-station : goal.invariant-loop-station
invariant-loop-station g l = record {
  bars : l.bars.items ≡ lists_below (station_bars l.scene) l.station;
  undrawn : l.undrawn.items ≡ lists_below (station_undrawn l.scene) l.station;
}
