use Rattle.std.proofs.Common.{◌≡◌}
use Rattle.siman_lines.specs.AtLines.{posts_from}
use Rattle.siman_lines.proofs.station_at_line.stations_at_lines.Given as goal

-- those so far are at their lines
abbrev pub invariant-loop-node : goal.invariant-loop-node
invariant-loop-node g l = l.stations.items ≡ posts_from 0 l.yielded
