use Rattle.std.proofs.Common.{◌≡◌, take, sum_by, count_by}
use Rattle.siman_lines.specs.LeftOut.{capped}
use Rattle.siman_lines.proofs.left.left_out.Given as goal

-- what the stations so far left out
abbrev pub invariant-loop-station : goal.invariant-loop-station
invariant-loop-station g l =
    (l.busy ≡ count_by (λ p. p.busy) (take l.station-index l.stations)) × (l.dropped ≡ capped (sum_by (λ p. p.dropped) (take l.station-index l.stations)))
    × (l.strangers ≡ capped (sum_by (λ p. (g.L.Line.passed p.line).strangers) (take l.station-index l.stations)))
