use Rattle.siman_lines.specs.AtLines.{Telling, AtLines, ServedAt, One, Follows}
use Rattle.siman_lines.specs.Steps.{Each}
use Rattle.siman_lines.proofs.station_at_line.serve_round.Given as goal

-- each of the stations so far was served
abbrev pub invariant-loop-number : goal.invariant-loop-number
invariant-loop-number g l =
    let told : Telling g.row.L.Denot = record {
      received = g.L.Line.received;
      sent = g.L.Line.sent;
      failures = g.L.Line.failures;
      passed = g.L.Line.passed;
    } in
    let old : AtLines g.row.L.Denot = record { stations = l.fn.stations.items; recorder = l.fn.recorder } in
    let new : AtLines g.row.L.Denot = record { stations = l.stations.items; recorder = l.recorder } in
    Each (One (ServedAt told l.fn.moment l.fn.turns)) l.number old new × Follows told old new
