use Rattle.siman_lines.specs.AtLines.{Telling, AtLines, Round, Follows}
use Rattle.siman_lines.specs.Steps.{Each}
use Rattle.siman_lines.proofs.station_at_line.serve_rounds.Given as goal

-- so many rounds were made
abbrev pub invariant-loop : goal.invariant-loop
invariant-loop g l =
    let told : Telling g.row.L.Denot = record {
      received = g.L.Line.received;
      sent = g.L.Line.sent;
      failures = g.L.Line.failures;
      passed = g.L.Line.passed;
    } in
    let old : AtLines g.row.L.Denot = record { stations = l.fn.stations.items; recorder = l.fn.recorder } in
    let new : AtLines g.row.L.Denot = record { stations = l.stations.items; recorder = l.recorder } in
    Each (λ number. Round told l.fn.moment l.fn.turns) l.counter old new × Follows told old new
