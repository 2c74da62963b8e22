use Rattle.std.proofs.Common.{length}
use Rattle.siman_lines.specs.AtLines.{Telling, AtLines, Follows}
use Rattle.siman_lines.specs.Steps.{Each}
use Rattle.siman_exercise_commands.specs.Live.Moves.{MakesAt}
use Rattle.siman_exercise_commands.proofs.live.moves.make_moves.Given as goal

-- the moves so far were made
abbrev pub invariant-loop-number : goal.invariant-loop-number
invariant-loop-number g l =
    let told : Telling g.row.L.Denot = record {
      received = g.L.Line.received;
      sent = g.L.Line.sent;
      failures = g.L.Line.failures;
      passed = g.L.Line.passed;
    } in
    let old : AtLines g.row.L.Denot = record { stations = l.fn.stations.items; recorder = l.fn.recorder } in
    let new : AtLines g.row.L.Denot = record { stations = l.stations.items; recorder = l.recorder } in
    Each (MakesAt told l.fn.moves.items) (length l.yielded) old new × Follows told old new
