use Rattle.std.specs.Prelude.{Some}
use Rattle.std.specs.List.{All}
use Rattle.siman_lines.specs.Calls.{IsUnused}
use Rattle.siman_lines.specs.Memory.{sent_of}
use Rattle.siman_tests.proofs.exercises.dead_lines.Given as goal

-- of no line so far anything was sent
abbrev pub invariant-loop : goal.invariant-loop
invariant-loop l = All (λ line. IsUnused (Some (sent_of line))) l.lines.items
