-- What was passed so far.
use Rattle.std.proofs.Common.{◌-◌, ◌≤◌}
use Rattle.packet_captures.specs.Window.{Passes}
use Rattle.packet_captures.proofs.window.Window.pass_over.Given as goal

abbrev pub invariant-loop : goal.invariant-loop
invariant-loop g l = record { within : l.left ≤ l.size; passed : Passes (l.size - l.left) l.initial.self l.self }
