use Rattle.std.proofs.Common.{◌≡◌, ◌<◌, ◌≤◌, ◌+◌, ℕ, length}
use Rattle.exercise_audit.specs.Turns.{node_at, AreInnerBut}
use Rattle.exercise_audit.proofs.turns.renew.Given as goal

-- All nodes are as they should be but the next one that is renewed.
abbrev pub invariant-loop-node : goal.invariant-loop-node
invariant-loop-node l = record {
  count : length l.nodes.items ≡ l.stations + l.stations;
  within : l.node < l.stations;
  inner : AreInnerBut l.nodes.items l.stations l.node;
  leaves : (k : ℕ) → l.stations ≤ k → node_at l.nodes.items k ≡ node_at l.fn.nodes.items k;
}

abbrev pub decreases-loop-node : goal.decreases-loop-node
decreases-loop-node l = l.node
