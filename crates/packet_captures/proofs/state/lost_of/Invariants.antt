-- The sum so far, as far as 64 bits hold it.
use Rattle.std.proofs.Common.{◌≡◌, ◌+◌, ◌-◌, ◌^◌, take}
use Rattle.std.specs.Prelude.{min, sum_by}
use Rattle.packet_captures.proofs.state.lost_of.Given as goal

abbrev pub invariant-loop-interface : goal.invariant-loop-interface
invariant-loop-interface l = l.lost ≡ min (l.before + sum_by (λ i. i.lost) (take l.interface-index l.interfaces)) (2 ^ 64 - 1)
