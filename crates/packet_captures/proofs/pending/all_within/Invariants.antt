use Rattle.std.proofs.Common.{◌≡◌, drop}
use Rattle.packet_captures.specs.Pending.{all_within}
use Rattle.packet_captures.proofs.pending.all_within.Given as goal

-- the parts that are left decide
abbrev pub invariant-loop-part : goal.invariant-loop-part
invariant-loop-part l = all_within l.end (drop l.part-index l.parts) ≡ all_within l.end l.parts
