use Rattle.std.proofs.Common.{◌≡◌, drop}
use Rattle.packet_captures.specs.Pending.{cover}
use Rattle.packet_captures.proofs.pending.cover.Given as goal

-- the parts that are left decide
abbrev pub invariant-loop-part : goal.invariant-loop-part
invariant-loop-part l = cover l.at l.end (drop l.part-index l.parts) ≡ cover 0 l.end l.parts
