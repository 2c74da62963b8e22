use Rattle.std.proofs.Common.{◌≡◌, ◌++◌, drop}
use Rattle.packet_captures.specs.Pending.{joined}
use Rattle.packet_captures.proofs.pending.joined.Given as goal

-- the bytes so far, and those of the parts that are left
abbrev pub invariant-loop-part : goal.invariant-loop-part
invariant-loop-part l = l.bytes.items ++ joined (drop l.part-index l.parts) ≡ joined l.parts
