use Rattle.std.proofs.Common.{◌≡◌, drop}
use Rattle.packet_captures.specs.Pending.{index_from}
use Rattle.packet_captures.proofs.pending.index_among.Given as goal

-- the parts that are left decide
abbrev pub invariant-loop-i : goal.invariant-loop-i
invariant-loop-i l = index_from l.i l.offset l.end (drop l.i l.parts) ≡ index_from 0 l.offset l.end l.parts
