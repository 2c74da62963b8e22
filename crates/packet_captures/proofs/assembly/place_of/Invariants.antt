use Rattle.std.proofs.Common.{◌≡◌, drop}
use Rattle.packet_captures.specs.Assembly.{place_from}
use Rattle.packet_captures.proofs.assembly.place_of.Given as goal

-- the datagrams that are left decide
abbrev pub invariant-loop-i : goal.invariant-loop-i
invariant-loop-i l = place_from l.i l.key (drop l.i l.held) ≡ place_from 0 l.key l.held
