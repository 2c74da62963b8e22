use Rattle.std.proofs.Common.{◌≡◌, ◌-◌, ◌≤◌}
use Rattle.packet_captures.specs.Internet6.{behind_6}
use Rattle.packet_captures.proofs.internet_6.behind_header.Given as goal

-- what stands behind the headers passed over so far is what stands behind all
abbrev pub invariant-headers : goal.invariant-headers
invariant-headers l = record {
  room : l.room ≤ l.fn.size;
  same : behind_6 (l.fn.size - l._most) l.addresses l.next l.room l.rest ≡ behind_6 l.fn.size l.addresses l.fn.next l.fn.size l.fn.bytes;
}
