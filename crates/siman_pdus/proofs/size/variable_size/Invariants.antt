use Rattle.std.proofs.Common.{◌≡◌, ◌+◌, ◌≤◌, drop}
use Rattle.dis_records.specs.declared.header.TheConstants.{LARGEST_DATAGRAM}
use Rattle.dis_records.specs.Layout.{size}
use Rattle.dis_records.specs.Datum.{variable_layouts}
use Rattle.siman_pdus.proofs.size.variable_size.Given as goal

abbrev pub invariant-loop-datum : goal.invariant-loop-datum
invariant-loop-datum l = record {
  room : l.end ≤ LARGEST_DATAGRAM;
  so_far : l.end + size (variable_layouts (drop l.datum-index l.records)) ≡ l.start + size (variable_layouts l.records);
}
