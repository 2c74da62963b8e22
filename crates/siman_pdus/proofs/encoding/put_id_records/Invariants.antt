use Rattle.std.proofs.Common.{◌≡◌, ◌+◌, ◌≤◌, ◌++◌, drop, vec_len, vec_capacity}
use Rattle.dis_records.specs.Layout.{Fit, size, text}
use Rattle.dis_records.specs.Datum.{id_layouts}
use Rattle.siman_pdus.proofs.encoding.put_id_records.Given as goal

-- what is written and what is left are all of it
abbrev pub invariant-loop-id : goal.invariant-loop-id
invariant-loop-id l = record {
  items : l.out.items ++ text (id_layouts (drop l.id-index l.ids)) ≡ l.fn.out.items ++ text (id_layouts l.ids);
  len : vec_len l.out + size (id_layouts (drop l.id-index l.ids)) ≡ vec_len l.fn.out + size (id_layouts l.ids);
  fits : Fit (id_layouts (drop l.id-index l.ids)) → Fit (id_layouts l.ids);
  capacity : vec_capacity l.fn.out ≤ vec_capacity l.out;
}
