use Rattle.std.proofs.Common.{[], ◌∷◌, ◌++◌, length}
use Rattle.std.specs.Int.{w32}
use Rattle.dis_records.specs.Layout.{Number}
use Rattle.dis_records.specs.Datum.{id_layouts}
use Rattle.siman_pdus.proofs.Texts.{puts_then}
use Rattle.siman_pdus.proofs.encoding.put_ids.Goals as goal

pub returns : goal.returns
returns c =
    let f = c.args.fixed.now in
    let v = c.args.variable.now in
    puts_then (Number w32 (length f) ∷ []) (Number w32 (length v) ∷ id_layouts f ++ id_layouts v) _ _ _ c.put_u32.ensures
    (puts_then (Number w32 (length v) ∷ []) (id_layouts f ++ id_layouts v) _ _ _ c.put_u32-2.ensures
    (puts_then (id_layouts f) (id_layouts v) _ _ _ c.put_id_records.ensures c.put_id_records-2.ensures))
