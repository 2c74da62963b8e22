use Rattle.std.proofs.Common.{[], ◌∷◌, ◌++◌, length}
use Rattle.std.specs.Int.{w32}
use Rattle.dis_records.specs.Layout.{Number}
use Rattle.dis_records.specs.Datum.{fixed_layouts, variable_layouts}
use Rattle.siman_pdus.proofs.Texts.{puts_then}
use Rattle.siman_pdus.proofs.encoding.put_datums.Goals as goal

pub returns : goal.returns
returns c =
    let f = c.args.fixed.now in
    let v = c.args.variable.now in
    puts_then (Number w32 (length f) ∷ []) (Number w32 (length v) ∷ fixed_layouts f ++ variable_layouts v) _ _ _ c.put_u32.ensures
    (puts_then (Number w32 (length v) ∷ []) (fixed_layouts f ++ variable_layouts v) _ _ _ c.put_u32-2.ensures
    (puts_then (fixed_layouts f) (variable_layouts v) _ _ _ c.put_fixed_records.ensures c.put_variable_records.ensures))
