use Rattle.std.proofs.Common.{rules}
use Rattle.siman_pdus.proofs.SameValues.{values_are}
use Rattle.siman_pdus.proofs.same_views.same_value.Goals as goal

pub returns-then-eq : goal.returns-then-eq
returns-then-eq c =
    let l = c.args.left in
    let r = c.args.right in
    let is = values_are l.bits r.bits l.bytes.now r.bytes.now c.last.result c.last-2.result c.requires l.whole r.whole c.last.ensures c.last-2.ensures in
    search rules

pub returns-else-eq : goal.returns-else-eq
returns-else-eq c =
    let l = c.args.left in
    let r = c.args.right in
    let is = values_are l.bits r.bits l.bytes.now r.bytes.now c.last.result c.last-2.result c.requires l.whole r.whole c.last.ensures c.last-2.ensures in
    search rules
