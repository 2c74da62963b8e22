use Rattle.std.proofs.Common.{sym, arith}
use Rattle.std.specs.Prelude.{None}
use Rattle.std.proofs.lemmas.List.{get_or_read}
use Rattle.exercise_audit.proofs.Trees.{renewed}
use Rattle.exercise_audit.proofs.turns.renew.Goals as goal

pub loop-node-preserved : goal.loop-node-preserved
loop-node-preserved c =
    let nodes = c.loop-node.nodes.items in
    let before = c.loop-node.invariant in
    let k = c.loop-node.node in
    let on = renewed c.args.nodes.now.items nodes c.args.stations k c.index.result.now c.index-in-loop-node.result.now c.earlier_of.result before.count
    c.loop-node-test.true before.within before.inner before.leaves
    (sym (get_or_read nodes _ _ (omega (arith, before.count, before.within)) c.index.ensures None))
    (sym (get_or_read nodes _ _ (omega (arith, before.count, before.within)) c.index-in-loop-node.ensures None)) c.earlier_of.ensures in
    record { count = on.count; within = on.within; inner = on.inner; leaves = on.leaves }
