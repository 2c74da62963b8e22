use Rattle.std.proofs.Common.{◌≡◌, ◌+◌, length, sym, subst, arith}
use Rattle.exercise_audit.specs.Turns.{AreInner}
use Rattle.exercise_audit.proofs.Trees.{leaf_on, tree_renewed}
use Rattle.exercise_audit.proofs.turns.Turns.set.Goals as goal

pub renew-requires-clause-inner : goal.renew-requires-clause-inner
renew-requires-clause-inner c =
    let n = c.len-stations.result in
    let len : c.len-stations.result ≡ length c.self.inside.moments.items = omega (arith, c.len-stations.ensures, c.self.inside.moments.ok.0) in
    let inner = subst (AreInner c.self.inside.nodes.items) (sym len) c.self.invariant.inner in
    leaf_on c.self.inside.nodes.items n (n + c.args.station) c.leaf.result (omega arith) inner

pub invariant_of-self : goal.invariant_of-self
invariant_of-self c =
    let len : c.len-stations.result ≡ length c.self.inside.moments.items = omega (arith, c.len-stations.ensures, c.self.inside.moments.ok.0) in
    tree_renewed c.self.inside.moments.items c.self.inside.nodes.items c.renew.new.nodes.items c.len-stations.result c.args.station c.args.turn c.leaf.result
    c.self.invariant len c.if-station-stations.true c.leaf.ensures c.renew.ensures.count c.renew.ensures.inner c.renew.ensures.leaves
