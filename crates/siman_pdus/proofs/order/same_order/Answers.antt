use Rattle.std.proofs.lemmas.Bool.Decides.{Decides-at}
use Rattle.siman_pdus.specs.Same.{is_same_order}
use Rattle.siman_pdus.proofs.Same.{order_decides}
use Rattle.siman_pdus.proofs.order.same_order.Goals as goal

pub returns-clause-exact : goal.returns-clause-exact
returns-clause-exact g c =
    let a = g.M.Message.pdu c.args.a.now in
    let b = g.M.Message.pdu c.args.b.now in
    Decides-at c.is_order_of.result (is_same_order a b) c.is_order_of.ensures (order_decides a b)
