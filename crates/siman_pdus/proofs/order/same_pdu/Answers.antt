use Rattle.std.proofs.lemmas.Bool.Decides.{Decides-at}
use Rattle.siman_pdus.specs.Same.{is_same_pdu}
use Rattle.siman_pdus.proofs.Same.{pdu_decides}
use Rattle.siman_pdus.proofs.order.same_pdu.Goals as goal

pub returns-clause-exact : goal.returns-clause-exact
returns-clause-exact c =
    Decides-at c.all_fields.result (is_same_pdu c.args.a.now c.args.b.now) c.all_fields.ensures (pdu_decides c.args.a.now c.args.b.now)
