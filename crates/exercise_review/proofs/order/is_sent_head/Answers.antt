use Rattle.std.proofs.Common.{arith}
use Rattle.siman_pdus.specs.Reading.{pdu_of}
use Rattle.exercise_review.proofs.Under.{sends_itself, sends_first}
use Rattle.exercise_review.proofs.order.is_sent_head.Goals as goal

pub is_first-requires-clause-under : goal.is_first-requires-clause-under
is_first-requires-clause-under g c =
    let sends = sends_itself c.args.findings.now c.args.station c.args.entry (pdu_of c.args.pdu.now) c.requires.sent in
    sends_first c.args.findings.now c.args.station c.args.entry (pdu_of c.args.pdu.now) (grind arith) sends
