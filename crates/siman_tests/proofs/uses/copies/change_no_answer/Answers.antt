use Rattle.std.proofs.Common.{List, ap}
use Rattle.siman_application.specs.Play.{reply_after}
use Rattle.siman_pdus.specs.declared.pdu.Pdu.{Pdu}
use Rattle.siman_tests.proofs.uses.copies.change_no_answer.Goals as goal

pub returns-clause-copy : goal.returns-clause-copy
returns-clause-copy c = λ q p newer older stamp known.
    let a = c.args.application.now.outfit in
    ap (λ (ds : List Pdu). reply_after a ds p stamp) (c.requests_are_told_once.ensures.repeated a q newer older known)

pub returns-clause-once : goal.returns-clause-once
returns-clause-once c = λ qs p stamp.
    let a = c.args.application.now.outfit in
    ap (λ (ds : List Pdu). reply_after a ds p stamp) (c.requests_are_told_once.ensures.once a qs)
