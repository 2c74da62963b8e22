use Rattle.siman_tests.proofs.uses.exported.loses_no_packet.Goals as goal

pub returns : goal.returns
returns c = λ r s room rule station i limits bytes within for made.
    ((c.exported_logs_come_back.ensures.named r s room rule station limits bytes within for).recording i made).1
