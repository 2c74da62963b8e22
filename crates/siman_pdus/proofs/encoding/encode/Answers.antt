use Rattle.std.proofs.Common.{rules}
use Rattle.siman_pdus.proofs.Spellings.{text_spelled_exactly, carried_spelled}
use Rattle.siman_pdus.proofs.encoding.encode.Goals as goal

pub returns-clause-spelled : goal.returns-clause-spelled
returns-clause-spelled c = text_spelled_exactly c.args.pdu.now c.put_pdu.ensures.fits (search rules)

pub returns-clause-carried : goal.returns-clause-carried
returns-clause-carried c = carried_spelled c.args.pdu.now c.put_pdu.ensures.fits (search rules)
