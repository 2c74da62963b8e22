use Rattle.siman_pdus.proofs.Spellings.{answered_spelled, answered_only, answered_reads}
use Rattle.siman_pdus.proofs.ReadRanges.{decoded_in_range}
use Rattle.siman_pdus.proofs.decoding.decode.Goals as goal

pub returns-clause-spelled : goal.returns-clause-spelled
returns-clause-spelled c = answered_spelled c.read.result c.args.bytes.now (c.read.ensures.ok, c.read.ensures.refused)

pub returns-clause-only : goal.returns-clause-only
returns-clause-only c = answered_only c.read.result c.args.bytes.now (c.read.ensures.ok, c.read.ensures.refused)

pub returns-clause-in_range : goal.returns-clause-in_range
returns-clause-in_range c = decoded_in_range c.read.result c.args.bytes.now (λ i. (c.type_inv.bytes i).fits) c.read.ensures.ok

pub returns-clause-reads : goal.returns-clause-reads
returns-clause-reads c = answered_reads c.read.result c.args.bytes.now (c.read.ensures.ok, c.read.ensures.refused)
