use Rattle.siman_pdus.proofs.Spellings.{shows_stands, shows_spelled, shows_only, shows_reads}
use Rattle.siman_pdus.proofs.ReadRanges.{shown_in_range}
use Rattle.siman_pdus.proofs.decoding.view.Goals as goal

pub returns-clause-stands : goal.returns-clause-stands
returns-clause-stands c = shows_stands c.show.result c.args.bytes.now (c.show.ensures.ok, c.show.ensures.refused)

pub returns-clause-spelled : goal.returns-clause-spelled
returns-clause-spelled c = shows_spelled c.show.result c.args.bytes.now (c.show.ensures.ok, c.show.ensures.refused)

pub returns-clause-only : goal.returns-clause-only
returns-clause-only c = shows_only c.show.result c.args.bytes.now (c.show.ensures.ok, c.show.ensures.refused)

pub returns-clause-in_range : goal.returns-clause-in_range
returns-clause-in_range c = shown_in_range c.show.result c.args.bytes.now (λ i. (c.type_inv.bytes i).fits) c.show.ensures.ok

pub returns-clause-reads : goal.returns-clause-reads
returns-clause-reads c = shows_reads c.show.result c.args.bytes.now (c.show.ensures.ok, c.show.ensures.refused)
