use Rattle.dis_records.proofs.Headers.{read_at, read_only}
use Rattle.dis_records.proofs.header.read_header.Goals as goal

pub returns-clause-only : goal.returns-clause-only
returns-clause-only c = read_only c.read_fields.result c.args.bytes.now c.read_fields.ensures.header c.read_fields.ensures.refused

pub returns-clause-at : goal.returns-clause-at
returns-clause-at c = read_at c.read_fields.result c.args.bytes.now c.read_fields.ensures.header
