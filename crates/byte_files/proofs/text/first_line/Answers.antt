use Rattle.std.proofs.Common.{sym}
use Rattle.byte_files.proofs.Texts.{lines_of-cut, lines_of-whole}
use Rattle.byte_files.proofs.text.first_line.Goals as goal

pub returns-in-Some-clause-lines : goal.returns-in-Some-clause-lines
returns-in-Some-clause-lines c = lines_of-cut c.args.text.now c.in-Some.line.now c.in-Some.rest.now (sym (c.in-Some.ensures {u = tt}))

pub returns-in-None-clause-lines : goal.returns-in-None-clause-lines
returns-in-None-clause-lines c = lines_of-whole c.args.text.now c.requires (sym (c.in-None.ensures {u = tt}))
