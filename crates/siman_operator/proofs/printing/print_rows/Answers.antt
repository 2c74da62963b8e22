use Rattle.siman_operator.proofs.Lines.{out_then}
use Rattle.siman_operator.proofs.printing.print_rows.Goals as goal

pub returns-in-Ok : goal.returns-in-Ok
returns-in-Ok g c =
    out_then (g.O.Write.contents c.args.out.now) (g.O.Write.contents c.put.new.writer) (g.O.Write.contents c.flush.new.out) c.flush.result c.args.rows.now
    c.in-Ok.ensures c.flush.ensures
