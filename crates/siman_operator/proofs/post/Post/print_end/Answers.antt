-- each entry was printed
use Rattle.siman_operator.specs.Closing.{session_text}
use Rattle.siman_operator.proofs.Ended.{prints_end}
use Rattle.siman_operator.proofs.post.Post.print_end.Goals as goal

pub returns : goal.returns
returns g c =
    prints_end c.args.self.now.printer.fault
    (session_text c.args.self.now.recorder.entries c.args.self.now.station.dropped (g.L.Line.passed c.args.self.now.station.line.line) c.args.counts) _ _ _
    (cc (c.fault.ensures, c.is_some.ensures, c.if-is_some.false)) (rw (c.entry_count-records.ensures.entries, c.passed-passed.ensures) at c.print_counts.ensures)
