use Rattle.siman_operator.specs.Noting.{datagrams_sent}
use Rattle.siman_operator.specs.Printing.{printing_of}
use Rattle.siman_operator.proofs.Going.{keeps_all}
use Rattle.siman_operator.proofs.Prints.{repeat_prints, at_counts, sent_setting}
use Rattle.siman_operator.proofs.post.Post.send_repeat.Goals as goal

pub returns-clause-prints : goal.returns-clause-prints
returns-clause-prints g c =
    at_counts c.repeat_at-done.new.station c.repeat_at-done.new.recorder.entries c.args.self.now.clock.now c.entry_count-entries.result c.sent_count-sent.result _ _
    (printing_of c.args.self.now.printer (g.O.Write.contents c.args.out.now)) (printing_of c.print_sent.new.printer (g.O.Write.contents c.print_sent.new.out))
    c.entry_count-entries.ensures.entries c.sent_count-sent.ensures c.print_sent.ensures

pub returns-clause-goes : goal.returns-clause-goes
returns-clause-goes g c = record {
  index = c.repeat_at-done.ensures.index;
  setting = sent_setting c.repeat_at-done.new.station c.repeat_at-done.new.recorder.entries c.args.self.now.clock.now c.entry_count-entries.result c.sent_count-sent.result _ _ c.print_sent.ensures;
  keeps =
      keeps_all c.args.self.now.station.index c.args.self.now.station.node c.args.self.now.recorder (datagrams_sent c.args.self.now.station.line) c.repeat_at-done.new.station.node c.repeat_at-done.new.recorder
      (datagrams_sent c.repeat_at-done.new.station.line) c.repeat_at-done.ensures.keeps;
  prints =
      repeat_prints g.L.Line.passed c.args.self.now.clock c.args.self.now.station c.repeat_at-done.new.station c.args.self.now.recorder c.repeat_at-done.new.recorder
      c.repeat_at-done.result (printing_of c.args.self.now.printer (g.O.Write.contents c.args.out.now))
      (printing_of c.print_sent.new.printer (g.O.Write.contents c.print_sent.new.out)) c.moment_is_in_range.ensures.now c.repeat_at-done.ensures.index
      c.repeat_at-done.ensures.ends
      (at_counts c.repeat_at-done.new.station c.repeat_at-done.new.recorder.entries c.args.self.now.clock.now c.entry_count-entries.result c.sent_count-sent.result _ _
      (printing_of c.args.self.now.printer (g.O.Write.contents c.args.out.now)) (printing_of c.print_sent.new.printer (g.O.Write.contents c.print_sent.new.out))
      c.entry_count-entries.ensures.entries c.sent_count-sent.ensures c.print_sent.ensures);
}
