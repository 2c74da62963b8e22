use Rattle.std.proofs.Common.{length}
use Rattle.siman_operator.specs.Noting.{datagrams_sent, datagrams_received}
use Rattle.siman_operator.specs.Printing.{printing_of}
use Rattle.siman_operator.proofs.Going.{keeps_all}
use Rattle.siman_operator.proofs.OneTurn.{turn_prints, turn_setting, at_turn_counts}
use Rattle.siman_operator.proofs.post.Post.serve_once.Goals as goal

pub returns-clause-goes : goal.returns-clause-goes
returns-clause-goes g c = record {
  index = c.serve_counting-served.ensures.ends.index;
  setting = turn_setting c.serve_counting-served.new.station c.serve_counting-served.new.recorder.entries c.args.self.now.clock.now c.entry_count.result c.received_count.result c.sent_count.result _ _ c.print_turn.ensures;
  keeps =
      keeps_all c.args.self.now.station.index c.args.self.now.station.node c.args.self.now.recorder (datagrams_sent c.args.self.now.station.line) c.serve_counting-served.new.station.node
      c.serve_counting-served.new.recorder (datagrams_sent c.serve_counting-served.new.station.line) c.serve_counting-served.ensures.keeps;
  prints =
      turn_prints g.L.Line.passed c.args.self.now.clock c.args.self.now.station c.serve_counting-served.new.station c.args.self.now.recorder
      c.serve_counting-served.new.recorder c.serve_counting-served.result (printing_of c.args.self.now.printer (g.O.Write.contents c.args.out.now))
      (printing_of c.print_turn.new.printer (g.O.Write.contents c.print_turn.new.out)) c.moment_is_in_range.ensures.now
      c.serve_counting-served.ensures.ends.index c.serve_counting-served.ensures.ends.ends
      (at_turn_counts c.serve_counting-served.new.station c.serve_counting-served.new.recorder.entries c.args.self.now.clock.now
      c.entry_count.result c.received_count.result c.sent_count.result c.args.self.now.recorder.entries
      (length (datagrams_received c.args.self.now.station.line)) (length (datagrams_sent c.args.self.now.station.line))
      (printing_of c.args.self.now.printer (g.O.Write.contents c.args.out.now))
      (printing_of c.print_turn.new.printer (g.O.Write.contents c.print_turn.new.out)) c.entry_count.ensures.entries
      c.received_count.ensures c.sent_count.ensures c.print_turn.ensures);
}
