use Rattle.std.proofs.Common.{refl}
use Rattle.siman_operator.specs.Noting.{datagrams_sent}
use Rattle.siman_operator.specs.Printing.{printing_of}
use Rattle.siman_operator.proofs.Going.{keeps_all}
use Rattle.siman_operator.proofs.Prints.{tell_prints, untold_prints}
use Rattle.siman_operator.proofs.post.Post.tell.Goals as goal

pub returns-in-Err-clause-goes : goal.returns-in-Err-clause-goes
returns-in-Err-clause-goes g c = record {
  index = refl;
  setting = refl;
  keeps =
      keeps_all c.args.self.now.station.index c.args.self.now.station.node c.args.self.now.recorder (datagrams_sent c.args.self.now.station.line) c.args.self.now.station.node c.tell_at.new.recorder
      (datagrams_sent c.args.self.now.station.line) c.in-Err.ensures.keeps;
  prints =
      untold_prints g.L.Line.passed c.args.entity c.args.self.now.station c.args.self.now.recorder c.tell_at.new.recorder c.in-Err.fault
      (printing_of c.args.self.now.printer (g.O.Write.contents c.args.out.now)) c.in-Err.ensures.ends c.in-Err.ensures.refused;
}

pub returns-clause-goes : goal.returns-clause-goes
returns-clause-goes g c = record {
  index = refl;
  setting = c.print.ensures.setting;
  keeps =
      keeps_all c.args.self.now.station.index c.args.self.now.station.node c.args.self.now.recorder (datagrams_sent c.args.self.now.station.line) c.args.self.now.station.node c.tell_at.new.recorder
      (datagrams_sent c.args.self.now.station.line) c.in_default.ensures.keeps;
  prints =
      tell_prints c.args.entity c.state.result c.args.self.now.station c.args.self.now.recorder c.tell_at.new.recorder
      (printing_of c.args.self.now.printer (g.O.Write.contents c.args.out.now))
      (printing_of c.print.new.self (g.O.Write.contents c.print.new.out)) c.in_default.ensures.ends c.state.ensures
      c.print.ensures;
}
