use Rattle.std.proofs.Common.{refl}
use Rattle.siman_lines.proofs.Keeping.{keeps_nothing}
use Rattle.siman_lines.proofs.Refusing.{rests_same}
use Rattle.siman_lines.proofs.station_at_line.order_at.Goals as goal

pub returns-then-not-is_request-clause-keeps : goal.returns-then-not-is_request-clause-keeps
returns-then-not-is_request-clause-keeps g c =
    keeps_nothing c.args.station.now.index c.args.station.now.node c.args.recorder.now (g.L.Line.sent c.args.station.now.line)

pub returns-then-not-is_request-clause-refused : goal.returns-then-not-is_request-clause-refused
returns-then-not-is_request-clause-refused g c = (refl, rests_same _)
