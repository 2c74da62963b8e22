-- What was done below is done; the lines deliver.
use Rattle.std.proofs.Common.{refl}
use Rattle.siman_lines.proofs.Offered.{keeps_nothing}
use Rattle.siman_trials.proofs.performed.act_at.Goals as goal

pub returns-in-Command-clause-does : goal.returns-in-Command-clause-does
returns-in-Command-clause-does g c = rw c.in-Command.is (c.order_at.ensures.counts, rw c.relative-moment.ensures at c.order_at.ensures.ends, c.order_at.ensures.refused)

pub returns-in-Tick-clause-does : goal.returns-in-Tick-clause-does
returns-in-Tick-clause-does g c = rw c.in-Tick.is (c.repeat_at.ensures.counts, rw c.relative-moment.ensures at c.repeat_at.ensures.ends)

pub returns-in-Tell-clause-does : goal.returns-in-Tell-clause-does
returns-in-Tell-clause-does g c = rw c.in-Tell.is (refl, c.tell_at.ensures.ends, c.tell_at.ensures.refused)

pub returns-in-Deliver-clause-does : goal.returns-in-Deliver-clause-does
returns-in-Deliver-clause-does g c = rw c.in-Deliver.is (refl, refl, refl)

pub returns-in-Deliver-clause-keeps : goal.returns-in-Deliver-clause-keeps
returns-in-Deliver-clause-keeps g c =
    keeps_nothing c.args.station.now.index c.args.station.now.node c.args.recorder.now (g.L.Line.sent c.args.station.now.line)
