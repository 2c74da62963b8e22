-- What a station did not do is why its move is not made.
use Rattle.std.proofs.Common.{refl, subst}
use Rattle.std.specs.Prelude.{None, Ok, IfErr}
use Rattle.siman_stations.specs.declared.moment.Moment.{Moment}
use Rattle.siman_stations.specs.Asked.{order_fault, tell_fault}
use Rattle.siman_stations.specs.StationTurn.{stamp_of}
use Rattle.siman_lines.specs.AtLine.{Hinders}
use Rattle.siman_lines.proofs.Offered.{keeps_nothing}
use Rattle.siman_exercise_commands.proofs.live.moves.act_at.Goals as goal

pub returns-in-Command-clause-fault : goal.returns-in-Command-clause-fault
returns-in-Command-clause-fault g c =
    rw c.in-Command.is
    (c.of_station.ensures.fault (order_fault c.args.station.now.node.manager (stamp_of c.args.now) c.in-Command.order)
    (subst (λ (m : Moment). IfErr c.order_at.result (Hinders (order_fault c.args.station.now.node.manager m.stamp c.in-Command.order)))
    c.relative-moment.ensures c.order_at.ensures.fault))

pub returns-in-Tick-clause-fault : goal.returns-in-Tick-clause-fault
returns-in-Tick-clause-fault g c = rw c.in-Tick.is (c.of_station-in-Tick.ensures.fault None c.repeat_at.ensures.fault)

pub returns-in-Tell-clause-fault : goal.returns-in-Tell-clause-fault
returns-in-Tell-clause-fault g c = rw c.in-Tell.is (c.of_station-in-Tell.ensures.fault (tell_fault c.in-Tell.entity) c.tell_at.ensures.fault)

pub returns-in-Deliver-clause-keeps : goal.returns-in-Deliver-clause-keeps
returns-in-Deliver-clause-keeps g c =
    keeps_nothing c.args.station.now.index c.args.station.now.node c.args.recorder.now (g.L.Line.sent c.args.station.now.line)

pub returns-in-Command-clause-does : goal.returns-in-Command-clause-does
returns-in-Command-clause-does g c =
    rw c.in-Command.is (c.order_at.result, c.of_station.ensures.named, (c.order_at.ensures.counts, rw c.relative-moment.ensures at c.order_at.ensures.ends, c.order_at.ensures.refused))

pub returns-in-Tick-clause-does : goal.returns-in-Tick-clause-does
returns-in-Tick-clause-does g c =
    rw c.in-Tick.is (c.repeat_at.result, c.of_station-in-Tick.ensures.named, (c.repeat_at.ensures.counts, rw c.relative-moment.ensures at c.repeat_at.ensures.ends))

pub returns-in-Tell-clause-does : goal.returns-in-Tell-clause-does
returns-in-Tell-clause-does g c = rw c.in-Tell.is (c.tell_at.result, c.of_station-in-Tell.ensures.named, (refl, c.tell_at.ensures.ends, c.tell_at.ensures.refused))

pub returns-in-Deliver-clause-does : goal.returns-in-Deliver-clause-does
returns-in-Deliver-clause-does g c = rw c.in-Deliver.is (Ok tt, refl, (refl, refl, refl))
