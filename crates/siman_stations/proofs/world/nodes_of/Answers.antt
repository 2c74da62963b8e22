use Rattle.std.proofs.Common.{◌+◌, ◌<◌, List, [], ◌∷◌, ◌++◌, length, take, subst, sym, ap, ◌∙◌, arith}
use Rattle.std.proofs.lemmas.List.{take_more}
use Rattle.siman_stations.specs.declared.turn.Node.{Node}
use Rattle.siman_stations.specs.Holds.{AreNewNodes}
use Rattle.siman_scripts.specs.Stations.{WorldStationData}
use Rattle.siman_stations.proofs.Begins.{new_push}
use Rattle.siman_stations.proofs.world.nodes_of.Goals as goal
use Rattle.std.proofs.lemmas.Grind.{common_steps}

pub loop-station-preserved : goal.loop-station-preserved
loop-station-preserved c =
    let x = c.args.exercise in
    let ss = c.args.stations.now in
    let i = c.loop-station.station-index in
    let s = c.station-item.result in
    let n = c.in_ok-node_of.field-0 in
    let below : i < length ss = omega arith in
    let more = new_push x (take i ss) c.loop-station.nodes.items s n c.loop-station.invariant c.in_ok-node_of.ensures.node in
    subst (λ (ns : List Node). AreNewNodes x (take (i + 1) ss) ns) (sym c.in_ok-push.ensures.items)
    (subst (λ (ts : List WorldStationData). AreNewNodes x ts (c.loop-station.nodes.items ++ n ∷ []))
    (ap (λ (t : WorldStationData). take i ss ++ t ∷ []) c.station-item.is ∙ sym (take_more ss i s below)) more)

pub returns-in_err-node_of-clause-fault : goal.returns-in_err-node_of-clause-fault
returns-in_err-node_of-clause-fault c = grind (arith, common_steps)

pub returns-clause-nodes : goal.returns-clause-nodes
returns-clause-nodes c = grind (arith, common_steps)
