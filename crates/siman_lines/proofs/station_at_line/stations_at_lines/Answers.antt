-- Each pair of a node and a line is the next one.
use Rattle.std.proofs.Common.{◌∙◌, ap, refl, inl, inr, arith, length}
use Rattle.std.specs.Vec.Iter.{into_iter_items, into_iter_len}
use Rattle.std.proofs.lemmas.Iterator.{YieldsList-from_zip}
use Rattle.std.proofs.lemmas.Iterator.Adapters.{YieldsList-from_vec}
use Rattle.std.proofs.lemmas.Iterator.Consumers.{YieldsList-turn, YieldsList-end}
use Rattle.std.proofs.lemmas.Slice.Zip.{length-zip}
use Rattle.siman_lines.specs.AtLines.{posts_from}
use Rattle.siman_lines.proofs.Rounds.{map_pairs, on_ok, posts_length, posts_put}
use Rattle.siman_lines.proofs.station_at_line.stations_at_lines.Goals as goal

pub returns-in_default-clause-fault : goal.returns-in_default-clause-fault
returns-in_default-clause-fault g c =
    let into = c.into_iter-node-iterator.ensures.into_iter_gives in
    let first = YieldsList-from_vec {s = c.into_iter-node-iterator.result.a} c.args.nodes.items (rw into (ap into_iter_items c.zip-node-items.ensures.first ∙ c.into_iter.ensures.rest))
    (rw into (ap into_iter_len c.zip-node-items.ensures.first ∙ (c.into_iter.ensures.len ∙ c.args.nodes.ok.0))) in
    let second = YieldsList-from_vec {s = c.into_iter-node-iterator.result.b} c.args.lines.items (rw into (ap into_iter_items c.zip-node-items.ensures.second ∙ c.into_iter-2.ensures.rest))
    (rw into (ap into_iter_len c.zip-node-items.ensures.second ∙ (c.into_iter-2.ensures.len ∙ c.args.lines.ok.0))) in
    let all = YieldsList-from_zip {s = c.into_iter-node-iterator.result} first second in
    let turn = YieldsList-turn all c.loop-node.yielded c.loop-node.node-iterator c.loop-node.yielded_by c.next.result c.next.new.self _ c.in-Some.is c.next.ensures.steps in
    let count = ap length c.loop-node.invariant ∙ posts_length 0 c.loop-node.yielded in
    inl (refl, inr (omega (arith, turn.0, count, length-zip c.args.nodes.items c.args.lines.items, c.len-in-loop-node.ensures, c.in_default.ensures)))

pub loop-node-preserved : goal.loop-node-preserved
loop-node-preserved g c =
    posts_put c.in-Ok.index c.loop-node.stations.items _ c.loop-node.yielded (c.in-Some.node, c.in-Some.line) c.loop-node.invariant
    (omega (arith, c.in-Ok.ensures.1, c.len-in-loop-node.ensures))
    (on_ok c.add_station.result (cc (c.is_err.ensures.value, c.if-is_err.false)) c.add_station.ensures)

pub returns-clause-posts : goal.returns-clause-posts
returns-clause-posts g c =
    let into = c.into_iter-node-iterator.ensures.into_iter_gives in
    let first = YieldsList-from_vec {s = c.into_iter-node-iterator.result.a} c.args.nodes.items (rw into (ap into_iter_items c.zip-node-items.ensures.first ∙ c.into_iter.ensures.rest))
    (rw into (ap into_iter_len c.zip-node-items.ensures.first ∙ (c.into_iter.ensures.len ∙ c.args.nodes.ok.0))) in
    let second = YieldsList-from_vec {s = c.into_iter-node-iterator.result.b} c.args.lines.items (rw into (ap into_iter_items c.zip-node-items.ensures.second ∙ c.into_iter-2.ensures.rest))
    (rw into (ap into_iter_len c.zip-node-items.ensures.second ∙ (c.into_iter-2.ensures.len ∙ c.args.lines.ok.0))) in
    let all = YieldsList-from_zip {s = c.into_iter-node-iterator.result} first second in
    let end = YieldsList-end all c.loop-node.yielded c.loop-node.node-iterator c.loop-node.yielded_by c.next.result c.next.new.self c.in-None.is c.next.ensures.steps in
    c.loop-node.invariant ∙ ap (posts_from 0) (map_pairs c.loop-node.yielded ∙ end.0)
