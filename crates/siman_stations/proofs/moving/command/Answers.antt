use Rattle.std.proofs.Common.{refl}
use Rattle.siman_pdus.specs.Spelling.{pdu_text}
use Rattle.siman_stations.specs.Sending.{next_order}
use Rattle.siman_stations.specs.StationTurn.{stamp_of}
use Rattle.siman_stations.proofs.Writings.{writes_sent}
use Rattle.siman_stations.proofs.moving.command.Goals as goal

pub returns-clause-entries : goal.returns-clause-entries
returns-clause-entries c =
    let text = pdu_text (next_order c.args.node.now.manager (stamp_of c.args.now) c.args.order) in
    writes_sent c.args.station c.args.now c.make_order.new.text.items text c.args.journal.now _ c.send.new.self refl refl
    c.in_ok-make_order.ensures.text c.in_ok-send.ensures
