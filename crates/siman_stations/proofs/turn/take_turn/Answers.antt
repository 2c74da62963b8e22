use Rattle.siman_stations.proofs.Replies.{said_of_reading}
use Rattle.siman_stations.proofs.turn.take_turn.Goals as goal

pub returns-in_ok-answered-in-Ok-clause-text : goal.returns-in_ok-answered-in-Ok-clause-text
returns-in_ok-answered-in-Ok-clause-text g c =
    said_of_reading c.args.node.now.application c.args.bytes.now c.in-Ok.pdu c.args.moment.stamp _ c.decode.result c.in-Ok.is c.decode.ensures.reads c.in_ok-answered-in-Ok.ensures.text
