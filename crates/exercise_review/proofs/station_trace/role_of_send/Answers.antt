use Rattle.exercise_review.proofs.Keyed.{sent_meaning}
use Rattle.exercise_review.proofs.station_trace.role_of_send.Goals as goal

pub meant_again-pdu-requires : goal.meant_again-pdu-requires
meant_again-pdu-requires g c =
    let q = c.args.replies.now in
    sent_meaning q.findings.now q.station c.args.entry c.args.bytes.now c.requires.sent c.requires.keyed
