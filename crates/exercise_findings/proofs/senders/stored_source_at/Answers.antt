use Rattle.exercise_findings.proofs.Sources.{order_found}
use Rattle.exercise_findings.proofs.senders.stored_source_at.Goals as goal

pub returns : goal.returns
returns g c n tied =
    let r = g.L.ExerciseLog.recording c.args.log.now in
    order_found r n c.args.senders.now c.args.datagram.now c.args.place c.kept_at.result tied c.kept_at.ensures
