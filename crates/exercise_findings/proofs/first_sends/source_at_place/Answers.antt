use Rattle.exercise_findings.proofs.FirstSends.{order_source}
use Rattle.exercise_findings.proofs.first_sends.source_at_place.Goals as goal

pub returns : goal.returns
returns g c =
    let r = g.L.ExerciseLog.recording c.args.log.now in
    order_source r c.args.before c.args.sends.now c.args.datagram.now c.args.place c.kept_at.result c.requires c.kept_at.ensures
