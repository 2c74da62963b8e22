use Rattle.std.proofs.Common.{sym}
use Rattle.exercise_findings.proofs.FirstEntries.{firsts_order}
use Rattle.exercise_findings.proofs.Meant.{order_meant}
use Rattle.exercise_findings.proofs.firsts.first_near.Goals as goal

pub kept_at-requires : goal.kept_at-requires
kept_at-requires g c = order_meant (g.L.ExerciseLog.recording c.args.log.now) c.args.before c.args.firsts.now c.requires c.next-place.result

pub returns-in-Some : goal.returns-in-Some
returns-in-Some g c =
    let r = g.L.ExerciseLog.recording c.args.log.now in
    let here = rw c.in-Some.is at c.kept_at.ensures in
    sym (firsts_order r c.args.before c.args.firsts.now c.args.key.now c.next-place.result c.in-Some.entry c.requires here.0 here.1)
