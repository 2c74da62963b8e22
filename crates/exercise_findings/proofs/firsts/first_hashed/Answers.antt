use Rattle.std.proofs.Common.{◌≡◌, ℕ, false, subst}
use Rattle.std.specs.Prelude.{IfNone}
use Rattle.exercise_findings.specs.Slots.{IsReached}
use Rattle.exercise_findings.specs.Firsts.{has_key}
use Rattle.exercise_findings.proofs.FirstEntries.{firsts_looked_up}
use Rattle.exercise_findings.proofs.Meant.{firsts_meant}
use Rattle.exercise_findings.proofs.firsts.first_hashed.Goals as goal

pub find-requires : goal.find-requires
find-requires g c = firsts_meant (g.L.ExerciseLog.recording c.args.log.now) c.args.before c.args.firsts.now c.requires.tied

pub returns : goal.returns
returns g c =
    let r = g.L.ExerciseLog.recording c.args.log.now in
    let firsts = c.args.firsts.now in
    let k = c.args.key.now in
    firsts_looked_up r c.args.before firsts k c.find.result c.requires.tied c.find.ensures.found
    (subst (λ h. IfNone c.find.result ((e : ℕ) → IsReached firsts.slots.slots h e → has_key r k e ≡ false)) c.requires.hash c.find.ensures.absent)
