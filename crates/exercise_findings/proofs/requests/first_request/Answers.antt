use Rattle.std.proofs.Common.{◌≡◌, ℕ, false, subst}
use Rattle.std.specs.Prelude.{IfNone}
use Rattle.exercise_findings.specs.Slots.{IsReached}
use Rattle.exercise_findings.specs.Requests.{asks_at}
use Rattle.exercise_findings.proofs.Reused.{first_looked_up}
use Rattle.exercise_findings.proofs.Meant.{requests_meant}
use Rattle.exercise_findings.proofs.requests.first_request.Goals as goal

pub find-requires : goal.find-requires
find-requires g c = requests_meant (g.L.ExerciseLog.recording c.args.log.now) c.args.before c.args.requests.now c.requires.tied

pub returns : goal.returns
returns g c =
    let r = g.L.ExerciseLog.recording c.args.log.now in
    let requests = c.args.requests.now in
    let k = c.args.identifier.now in
    first_looked_up r c.args.before requests k c.find.result c.requires.tied c.find.ensures.found
    (subst (λ h. IfNone c.find.result ((e : ℕ) → IsReached requests.firsts.slots.slots h e → asks_at r k e ≡ false)) c.requires.hash c.find.ensures.absent)
