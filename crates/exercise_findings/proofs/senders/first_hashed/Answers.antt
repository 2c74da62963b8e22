use Rattle.std.proofs.Common.{◌≡◌, ℕ, false, subst}
use Rattle.std.specs.Prelude.{IfNone}
use Rattle.exercise_findings.specs.Slots.{IsReached}
use Rattle.exercise_findings.specs.Senders.{sends_at}
use Rattle.exercise_findings.proofs.Sources.{senders_looked_up}
use Rattle.exercise_findings.proofs.senders.first_hashed.Goals as goal

pub returns : goal.returns
returns g c n tied =
    let r = g.L.ExerciseLog.recording c.args.log.now in
    let senders = c.args.senders.now in
    let b = c.args.datagram.now in
    senders_looked_up r n senders b c.find.result tied c.find.ensures.found
    (subst (λ h. IfNone c.find.result ((e : ℕ) → IsReached senders.slots.slots h e → sends_at r b e ≡ false)) c.requires c.find.ensures.absent)
