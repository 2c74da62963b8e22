use Rattle.std.proofs.Common.{ℕ, ◌+◌, List, sym, ◌∙◌, subst}
use Rattle.exercise_findings.specs.Behind.{AreChangeKeys}
use Rattle.exercise_findings.proofs.Ables.{behind_more, behind_still}
use Rattle.exercise_findings.proofs.behind.note_change_key.Goals as goal

pub returns-in_ok-push-in-Some : goal.returns-in_ok-push-in-Some
returns-in_ok-push-in-Some g c =
    let r = g.L.ExerciseLog.recording c.args.log.now in
    subst (λ (xs : List ℕ). AreChangeKeys r (c.args.entry + 1) xs) (sym c.in_ok-push-in-Some.ensures.items)
    (behind_more r c.args.entry c.args.ables.now.items c.requires.tied)

pub returns-in-None : goal.returns-in-None
returns-in-None g c =
    let r = g.L.ExerciseLog.recording c.args.log.now in
    behind_still r c.args.entry c.args.ables.now.items (sym c.in-None.is ∙ c.requires.behind) c.requires.tied
