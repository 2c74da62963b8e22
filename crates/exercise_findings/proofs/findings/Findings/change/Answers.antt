use Rattle.std.proofs.Common.{refl, ap, ◌∙◌, length}
use Rattle.std.specs.Prelude.{slice_index_or}
use Rattle.exercise_model.specs.Account.{change_at}
use Rattle.exercise_findings.specs.ChangeNumber.{change_in}
use Rattle.exercise_findings.proofs.Columns.{short_told}
use Rattle.exercise_findings.proofs.Looks.{change_past}
use Rattle.exercise_findings.proofs.findings.Findings.change.Goals as goal

pub returns : goal.returns
returns g c =
    let r = g.L.ExerciseLog.recording c.self.inside.log.now in
    rw (← c.self.view_is) (c.change_in.ensures ∙ ap change_in c.number_at.ensures ∙ ap (λ ys. change_in (slice_index_or ys c.args.entry 0)) c.deref.ensures.value
    ∙ short_told change_in (change_at r) 0 (length r.entries) c.args.entry c.self.inside.found.changes.items refl c.self.invariant.found.changes (change_past r))
