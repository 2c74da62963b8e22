use Rattle.std.proofs.Common.{refl, ap, ◌∙◌, length}
use Rattle.std.specs.Prelude.{slice_index_or}
use Rattle.exercise_model.specs.Account.{pair_of}
use Rattle.exercise_findings.specs.Earlier.{request_in}
use Rattle.exercise_findings.proofs.Columns.{short_told}
use Rattle.exercise_findings.proofs.EarlierEntries.{requests_so_far}
use Rattle.exercise_findings.proofs.Looks.{pair_past}
use Rattle.exercise_findings.proofs.findings.Findings.pair.Goals as goal

pub returns : goal.returns
returns g c =
    let r = g.L.ExerciseLog.recording c.self.inside.log.now in
    let n = length r.entries in
    let xs = c.self.inside.found.earlier.items in
    rw (← c.self.view_is) (c.request_in.ensures ∙ ap request_in c.number_at.ensures ∙ ap (λ ys. request_in (slice_index_or ys c.args.entry 4294967295)) c.deref.ensures.value
    ∙ short_told request_in (pair_of r) 4294967295 n c.args.entry xs refl (requests_so_far r n xs c.self.invariant.found.earlier) (pair_past r))
