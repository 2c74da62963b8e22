use Rattle.std.proofs.Common.{length, sym, ap, ◌∙◌, arith}
use Rattle.std.specs.Prelude.{slice_get}
use Rattle.exercise_model.specs.Recording.{PlainRecording}
use Rattle.exercise_review.specs.Told.{reviewed_orders}
use Rattle.exercise_review.proofs.Rows.{row_there, row_some}
use Rattle.exercise_review.proofs.reviewed.Reviewed.told.Goals as goal

pub reported_by-requires : goal.reported_by-requires
reported_by-requires g c =
    let r : PlainRecording = c.self.inside.findings in
    let same = ap (λ (x : PlainRecording). length (reviewed_orders x)) c.self.view_is in
    row_some r c.self.inside.kept.rows.items (reviewed_orders r) c.args.place c.index.result.now c.self.invariant.rows (omega (arith, c.requires, same)) c.index.ensures

pub returns : goal.returns
returns g c =
    let r : PlainRecording = c.self.inside.findings in
    let same = ap (λ (x : PlainRecording). length (reviewed_orders x)) c.self.view_is in
    ap (λ (x : PlainRecording). slice_get (reviewed_orders x) c.args.place) (sym c.self.view_is)
    ∙ row_there r c.self.inside.kept.rows.items (reviewed_orders r) c.args.place c.index.result.now c.self.invariant.rows (omega (arith, c.requires, same)) c.index.ensures
    ∙ sym c.reported_by.ensures
