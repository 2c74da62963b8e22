use Rattle.std.proofs.Common.{subst}
use Rattle.exercise_model.specs.Recording.{IsRecording}
use Rattle.exercise_review.specs.Span.{all_spans}
use Rattle.exercise_review.specs.Stay.{all_stays}
use Rattle.exercise_review.proofs.Staying.{all_told, stays_made, stays_unmade}
use Rattle.exercise_review.proofs.stays.stays_within.Goals as goal

pub returns-in_err-push_stays : goal.returns-in_err-push_stays
returns-in_err-push_stays g c =
    stays_unmade c.args.findings.now c.new-stays.result.items c.push_stays.new.stays.items (all_stays c.args.findings.now) (all_spans c.args.findings.now) c.args.most
    c.in_err-push_stays.field-0.0 c.from_residual.result c.from_residual.ensures.1 c.new-stays.ensures.items
    (all_told c.args.findings.now (subst IsRecording c.log.ensures c.entry_count-entries.ensures.limits)) c.in_err-push_stays.ensures

pub returns : goal.returns
returns g c =
    stays_made c.args.findings.now c.new-stays.result.items c.push_stays.new.stays.items (all_stays c.args.findings.now) (all_spans c.args.findings.now) c.args.most c.new-stays.ensures.items
    (all_told c.args.findings.now (subst IsRecording c.log.ensures c.entry_count-entries.ensures.limits)) c.in_ok-push_stays.ensures
