use Rattle.std.proofs.Common.{subst}
use Rattle.exercise_model.specs.Recording.{IsRecording}
use Rattle.exercise_review.specs.Span.{spans_of}
use Rattle.exercise_review.specs.Stay.{stays_of}
use Rattle.exercise_review.proofs.Staying.{station_told, stays_made, stays_unmade}
use Rattle.exercise_review.proofs.stays.stays_of.Goals as goal

pub returns-in_err-push_station : goal.returns-in_err-push_station
returns-in_err-push_station g c =
    stays_unmade c.args.findings.now c.new-stays.result.items c.push_station.new.stays.items (stays_of c.args.findings.now c.args.station) (spans_of c.args.findings.now c.args.station) c.args.most
    c.in_err-push_station.field-0.0 c.from_residual-in_err-push_station.result c.from_residual-in_err-push_station.ensures.1 c.new-stays.ensures.items
    (station_told c.args.findings.now c.args.station (subst IsRecording c.log.ensures c.entry_count-entries.ensures.limits)) c.in_err-push_station.ensures

pub returns : goal.returns
returns g c =
    stays_made c.args.findings.now c.new-stays.result.items c.push_station.new.stays.items (stays_of c.args.findings.now c.args.station) (spans_of c.args.findings.now c.args.station) c.args.most c.new-stays.ensures.items
    (station_told c.args.findings.now c.args.station (subst IsRecording c.log.ensures c.entry_count-entries.ensures.limits)) c.in_ok-push_station.ensures
