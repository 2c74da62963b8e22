use Rattle.std.proofs.Common.{◌<◌, ℕ, length, ap, ◌∙◌, arith}
use Rattle.exercise_model.specs.Recording.{PlainRecording}
use Rattle.exercise_review.specs.Stay.{stays_of, all_stays}
use Rattle.exercise_review.proofs.Courses.{changes_here}
use Rattle.exercise_review.proofs.Lists.{room_begins, room_goes_on, room_ends}
use Rattle.exercise_review.proofs.stays.push_stays.Goals as goal

pub loop-station-init : goal.loop-station-init
loop-station-init g c = record { added = room_begins c.args.stays.now.items (stays_of c.args.findings.now); room = c.requires.room }

pub returns-in_err-push_station : goal.returns-in_err-push_station
unfolding all_stays
returns-in_err-push_station g c =
    let r : PlainRecording = c.args.findings.now in
    let k : ℕ = c.loop-station.station in
    let count = c.station_count-station-end.ensures.count ∙ ap (λ (x : PlainRecording). length x.setting.stations) c.log.ensures in
    let below : k < length r.setting.stations = omega (arith, c.loop-station-test.true, c.loop-station.auto.station-end, count) in
    room_ends c.args.stays.now.items c.loop-station.stays.items c.push_station.new.stays.items c.push_station.new.stays.items (stays_of r) k
    (length r.setting.stations) c.args.most c.in_err-push_station.field-0.0 c.from_residual.result c.from_residual.ensures.1 below
    c.loop-station.invariant.added c.in_err-push_station.ensures

pub push_station-requires-clause-changes : goal.push_station-requires-clause-changes
push_station-requires-clause-changes g c =
    let r : PlainRecording = c.args.findings.now in
    let all = c.requires.changes in
    let count = c.station_count-station-end.ensures.count ∙ ap (λ (x : PlainRecording). length x.setting.stations) c.log.ensures in
    let within : c.loop-station.station < length c.args.changes.now = omega (arith, c.loop-station-test.true, c.loop-station.auto.station-end, count, all.count) in
    c.deref.ensures.value ∙ changes_here r c.args.changes.now c.loop-station.station c.index-changes-station.result all within c.index-changes-station.is

pub loop-station-preserved : goal.loop-station-preserved
loop-station-preserved g c =
    record {
      added = room_goes_on c.args.stays.now.items c.loop-station.stays.items c.push_station.new.stays.items (stays_of c.args.findings.now) c.loop-station.station
          c.loop-station.invariant.added c.in_ok-push_station.ensures.0;
      room = c.in_ok-push_station.ensures.1;
    }
