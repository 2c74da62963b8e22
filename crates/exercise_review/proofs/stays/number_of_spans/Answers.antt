use Rattle.std.proofs.Common.{◌<◌, ◌≡◌, ℕ, length, ap, ◌∙◌, subst, arith}
use Rattle.exercise_model.specs.Recording.{PlainRecording, IsRecording}
use Rattle.exercise_review.specs.Room.{lists_below}
use Rattle.exercise_review.specs.Span.{all_spans}
use Rattle.exercise_review.specs.Stay.{stays_of, all_stays}
use Rattle.exercise_review.proofs.Courses.{changes_here}
use Rattle.exercise_review.proofs.Lists.{count_begins, count_goes_on, count_ends, counts_same}
use Rattle.exercise_review.proofs.Staying.{as_many_told}
use Rattle.exercise_review.proofs.stays.number_of_spans.Goals as goal

pub loop-station-init : goal.loop-station-init
loop-station-init g c = record { counted = count_begins 0 (stays_of c.args.findings.now); room = omega arith }

pub returns-in_err-count : goal.returns-in_err-count
unfolding all_stays
returns-in_err-count g c =
    let r : PlainRecording = c.args.findings.now in
    let k : ℕ = c.loop-station.station in
    let count = c.station_count-station-end.ensures.count ∙ ap (λ (x : PlainRecording). length x.setting.stations) c.log-2.ensures in
    let below : k < length r.setting.stations = omega (arith, c.loop-station-test.true, c.loop-station.auto.station-end, count) in
    let told : length (all_stays r) ≡ length (all_spans r) = as_many_told r (subst IsRecording c.log.ensures c.entry_count-entries.ensures.limits) in
    counts_same (all_stays r) (all_spans r) c.args.most 0 c.from_residual.result told
    (count_ends 0 c.loop-station.count (stays_of r) k (length r.setting.stations) c.args.most c.in_err-count.field-0.0
    c.from_residual.result c.from_residual.ensures.1 below
    c.loop-station.invariant.counted c.in_err-count.ensures)

pub count_station-requires-clause-changes : goal.count_station-requires-clause-changes
count_station-requires-clause-changes g c =
    let r : PlainRecording = c.args.findings.now in
    let all = c.requires in
    let count = c.station_count-station-end.ensures.count ∙ ap (λ (x : PlainRecording). length x.setting.stations) c.log-2.ensures in
    let within : c.loop-station.station < length c.args.changes.now = omega (arith, c.loop-station-test.true, c.loop-station.auto.station-end, count, all.count) in
    c.deref.ensures.value ∙ changes_here r c.args.changes.now c.loop-station.station c.index-changes-station.result all within c.index-changes-station.is

pub loop-station-preserved : goal.loop-station-preserved
loop-station-preserved g c =
    record {
      counted = count_goes_on 0 c.loop-station.count c.in_ok-count.count (stays_of c.args.findings.now) c.loop-station.station
          c.loop-station.invariant.counted c.in_ok-count.ensures.0;
      room = c.in_ok-count.ensures.1;
    }

pub returns : goal.returns
unfolding all_stays
returns g c =
    let r : PlainRecording = c.args.findings.now in
    let told : length (all_stays r) ≡ length (all_spans r) = as_many_told r (subst IsRecording c.log.ensures c.entry_count-entries.ensures.limits) in
    let count = c.station_count-station-end.ensures.count ∙ ap (λ (x : PlainRecording). length x.setting.stations) c.log-2.ensures in
    let end : c.loop-station.station ≡ length r.setting.stations = omega (arith, c.loop-station-test.false, c.loop-station.auto.station-end, count) in
    (omega (arith, c.loop-station.invariant.counted, ap (λ n. length (lists_below (stays_of r) n)) end, told), c.loop-station.invariant.room)
