use Rattle.std.proofs.Common.{◌<◌, ℕ, length, ap, ◌∙◌, arith}
use Rattle.exercise_model.specs.Recording.{PlainRecording}
use Rattle.exercise_review.specs.Order.{OrderData, order_of}
use Rattle.exercise_review.proofs.PartyPlaces.{station_place, target_place, heard_place}
use Rattle.exercise_review.proofs.parties.candidate.Goals as goal

pub returns-then-place-stations : goal.returns-then-place-stations
returns-then-place-stations g c =
    let r : PlainRecording = c.args.findings.now in
    let o : OrderData = order_of c.args.order.now in
    let count = c.station_count-stations.ensures.count ∙ ap (λ (x : PlainRecording). length x.setting.stations) c.log.ensures in
    station_place r o c.station_count-stations.result c.args.place c.station_parts.result count (omega (arith, c.if-place-stations.true)) c.station_parts.ensures

pub returns-then-place-stations-2 : goal.returns-then-place-stations-2
returns-then-place-stations-2 g c =
    let r : PlainRecording = c.args.findings.now in
    let o : OrderData = order_of c.args.order.now in
    let count = c.station_count-stations.ensures.count ∙ ap (λ (x : PlainRecording). length x.setting.stations) c.log.ensures in
    target_place r o c.station_count-stations.result c.args.place c.site_application.result count (omega (arith, c.if-place-stations-2.true)) c.site_application.ensures

pub returns-else-place-stations-2 : goal.returns-else-place-stations-2
returns-else-place-stations-2 g c =
    let r : PlainRecording = c.args.findings.now in
    let o : OrderData = order_of c.args.order.now in
    let n : ℕ = c.station_count-stations.result in
    let count = c.station_count-stations.ensures.count ∙ ap (λ (x : PlainRecording). length x.setting.stations) c.log.ensures in
    let above : n < c.args.place = omega (arith, c.if-place-stations.false, c.if-place-stations-2.false) in
    c.heard_from.ensures ∙ heard_place r o n c.args.place count above
