use Rattle.std.proofs.Common.{◌≡◌, ◌≤◌, length, ap, ◌∙◌, subst, arith}
use Rattle.exercise_model.specs.Recording.{PlainRecording, IsRecording}
use Rattle.exercise_review.proofs.Reviewing.{stays_refused, few_stations, lines_within}
use Rattle.exercise_review.proofs.reviewed.listed.Goals as goal

pub returns-in_err-stays-clause-refused : goal.returns-in_err-stays-clause-refused
returns-in_err-stays-clause-refused g c =
    let r : PlainRecording = c.args.findings in
    let count = c.station_count.ensures.count ∙ ap (λ (x : PlainRecording). length x.setting.stations) c.log.ensures in
    let len : c.len.result ≡ length c.in_ok-told.told.rows.items = omega (arith, c.len.ensures, c.in_ok-told.told.rows.ok.0) in
    stays_refused r c.in_ok-told.findings c.in_ok-told.told.rows.items c.station_count.result c.len.result c.in_err-stays.field-0.0 c.from_residual-in_err-stays.result
    c.from_residual-in_err-stays.ensures.1 c.in_ok-told.ensures.findings count len c.in_ok-told.ensures.told.1 c.in_err-stays.ensures

pub returns-clause-within : goal.returns-clause-within
returns-clause-within g c =
    let r : PlainRecording = c.args.findings in
    let count = c.station_count.ensures.count ∙ ap (λ (x : PlainRecording). length x.setting.stations) c.log.ensures in
    let len : c.len.result ≡ length c.in_ok-told.told.rows.items = omega (arith, c.len.ensures, c.in_ok-told.told.rows.ok.0) in
    let most = few_stations r (subst IsRecording c.log.ensures c.station_count.ensures.limits) in
    let few : c.station_count.result ≤ 4194303 = omega (arith, count, most) in
    lines_within r c.in_ok-told.findings c.in_ok-told.told.rows.items c.in_ok-stays.stays.items c.station_count.result c.len.result
    c.in_ok-told.ensures.findings count few len c.in_ok-told.ensures.told.1 c.in_ok-told.ensures.told.2 c.in_ok-stays.ensures
