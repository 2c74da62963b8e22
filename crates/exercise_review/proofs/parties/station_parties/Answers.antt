use Rattle.std.proofs.Common.{◌≡◌, ℕ, ◌+◌, ◌<◌, length, refl, sym, ap, ◌∙◌, arith}
use Rattle.exercise_model.specs.Recording.{PlainRecording, IsRecording}
use Rattle.exercise_review.specs.Order.{OrderData, order_of}
use Rattle.exercise_review.specs.Parties.{parties_below}
use Rattle.exercise_review.proofs.Stationed.{up_to, with_station, no_station, none_before, none_behind, all_stations}
use Rattle.exercise_review.proofs.parties.station_parties.Goals.{then-is_party_by+in_ok-push, else-is_party_by}
use Rattle.exercise_review.proofs.parties.station_parties.Goals as goal

pub loop-station-init : goal.loop-station-init
loop-station-init g c =
    let r : PlainRecording = c.args.findings.now in
    let among = c.addressed_among-from.ensures in
    c.requires.none
    ∙ none_before r among.limits (order_of c.args.order.now) c.requires.recorded c.addressed_among-from.result.0 c.addressed_among-from.result.1 (omega (arith, among.within.0, among.within.1)) among.all

pub loop-station-preserved : goal.loop-station-preserved
loop-station-preserved g c =
    let r : PlainRecording = c.args.findings.now in
    let o : OrderData = order_of c.args.order.now in
    let s : ℕ = c.loop-station.station in
    let is : IsRecording r = c.addressed_among-from.ensures.limits in
    let within : s < length r.setting.stations = omega (arith, c.addressed_among-from.ensures.within.1, c.loop-station-test.true) in
    elim c.if-is_party_by.branch as (λ _. c.if-is_party_by.parties.items ≡ parties_below r o (up_to r (s + 1))) [
      | then-is_party_by+in_ok-push w ↦
          with_station r is o c.requires.recorded s within (sym c.is_party_by.ensures ∙ w.if-is_party_by.true) c.loop-station.parties.items c.if-is_party_by.parties.items
          c.loop-station.invariant (ap (λ v. v.items) w.parties-is ∙ w.in_ok-push.ensures.items)
      | else-is_party_by w ↦
          ap (λ v. v.items) w.parties-is
          ∙ no_station r is o c.requires.recorded s within (sym c.is_party_by.ensures ∙ w.if-is_party_by.false) c.loop-station.parties.items c.loop-station.invariant
    ]

pub returns : goal.returns
returns g c =
    let r : PlainRecording = c.args.findings.now in
    let o : OrderData = order_of c.args.order.now in
    let among = c.addressed_among-from.ensures in
    let end : c.loop-station.station ≡ c.addressed_among-from.result.1 = omega (arith, among.within.0, c.loop-station-test.false, c.loop-station.auto.station-end) in
    all_stations r among.limits o c.requires.recorded (length r.setting.stations) refl c.loop-station.parties.items
    (none_behind r among.limits o c.requires.recorded c.addressed_among-from.result.0 c.addressed_among-from.result.1 among.within.1 among.all c.loop-station.parties.items
    (c.loop-station.invariant ∙ ap (λ n. parties_below r o (up_to r n)) end))
