-- The lines of one more station.
use Rattle.std.proofs.Common.{◌<◌, length, string_bytes, ap, ◌∙◌, arith}
use Rattle.std.specs.List.{flat_map}
use Rattle.exercise_model.specs.History.{station_at}
use Rattle.exercise_model.specs.Account.{entities_of}
use Rattle.siman_print.specs.Spelled.{line_text}
use Rattle.exercise_check.specs.Report.{entity_line, entities_at}
use Rattle.siman_print.proofs.Texts.{texts-none, texts-with-next, states_of-station, line-of-same}
use Rattle.exercise_check.proofs.report.put_states.Goals as goal

pub loop-station-init : goal.loop-station-init
loop-station-init g c = texts-none _ _

pub loop-station-preserved : goal.loop-station-preserved
loop-station-preserved g c =
    let r = g.L.ExerciseLog.recording c.args.log.now in
    let s = c.loop-station.station in
    let within : s < length r.setting.stations = omega (arith, c.loop-station-test.true, c.station_count-station-end.ensures.count) in
    let old = string_bytes c.loop-station.text in
    let own = c.states.ensures ∙ c.requires.states s ∙ states_of-station r s within in
    let at = c.address-address.ensures.address ∙ ap (λ o. o.address) c.station.ensures.station in
    let addressed = line-of-same (λ a. flat_map (λ present. line_text (entity_line a present)) c.states.result.now) old _ c.address-address.result
    (station_at r s).address c.in_ok-put_entities.ensures at in
    let step = line-of-same (flat_map (λ present. line_text (entity_line (station_at r s).address present))) old _ c.states.result.now (entities_of r s) addressed own in
    texts-with-next (entities_at r) s (string_bytes c.args.text.now) old _ step c.loop-station.invariant
