use Rattle.std.proofs.Common.{◌≡◌, length, arith, refl, sym, ap, ◌∙◌}
use Rattle.exercise_model.specs.Recording.{PlainRecording}
use Rattle.exercise_check.proofs.Offered.{good_few}
use Rattle.exercise_audit.proofs.Given.{started}
use Rattle.exercise_audit.proofs.Onward.{all_held, few_stations, fewer_left}
use Rattle.exercise_audit.proofs.search.take_others.Goals as goal

pub loop-turns-init : goal.loop-turns-init
loop-turns-init g c =
    let v = c.args.course.now in
    let count : c.station_count.result ≡ length v.recording.setting.stations =
    c.station_count.ensures.count ∙ ap (λ (r : PlainRecording). length r.setting.stations) (sym c.requires.recording) in
    record {
      recording = refl;
      search = started v c.no_waiting-waiting.result c.in_ok-turns.turns c.requires.course c.requires.timely (c.in_ok-turns.ensures.count ∙ count)
          (λ s l. c.in_ok-turns.ensures.each s (omega (arith, l, count)));
    }

pub loop-turns-smaller : goal.loop-turns-smaller
loop-turns-smaller g c =
    let v = c.take_earliest.new.course in
    let search = c.in_ok-take_earliest.ensures.search in
    let few = good_few v.recording search.course.limits v.steps search.course.good in
    let same : length v.recording.entries ≡ length c.args.course.now.recording.entries = ap (λ (r : PlainRecording). length r.entries)
    (c.take_earliest.ensures.recording ∙ c.loop-turns.invariant.recording) in
    fewer_left (length c.args.course.now.recording.entries) (length c.loop-turns.course.steps) (length v.steps) (length v.recording.entries)
    (c.in_ok-take_earliest.ensures.taken c.if-not-branch.false) few same

pub returns-clause-held : goal.returns-clause-held
returns-clause-held g c =
    all_held c.take_earliest.new.course c.take_earliest.new.waiting c.take_earliest.new.turns c.in_ok-take_earliest.ensures.search
    (c.in_ok-take_earliest.ensures.none c.if-not-branch.true)

pub first_turns-requires-clause-few : goal.first_turns-requires-clause-few
first_turns-requires-clause-few g c =
    let few = few_stations (g.L.ExerciseLog.recording c.args.log.now) c.station_count.ensures.limits in
    omega (arith, few, c.station_count.ensures.count)
