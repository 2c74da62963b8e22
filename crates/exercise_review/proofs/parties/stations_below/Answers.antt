use Rattle.std.proofs.Common.{◌+◌, ◌-◌, ◌/◌, ◌<◌, ℕ, length, sym, ◌∙◌, arith}
use Rattle.std.proofs.lemmas.Bool.{ltb-true, ltb-false}
use Rattle.exercise_model.specs.Recording.{PlainRecording}
use Rattle.exercise_review.proofs.Stationed.{all_below, all_from}
use Rattle.exercise_review.proofs.parties.stations_below.Goals as goal

pub loop-low-init : goal.loop-low-init
loop-low-init g c = record {
  most = omega (arith, c.station_count-high.ensures.count);
  order = omega arith;
  below = λ s l. absurd (let no : ⊥ = omega (arith, l) in no);
  from = λ s above l. absurd (let no : ⊥ = omega (arith, above, l, c.station_count-high.ensures.count) in no);
}

pub loop-low-preserved-then-is_below : goal.loop-low-preserved-then-is_below
loop-low-preserved-then-is_below g c =
    let r : PlainRecording = g.L.ExerciseLog.recording c.args.log.now in
    let was = c.loop-low.invariant in
    let middle : ℕ = c.loop-low.low + (c.loop-low.high - c.loop-low.low) / 2 in
    let within : middle < length r.setting.stations = omega (arith, was.most, was.order, c.loop-low-test.true) in
    record {
      most = was.most;
      order = omega (arith, c.loop-low-test.true);
      below = λ s l. all_below r c.station_count-high.ensures.limits middle c.args.number within (ltb-true _ _ (sym c.is_below.ensures ∙ c.if-is_below.true)) s l;
      from = was.from;
    }

pub loop-low-preserved : goal.loop-low-preserved
loop-low-preserved g c =
    let r : PlainRecording = g.L.ExerciseLog.recording c.args.log.now in
    let was = c.loop-low.invariant in
    let middle : ℕ = c.loop-low.low + (c.loop-low.high - c.loop-low.low) / 2 in
    record {
      most = omega (arith, was.most, was.order, c.loop-low-test.true);
      order = omega (arith, c.loop-low-test.true);
      below = was.below;
      from = λ s above l. all_from r c.station_count-high.ensures.limits middle c.args.number (ltb-false _ _ (sym c.is_below.ensures ∙ c.if-is_below.false)) s above l;
    }
