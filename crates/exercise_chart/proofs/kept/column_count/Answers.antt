use Rattle.std.proofs.Common.{◌≡◌, ℕ, ◌+◌, ◌≤◌, Option, refl, sym, ap, ◌∙◌, arith}
use Rattle.std.specs.Prelude.{is_some, if◌then◌else◌}
use Rattle.exercise_model.specs.Recording.{PlainRecording}
use Rattle.exercise_chart.specs.Kept.{kept_below}
use Rattle.exercise_chart.proofs.KeptStations.{kept_more}
use Rattle.exercise_chart.proofs.kept.column_count.Goals.{then-is_some, else-is_some}
use Rattle.exercise_chart.proofs.kept.column_count.Goals as goal

pub loop-station-init : goal.loop-station-init
unfolding kept_below
loop-station-init g c = record { kept = refl; few = omega arith }

pub loop-station-preserved : goal.loop-station-preserved
loop-station-preserved g c =
    let r : PlainRecording = g.L.ExerciseLog.recording c.args.log.now in
    let n : ℕ = c.loop-station.station in
    let kept : ℕ = c.loop-station.kept in
    let column : Option ℕ = c.column_of-column.result in
    let now : (c.if-is_some.kept ≡ (if is_some column then kept + 1 else kept)) × (c.if-is_some.kept ≤ n + 1) =
    elim c.if-is_some.branch as (λ _. (c.if-is_some.kept ≡ (if is_some column then kept + 1 else kept)) × (c.if-is_some.kept ≤ n + 1)) [
      | then-is_some w ↦
          (w.kept-is ∙ sym (ap (λ t. if t then kept + 1 else kept) (sym c.is_some.ensures ∙ w.if-is_some.true)), omega (arith, w.kept-is, c.loop-station.invariant.few))
      | else-is_some w ↦
          (w.kept-is ∙ sym (ap (λ t. if t then kept + 1 else kept) (sym c.is_some.ensures ∙ w.if-is_some.false)), omega (arith, w.kept-is, c.loop-station.invariant.few))
    ] in
    record {
      kept = now.0 ∙ kept_more r c.args.stations.now n kept column c.column_of-column.ensures c.loop-station.invariant.kept;
      few = now.1;
    }
