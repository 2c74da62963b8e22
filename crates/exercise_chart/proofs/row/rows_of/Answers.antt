use Rattle.std.proofs.Common.{◌≡◌, ℕ, ◌+◌, [], ◌∷◌, sym, ap, ◌∙◌}
use Rattle.std.specs.Option.{option_to_list}
use Rattle.exercise_review.specs.Room.{lists_below}
use Rattle.exercise_chart.specs.declared.point.Rows.{Rows}
use Rattle.exercise_chart.specs.Row.{row_at, row_shown}
use Rattle.exercise_chart.specs.Scene.{SceneData}
use Rattle.exercise_chart.proofs.Lists.{list_added, list_kept}
use Rattle.exercise_chart.proofs.row.rows_of.Goals.{in-Some+in_ok-push, in_default}
use Rattle.exercise_chart.proofs.row.rows_of.Goals as goal
use Rattle.exercise_chart.proofs.Lists.{list_steps}
use Rattle.exercise_chart.specs.Row.{rows_of}
use Rattle.std.proofs.Common.{arith}

pub loop-number-preserved : goal.loop-number-preserved
loop-number-preserved g c =
    let d : SceneData = c.args.scene.now in
    let k : ℕ = c.loop-number.number in
    let here : c.row_at.result ≡ row_at d (d.rows.first + k) = c.row_at.ensures ∙ ap (λ (w : Rows). row_at d (w.first + k)) c.rows-shown.ensures in
    elim c.match-row_at.branch as (λ _. c.match-row_at.rows.items ≡ lists_below (row_shown d) (k + 1)) [
      | in-Some+in_ok-push w ↦
          list_added (row_shown d) k [] c.loop-number.rows.items c.match-row_at.rows.items (w.in-Some.row ∷ [])
          (ap option_to_list (sym here ∙ w.in-Some.is)) c.loop-number.invariant (ap (λ v. v.items) w.rows-is ∙ w.in_ok-push.ensures.items)
      | in_default w ↦
          list_kept (row_shown d) k [] c.loop-number.rows.items c.match-row_at.rows.items
          (ap option_to_list (sym here ∙ w.in_default.is)) c.loop-number.invariant (ap (λ v. v.items) w.rows-is)
    ]

pub loop-number-init : goal.loop-number-init
unfolding rows_of
loop-number-init g c = grind (arith, list_steps)
