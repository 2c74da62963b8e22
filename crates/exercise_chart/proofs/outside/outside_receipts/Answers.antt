use Rattle.std.proofs.Common.{◌≡◌, ℕ, ◌+◌, [], ◌∷◌, sym, ap, ◌∙◌}
use Rattle.std.specs.Option.{option_to_list}
use Rattle.exercise_review.specs.Room.{lists_below}
use Rattle.exercise_chart.specs.declared.point.Rows.{Rows}
use Rattle.exercise_chart.specs.Outside.{outside_receipt_at, outside_receipts_shown}
use Rattle.exercise_chart.specs.Scene.{SceneData}
use Rattle.exercise_chart.proofs.Lists.{list_added, list_kept}
use Rattle.exercise_chart.proofs.outside.outside_receipts.Goals.{in-Some+in_ok-push, in_default}
use Rattle.exercise_chart.proofs.outside.outside_receipts.Goals as goal
use Rattle.exercise_chart.proofs.Lists.{list_steps}
use Rattle.exercise_chart.specs.Outside.{outside_receipts}
use Rattle.std.proofs.Common.{arith}

pub loop-number-preserved : goal.loop-number-preserved
loop-number-preserved g c =
    let d : SceneData = c.args.scene.now in
    let k : ℕ = c.loop-number.number in
    let here : c.outside_receipt_at.result ≡ outside_receipt_at d (d.rows.first + k) = c.outside_receipt_at.ensures ∙ ap (λ (w : Rows). outside_receipt_at d (w.first + k)) c.rows-shown.ensures in
    elim c.match-outside_receipt_at.branch as (λ _. c.match-outside_receipt_at.found.items ≡ lists_below (outside_receipts_shown d) (k + 1)) [
      | in-Some+in_ok-push w ↦
          list_added (outside_receipts_shown d) k [] c.loop-number.found.items c.match-outside_receipt_at.found.items (w.in-Some.receipt ∷ [])
          (ap option_to_list (sym here ∙ w.in-Some.is)) c.loop-number.invariant (ap (λ v. v.items) w.found-is ∙ w.in_ok-push.ensures.items)
      | in_default w ↦
          list_kept (outside_receipts_shown d) k [] c.loop-number.found.items c.match-outside_receipt_at.found.items
          (ap option_to_list (sym here ∙ w.in_default.is)) c.loop-number.invariant (ap (λ v. v.items) w.found-is)
    ]

pub loop-number-init : goal.loop-number-init
unfolding outside_receipts
loop-number-init g c = grind (arith, list_steps)
