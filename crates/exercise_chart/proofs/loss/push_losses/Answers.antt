use Rattle.std.proofs.Common.{◌≡◌, ℕ, ◌+◌, [], ◌∷◌, ◌++◌, sym, ap, ◌∙◌}
use Rattle.std.specs.Option.{option_to_list}
use Rattle.exercise_review.specs.Room.{lists_below}
use Rattle.exercise_chart.specs.Loss.{losses_to}
use Rattle.exercise_chart.specs.Scene.{SceneData}
use Rattle.exercise_chart.proofs.Lists.{lists_begin, list_added, list_kept}
use Rattle.exercise_chart.proofs.loss.push_losses.Goals.{in-Some+in_ok-push, in_default}
use Rattle.exercise_chart.proofs.loss.push_losses.Goals as goal

pub loop-other-init : goal.loop-other-init
loop-other-init g c = lists_begin (losses_to c.args.scene.now c.args.step) c.args.losses.now.items

pub loop-other-preserved : goal.loop-other-preserved
loop-other-preserved g c =
    let d : SceneData = c.args.scene.now in
    let k : ℕ = c.loop-other.other in
    elim c.match-loss_at.branch as (λ _. c.match-loss_at.losses.items ≡ c.args.losses.now.items ++ lists_below (losses_to d c.args.step) (k + 1)) [
      | in-Some+in_ok-push w ↦
          list_added (losses_to d c.args.step) k c.args.losses.now.items c.loop-other.losses.items c.match-loss_at.losses.items (w.in-Some.loss ∷ [])
          (ap option_to_list (sym c.loss_at.ensures ∙ w.in-Some.is)) c.loop-other.invariant (ap (λ v. v.items) w.losses-is ∙ w.in_ok-push.ensures.items)
      | in_default w ↦
          list_kept (losses_to d c.args.step) k c.args.losses.now.items c.loop-other.losses.items c.match-loss_at.losses.items
          (ap option_to_list (sym c.loss_at.ensures ∙ w.in_default.is)) c.loop-other.invariant (ap (λ v. v.items) w.losses-is)
    ]
