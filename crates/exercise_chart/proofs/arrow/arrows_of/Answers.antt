use Rattle.std.proofs.Common.{◌≡◌, ℕ, ◌+◌, [], ◌∷◌, sym, ap, ◌∙◌}
use Rattle.std.specs.Option.{option_to_list}
use Rattle.exercise_review.specs.Room.{lists_below}
use Rattle.exercise_chart.specs.Arrow.{arrows_to}
use Rattle.exercise_chart.specs.Scene.{SceneData}
use Rattle.exercise_chart.proofs.Lists.{list_added, list_kept}
use Rattle.exercise_chart.proofs.arrow.arrows_of.Goals.{in-Some+in_ok-push, in_default}
use Rattle.exercise_chart.proofs.arrow.arrows_of.Goals as goal
use Rattle.exercise_chart.proofs.Lists.{list_steps}
use Rattle.exercise_chart.specs.Arrow.{arrows_of}
use Rattle.std.proofs.Common.{arith}

pub loop-entry-preserved : goal.loop-entry-preserved
loop-entry-preserved g c =
    let d : SceneData = c.args.scene.now in
    let k : ℕ = c.loop-entry.entry in
    elim c.match-arrow_to.branch as (λ _. c.match-arrow_to.arrows.items ≡ lists_below (arrows_to d) (k + 1)) [
      | in-Some+in_ok-push w ↦
          list_added (arrows_to d) k [] c.loop-entry.arrows.items c.match-arrow_to.arrows.items (w.in-Some.arrow ∷ [])
          (ap option_to_list (sym c.arrow_to.ensures ∙ w.in-Some.is)) c.loop-entry.invariant (ap (λ v. v.items) w.arrows-is ∙ w.in_ok-push.ensures.items)
      | in_default w ↦
          list_kept (arrows_to d) k [] c.loop-entry.arrows.items c.match-arrow_to.arrows.items
          (ap option_to_list (sym c.arrow_to.ensures ∙ w.in_default.is)) c.loop-entry.invariant (ap (λ v. v.items) w.arrows-is)
    ]

pub loop-entry-init : goal.loop-entry-init
unfolding arrows_of
loop-entry-init g c = grind (arith, list_steps)
