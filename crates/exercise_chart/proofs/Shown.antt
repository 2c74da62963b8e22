-- The rows of a good certificate are its steps.
use Rattle.std.proofs.Common.{◌≡◌, ℕ, zero, suc, ◌+◌, ◌-◌, ◌<◌, ◌≤◌, List, [], ◌∷◌, ◌++◌, length, map, take, refl, ap, ◌∙◌, arith}
use Rattle.std.specs.Prelude.{option_map, option_and_then}
use Rattle.std.specs.Option.{option_to_list}
use Rattle.std.proofs.lemmas.List.{map-append}
use Rattle.std.proofs.lemmas.Option.{slice_get-get_or}
use Rattle.exercise_model.specs.Recording.{PlainRecording}
use Rattle.exercise_model.specs.Account.{values_below}
use Rattle.exercise_check.specs.declared.certificate.Step.{Step}
use Rattle.exercise_check.specs.Goodness.{no_step, IsGood}
use Rattle.exercise_check.proofs.Offered.{good_step}
use Rattle.exercise_check.specs.Links.{step_at}
use Rattle.exercise_review.specs.Room.{lists_below}
use Rattle.dis_records.specs.declared.entity.EntityId.{EntityId}
use Rattle.exercise_chart.specs.declared.point.Rows.{Rows}
use Rattle.exercise_chart.specs.declared.selection.BlockedEntry.{BlockedEntry}
use Rattle.exercise_chart.specs.Scene.{SceneData}
use Rattle.exercise_chart.specs.Row.{row_of, row_taking, row_at, row_shown, rows_of}
use Rattle.exercise_chart.specs.Marks.{scene_of}
use Rattle.exercise_chart.specs.Picture.{row_fact, step_fact}

-- the row of a step of a good certificate
row_there : (r : PlainRecording) (steps : List Step) (w : Rows) (chosen : List EntityId) (blocked : List BlockedEntry) (k : ℕ) → IsGood r steps → k < length steps
    → map row_fact (option_to_list (row_at (scene_of r steps w chosen blocked) k)) ≡ (k, (step_at steps k).place) ∷ []
unfolding row_at
row_there r steps w chosen blocked k good within =
    let c : SceneData = scene_of r steps w chosen blocked in
    let here = good_step r (take k steps) (step_at steps k) (good.good k within) in
    ap (λ o. map row_fact (option_to_list (option_and_then (row_taking c k) (option_map (λ (step : Step). step.place) o)))) (slice_get-get_or steps k no_step within)
    ∙ ap (λ o. map row_fact (option_to_list (option_map (row_of c k (step_at steps k).place) o))) here.1.at

rows_so_far : (r : PlainRecording) (steps : List Step) (w : Rows) (chosen : List EntityId) (blocked : List BlockedEntry) (n : ℕ) → IsGood r steps → w.first + n ≤ length steps
    → map row_fact (lists_below (row_shown (scene_of r steps w chosen blocked)) n) ≡ values_below (step_fact steps w) n
unfolding lists_below values_below
rows_so_far r steps w chosen blocked zero good within = refl
rows_so_far r steps w chosen blocked (suc n) good within =
    map-append row_fact (lists_below (row_shown (scene_of r steps w chosen blocked)) n) (row_shown (scene_of r steps w chosen blocked) n)
    ∙ ap (λ xs. xs ++ map row_fact (row_shown (scene_of r steps w chosen blocked) n)) (rows_so_far r steps w chosen blocked n good (omega (arith, within)))
    ∙ ap (λ xs. values_below (step_fact steps w) n ++ xs) (row_there r steps w chosen blocked (w.first + n) good (omega (arith, within)))

pub rows_are_steps : (r : PlainRecording) (steps : List Step) (w : Rows) (chosen : List EntityId) (blocked : List BlockedEntry) → w.first ≤ w.end → IsGood r steps → w.end ≤ length steps
    → map row_fact (rows_of (scene_of r steps w chosen blocked)) ≡ values_below (step_fact steps w) (w.end - w.first)
unfolding rows_of
rows_are_steps r steps w chosen blocked ordered good within = rows_so_far r steps w chosen blocked (w.end - w.first) good (omega (arith, within, ordered))
