-- The marks of a recording are of its stations.
use Rattle.std.proofs.Common.{◌≡◌, ℕ, zero, suc, ◌+◌, ◌<◌, List, [], ◌∷◌, length, Some, None, refl, arith}
use Rattle.std.specs.Prelude.{All, slice_get, option_map, option_and_then}
use Rattle.std.specs.Option.{option_to_list}
use Rattle.std.specs.List.{flat_map}
use Rattle.std.proofs.lemmas.List.Elements.{All-nil, All-cons, All-append}
use Rattle.exercise_model.specs.Recording.{PlainRecording, IsRecording}
use Rattle.exercise_model.proofs.Offered.{entry_station}
use Rattle.exercise_check.specs.declared.certificate.Step.{Step}
use Rattle.exercise_review.specs.Room.{lists_below}
use Rattle.dis_records.specs.declared.entity.EntityId.{EntityId}
use Rattle.exercise_chart.specs.declared.point.Rows.{Rows}
use Rattle.exercise_chart.specs.declared.selection.BlockedEntry.{BlockedEntry}
use Rattle.exercise_chart.specs.declared.blocked.BlockedRow.{BlockedRow}
use Rattle.exercise_chart.specs.declared.row.Row.{Row}
use Rattle.exercise_chart.specs.Point.{place_at}
use Rattle.exercise_chart.specs.Row.{row_of, row_taking, row_at, row_count, row_shown, rows_of}
use Rattle.exercise_chart.specs.Blocked.{with_cause, blocked_row_of, blocked_rows}
use Rattle.exercise_chart.specs.Marks.{scene_of, marks_of}
use Rattle.exercise_chart.specs.Scene.{SceneData}
use Rattle.exercise_chart.specs.Drawing.{AreOfStations}

all_below : {X : Type 0} (P : X → Type 0) (f : ℕ → List X) (n : ℕ) → ((k : ℕ) → k < n → All P (f k)) → All P (lists_below f n)
unfolding lists_below
all_below P f zero each = All-nil P
all_below P f (suc n) each = All-append P (lists_below f n) (f n) (all_below P f n (λ k below. each k (omega (arith, below)))) (each n (omega arith))

-- ---- rows

abbrev pub IsRowOf : ℕ → Row → Type 0
IsRowOf n row = row.at.station < n

row_taken : (c : SceneData) (step i : ℕ) → IsRecording c.recording → All (IsRowOf (length c.recording.setting.stations)) (option_to_list (row_taking c step i))
row_taken c step i limits =
    elim (slice_get c.recording.entries i) as
    (λ o. slice_get c.recording.entries i ≡ o → All (IsRowOf (length c.recording.setting.stations)) (option_to_list (option_map (row_of c step i) o))) [
      | None ↦ λ _. All-nil (IsRowOf (length c.recording.setting.stations))
      | Some e ↦ λ at.
          All-cons (IsRowOf (length c.recording.setting.stations)) (row_of c step i e) []
          (entry_station (length c.recording.setting.stations) c.recording.entries i e limits.each_entry at)
          (All-nil (IsRowOf (length c.recording.setting.stations)))
    ] refl

row_there : (c : SceneData) (step : ℕ) → IsRecording c.recording → All (IsRowOf (length c.recording.setting.stations)) (option_to_list (row_at c step))
unfolding row_at
row_there c step limits =
    elim (place_at c.steps step) as
    (λ o. All (IsRowOf (length c.recording.setting.stations)) (option_to_list (option_and_then (row_taking c step) o))) [
      | None ↦ All-nil (IsRowOf (length c.recording.setting.stations))
      | Some i ↦ row_taken c step i limits
    ]

rows_there : (c : SceneData) → IsRecording c.recording → All (IsRowOf (length c.recording.setting.stations)) (rows_of c)
unfolding rows_of
rows_there c limits =
    all_below (IsRowOf (length c.recording.setting.stations)) (row_shown c) (row_count c) (λ k _. row_there c (c.rows.first + k) limits)

-- ---- blocked rows

abbrev pub IsBlockedOf : ℕ → BlockedRow → Type 0
IsBlockedOf n blocked = blocked.row.at.station < n

blocked_taken : (c : SceneData) (b : BlockedEntry) → IsRecording c.recording → All (IsBlockedOf (length c.recording.setting.stations)) (blocked_row_of c b)
blocked_taken c b limits =
    elim (slice_get c.recording.entries b.entry) as
    (λ o. slice_get c.recording.entries b.entry ≡ o
    → All (IsBlockedOf (length c.recording.setting.stations)) (option_to_list (option_map (with_cause b.cause) (option_map (row_of c (length c.steps) b.entry) o)))) [
      | None ↦ λ _. All-nil (IsBlockedOf (length c.recording.setting.stations))
      | Some e ↦ λ at.
          All-cons (IsBlockedOf (length c.recording.setting.stations)) (with_cause b.cause (row_of c (length c.steps) b.entry e)) []
          (entry_station (length c.recording.setting.stations) c.recording.entries b.entry e limits.each_entry at)
          (All-nil (IsBlockedOf (length c.recording.setting.stations)))
    ] refl

blocked_each : (c : SceneData) (bs : List BlockedEntry) → IsRecording c.recording
    → All (IsBlockedOf (length c.recording.setting.stations)) (flat_map (blocked_row_of c) bs)
blocked_each c [] limits = All-nil (IsBlockedOf (length c.recording.setting.stations))
blocked_each c (b ∷ bs) limits =
    All-append (IsBlockedOf (length c.recording.setting.stations)) (blocked_row_of c b) (flat_map (blocked_row_of c) bs)
    (blocked_taken c b limits) (blocked_each c bs limits)

blocked_there : (c : SceneData) → IsRecording c.recording → All (IsBlockedOf (length c.recording.setting.stations)) (blocked_rows c)
unfolding blocked_rows
blocked_there c limits = blocked_each c c.blocked limits

-- THE MARKS OF A RECORDING ARE OF ITS STATIONS
pub marks_are_of_stations : (r : PlainRecording) (steps : List Step) (w : Rows) (chosen : List EntityId) (blocked : List BlockedEntry) → IsRecording r
    → AreOfStations (length r.setting.stations) (marks_of r steps w chosen blocked)
marks_are_of_stations r steps w chosen blocked limits = record {
  rows = rows_there (scene_of r steps w chosen blocked) limits;
  blocked = blocked_there (scene_of r steps w chosen blocked) limits;
}
