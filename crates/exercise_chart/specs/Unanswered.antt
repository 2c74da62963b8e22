-- Requests in a picture that were received and never answered (profile).
use Rattle.std.specs.Prelude.{ℕ, List, [], ◌∷◌, length, Option, if◌then◌else◌}
use Rattle.std.specs.Option.{option_map_or}
use Rattle.std.specs.List.{flat_map}
use Rattle.exercise_review.specs.declared.fate.Fate.{Fate}
use Rattle.exercise_review.specs.declared.fate.Fate.TheVariants as fates
use Rattle.exercise_review.specs.declared.outcome.Outcome.{Outcome}
use Rattle.exercise_review.specs.Order.{OrderData, order_at}
use Rattle.exercise_review.specs.Outcome.{outcomes_of}
use Rattle.exercise_review.specs.Room.{lists_below}
use Rattle.exercise_chart.specs.declared.point.Point.{Point}
use Rattle.exercise_chart.specs.Window.{is_row}
use Rattle.exercise_chart.specs.Point.{step_of}
use Rattle.exercise_chart.specs.Scene.{SceneData, point_in}

-- the point of entry i, if it is in a row
abbrev pub shown_point : SceneData → ℕ → List Point
shown_point c i = if is_row c.rows (step_of c.recording c.steps i) then point_in c i ∷ [] else []

-- the point of the first receipt, if it is in a row and the fate is unanswered
abbrev pub copy_shown : SceneData → Option ℕ → Fate → List Point
copy_shown c got fates.Unanswered = option_map_or (shown_point c) got []
copy_shown c got fate = []

-- the unanswered receipt of a request at a receiver
abbrev pub unanswered_in : SceneData → Outcome → List Point
unanswered_in c x = copy_shown c x.got x.fate

-- the unanswered receipts of a request at all its receivers
abbrev pub unanswered_order : SceneData → OrderData → List Point
unanswered_order c o = flat_map (unanswered_in c) (outcomes_of c.recording o)

unfoldable pub unanswered_at : SceneData → ℕ → List Point
unanswered_at c i = option_map_or (unanswered_order c) (order_at c.recording i) []

-- THE FIRST RECEIPTS, each in a row, OF REQUESTS THAT THEIR RECEIVER NEVER ANSWERED, by the first
-- entries of the requests
unfoldable pub unanswered_of : SceneData → List Point
unanswered_of c = lists_below (unanswered_at c) (length c.recording.entries)
