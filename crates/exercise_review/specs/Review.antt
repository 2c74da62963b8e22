-- The review of a whole recording, and its number of rows (profile).
use Rattle.std.specs.Prelude.{◌≡◌, ℕ, ◌+◌, ◌<◌, ◌≤◌, List, length, map, Result, Ok, Err}
use Rattle.exercise_model.specs.Recording.{PlainRecording}
use Rattle.exercise_model.specs.Account.{others_of, values_below}
use Rattle.exercise_review.specs.declared.fault.ReviewFault.{ReviewFault}
use Rattle.exercise_review.specs.declared.fault.ReviewFault.TheVariants.{OverLimit, Memory}
use Rattle.exercise_review.specs.declared.review.Review.{Review}
use Rattle.exercise_review.specs.declared.review.TheConstants.{MOST_LINES}
use Rattle.exercise_review.specs.declared.reviewed.ReviewTables.{ReviewTables}
use Rattle.exercise_review.specs.declared.span.Span.{Span}
use Rattle.exercise_review.specs.declared.told.OrderAt.{OrderAt}
use Rattle.exercise_review.specs.Told.{orders_of, reviewed_orders}
use Rattle.exercise_review.specs.Span.{all_spans}
use Rattle.exercise_review.specs.Row.{AreRows}
use Rattle.exercise_review.specs.Stay.{span_at}
use Rattle.exercise_review.specs.Tally.{fates_of, station_counts}

-- THE NUMBER OF ROWS of a review: the first one, and one for each station, for each order at each of its parties, and
-- for each span of a life
abbrev pub line_count : PlainRecording → ℕ
line_count r = 1 + length r.setting.stations + length (reviewed_orders r) + length (all_spans r)

-- the orders at their parties and the spans of all lives, within the limit of rows
pub record AreReviewLists (r : PlainRecording) (told : List OrderAt) (spans : List Span) : Type 0 where
  pub told_is : told ≡ reviewed_orders r
  pub spans_is : spans ≡ all_spans r
  pub within : line_count r ≤ MOST_LINES

-- A REVIEW has the number of orders, of "other" datagrams and of each fate, the counts of each station, the orders at
-- their parties and the spans of all lives
pub record GivesReview (r : PlainRecording) (v : Review) : Type 0 where
  pub orders : v.orders ≡ length (orders_of r)
  pub others : v.others ≡ others_of r
  pub fates : v.fates ≡ fates_of (reviewed_orders r)
  pub stations : v.stations.items ≡ values_below (station_counts r) (length r.setting.stations)
  pub lists : AreReviewLists r v.told.items v.spans.items

-- The result is the whole review, or OverLimit if it has too many rows; Memory says nothing about the recording.
abbrev pub Reviews : PlainRecording → Result Review ReviewFault → Type 0
Reviews r (Ok v) = GivesReview r v
Reviews r (Err OverLimit) = MOST_LINES < line_count r
Reviews r (Err Memory) = Unit {0}

-- THE TABLES OF A REVIEW: its contents in compact form
pub record AreReviewTables (r : PlainRecording) (k : ReviewTables) : Type 0 where
  pub orders : k.orders ≡ length (orders_of r)
  pub fates : k.fates ≡ fates_of (reviewed_orders r)
  pub stations : k.stations.items ≡ values_below (station_counts r) (length r.setting.stations)
  pub rows : AreRows r k.rows.items (reviewed_orders r)
  pub stays : map (span_at r) k.stays.items ≡ all_spans r
  pub within : line_count r ≤ MOST_LINES
