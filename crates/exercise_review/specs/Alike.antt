-- What a recording of the first form and its conversion have in common in a review (profile).
use Rattle.std.specs.Prelude.{◌≡◌, ℕ}
use Rattle.exercise_model.specs.Recording.{PlainRecording}
use Rattle.exercise_model.specs.Account.{others_of}
use Rattle.exercise_review.specs.Order.{head_of}
use Rattle.exercise_findings.specs.Missing.{missing_at}
use Rattle.exercise_review.specs.Review.{line_count}
use Rattle.exercise_review.specs.Span.{all_spans}
use Rattle.exercise_review.specs.Tally.{station_counts}
use Rattle.exercise_review.specs.Told.{orders_of, reviewed_orders}

-- BOTH ARE REVIEWED ALIKE: equal heads, orders, outcomes at the parties, spans of lives, counts, number of rows and
-- missing sends
pub record AreReviewedAlike (old new : PlainRecording) : Type 0 where
  pub heads : (i : ℕ) → head_of old i ≡ head_of new i
  pub orders : orders_of old ≡ orders_of new
  pub told : reviewed_orders old ≡ reviewed_orders new
  pub spans : all_spans old ≡ all_spans new
  pub stations : (s : ℕ) → station_counts old s ≡ station_counts new s
  pub others : others_of old ≡ others_of new
  pub lines : line_count old ≡ line_count new
  pub missing : (i : ℕ) → missing_at old i ≡ missing_at new i
