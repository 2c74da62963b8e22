-- Counts of the fates of orders, and counts of each station (profile).
use Rattle.std.specs.Prelude.{◌≡◌, ◌<◌, ◌≤◌, ℕ, ◌+◌, ◌*◌, List, [], length, map, option_map, option_and_then, slice_index_or, Bool, false, ◌&&◌, ◌==◌, Option, Some, None, slice_get, Result, Ok, Err}
use Rattle.std.specs.Option.{option_map_or}
use Rattle.dis_records.specs.declared.entity_state.EntityState.{EntityState}
use Rattle.exercise_model.specs.Entry.{Entry}
use Rattle.exercise_model.specs.Recording.{PlainRecording}
use Rattle.exercise_model.specs.History.{event_of, station_of, station_at}
use Rattle.exercise_model.specs.Account.{states_of}
use Rattle.exercise_model.specs.Cause.{same_state}
use Rattle.dis_records.specs.declared.entity_state.EntityState.TheVariants.{Running}
use Rattle.siman_pdus.specs.Answers.{same_id}
use Rattle.exercise_review.specs.declared.fate.Fate.{Fate}
use Rattle.exercise_review.specs.declared.fate.Fate.TheVariants as fates
use Rattle.exercise_review.specs.declared.party.Party.{Party}
use Rattle.exercise_review.specs.declared.party.Party.TheVariants as parties
use Rattle.exercise_review.specs.declared.fault.ReviewFault.{ReviewFault}
use Rattle.exercise_review.specs.declared.fault.ReviewFault.TheVariants.{OverLimit, Memory}
use Rattle.exercise_review.specs.declared.row.OrderRow.{OrderRow}
use Rattle.exercise_review.specs.declared.told.OrderAt.{OrderAt}
use Rattle.exercise_review.specs.declared.told.OrderReview.{OrderReview}
use Rattle.exercise_review.specs.declared.tally.FateCounts.{FateCounts}
use Rattle.exercise_review.specs.declared.tally.Counts.{Counts}
use Rattle.exercise_review.specs.declared.tally.StationCounts.{StationCounts}
use Rattle.exercise_review.specs.Counted.{count_below}
use Rattle.exercise_review.specs.Order.{OrderData}
use Rattle.exercise_review.specs.Records.{AreRecords}
use Rattle.exercise_review.specs.Room.{lists_below}
use Rattle.exercise_review.specs.Row.{AreRows}
use Rattle.exercise_review.specs.Told.{orders_at, order_at_its_parties, orders_of, reviewed_orders}

-- ---- fates

abbrev pub fate_number : Fate → ℕ
fate_number fates.Done = 0
fate_number fates.Answered = 1
fate_number fates.Refused = 2
fate_number fates.Pending = 3
fate_number fates.Unheard = 4
fate_number fates.Unanswered = 5
fate_number fates.Lost = 6
fate_number fates.Unknown = 7
fate_number fates.Nobody = 8

abbrev pub same_fate : Fate → Fate → Bool
same_fate f g = fate_number f == fate_number g

-- the party is the recorded station s
abbrev pub is_station : ℕ → Option Party → Bool
is_station s None = false
is_station s (Some (parties.Station t)) = t == s
is_station s (Some (parties.Outside a)) = false

-- an order at a party has the fate f; it has it at station s
abbrev pub is_fate : Fate → OrderAt → Bool
is_fate f x = same_fate x.outcome.fate f

abbrev pub is_fate_at : ℕ → Fate → OrderAt → Bool
is_fate_at s f x = is_station s x.outcome.party && is_fate f x

-- the item at place i passes
unfoldable pub passes_at : {X : Type 0} → (X → Bool) → List X → ℕ → Bool
passes_at test xs i = option_map_or test (slice_get xs i) false

-- THE NUMBER OF ITEMS of a list that pass
unfoldable pub many : {X : Type 0} → (X → Bool) → List X → ℕ
many test xs = count_below (passes_at test xs) (length xs)

-- the counts of all fates, given the count of each
abbrev pub fate_counts : (Fate → ℕ) → FateCounts
fate_counts count = record {
  done = count fates.Done;
  answered = count fates.Answered;
  refused = count fates.Refused;
  pending = count fates.Pending;
  unheard = count fates.Unheard;
  unanswered = count fates.Unanswered;
  lost = count fates.Lost;
  unknown = count fates.Unknown;
  nobody = count fates.Nobody;
}

-- THE NUMBER OF ORDERS AT THEIR PARTIES with each fate, in all and at station s
unfoldable pub fates_of : List OrderAt → FateCounts
fates_of xs = fate_counts (λ f. many (is_fate f) xs)

unfoldable pub fates_at : ℕ → List OrderAt → FateCounts
fates_at s xs = fate_counts (λ f. many (is_fate_at s f) xs)

-- ---- stations

-- an entry belongs to station s
abbrev pub is_entry_of : ℕ → Entry → Bool
is_entry_of s e = station_of (event_of e) == s

-- the recorded station s made an order
abbrev pub is_made_by : ℕ → OrderData → Bool
is_made_by s o = same_id o.maker (Some s)

abbrev pub is_running : ℕ × EntityState → Bool
is_running present = same_state present.1 Running

-- ---- counters

-- the maker of each order, if a recorded station made it
abbrev pub makers_of : List OrderData → List (Option ℕ)
makers_of os = map (λ (o : OrderData). o.maker) os

unfoldable pub maker_places : (makers : List (Option ℕ)) → ℕ → Option ℕ
maker_places makers i = option_and_then (λ maker. maker) (slice_get makers i)

-- each station has nine counters, one for each fate
abbrev pub place_at : Fate → Option Party → Option ℕ
place_at f None = None
place_at f (Some (parties.Station t)) = Some (t * 9 + fate_number f)
place_at f (Some (parties.Outside a)) = None

abbrev pub row_place : OrderRow → Option ℕ
row_place x = place_at x.fate x.party

unfoldable pub row_places : List OrderRow → ℕ → Option ℕ
row_places xs i = option_and_then row_place (slice_get xs i)

-- the number of the fate of each order at a party
unfoldable pub row_numbers : List OrderRow → ℕ → Option ℕ
row_numbers xs i = option_map (λ (x : OrderRow). fate_number x.fate) (slice_get xs i)

-- THE COUNTS OF STATION s, with its address: the entries of its log, the orders that it made, the fates of those that
-- it was party to, its entities that exist at the end, and how many of them run
unfoldable pub station_counts : PlainRecording → ℕ → StationCounts
station_counts r s = record {
  at = (station_at r s).address;
  records = many (is_entry_of s) r.entries;
  made = many (is_made_by s) (orders_of r);
  fates = fates_at s (reviewed_orders r);
  entities = length (states_of r s);
  running = many is_running (states_of r s);
}

-- for each station, the entities that exist at the end
abbrev pub ArePresent : PlainRecording → List (List (ℕ × EntityState)) → Type 0
ArePresent r all = (s : ℕ) → slice_index_or all s [] ≡ states_of r s

-- ---- the review of the entries, in order

-- THE REVIEW OF THE ENTRIES below n: the maker of each of their orders, the rows of these at their parties, and the
-- number of entries of each station
pub record IsReviewBelow (r : PlainRecording) (n : ℕ) (t : OrderReview) : Type 0 where
  pub records : AreRecords r (length r.entries) t.records.items
  pub makers : t.makers.items ≡ makers_of (lists_below (orders_at r) n)
  pub rows : AreRows r t.rows.items (lists_below (order_at_its_parties r) n)

-- the review of all entries with at most `most` rows; OverLimit means that there are more; Memory says nothing
abbrev pub ReviewsWithin : PlainRecording → (most : ℕ) → Result OrderReview ReviewFault → Type 0
ReviewsWithin r most (Ok t) = IsReviewBelow r (length r.entries) t × AreRows r t.rows.items (reviewed_orders r) × (length t.rows.items ≤ most)
ReviewsWithin r most (Err OverLimit) = most < length (reviewed_orders r)
ReviewsWithin r most (Err Memory) = Unit {0}

-- the counts of each station: the orders that it made, and the fates of those that it was party to
pub record AreCounted (r : PlainRecording) (c : Counts) : Type 0 where
  pub made : (s : ℕ) → s < length r.setting.stations → slice_index_or c.made.items s 0 ≡ many (is_made_by s) (orders_of r)
  pub fates : (s : ℕ) → s < length r.setting.stations → (f : Fate) → slice_index_or c.fates.items (s * 9 + fate_number f) 0 ≡ many (is_fate_at s f) (reviewed_orders r)
  pub room : length c.fates.items ≡ length r.setting.stations * 9
  pub many_made : length c.made.items ≡ length r.setting.stations
