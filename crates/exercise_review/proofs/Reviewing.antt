-- What is kept of a recording for its review, and why it may be refused.
use Rattle.std.proofs.Common.{◌≡◌, ℕ, ◌-◌, ◌≤◌, List, length, map, sym, ap, ◌∙◌, subst, arith}
use Rattle.std.specs.Prelude.{Result, Ok, Err, IfErr}
use Rattle.std.specs.Result.{IsErrAnd}
use Rattle.std.proofs.lemmas.Bool.{and_parts, leb-true}
use Rattle.std.proofs.lemmas.List.{length-map}
use Rattle.exercise_model.specs.declared.station.TheConstants.{MOST_STATIONS}
use Rattle.exercise_model.specs.Recording.{PlainRecording, IsRecording}
use Rattle.exercise_model.specs.Account.{values_below}
use Rattle.exercise_review.specs.declared.fault.ReviewFault.{ReviewFault}
use Rattle.exercise_review.specs.declared.fault.ReviewFault.TheVariants.{OverLimit, Memory}
use Rattle.exercise_review.specs.declared.review.TheConstants.{MOST_LINES}
use Rattle.exercise_review.specs.declared.reviewed.ReviewTables.{ReviewTables}
use Rattle.exercise_review.specs.declared.row.OrderRow.{OrderRow}
use Rattle.exercise_review.specs.declared.stay.Stay.{Stay}
use Rattle.exercise_review.specs.Review.{line_count, Reviews, AreReviewTables}
use Rattle.exercise_review.specs.Row.{AreRows}
use Rattle.exercise_review.specs.Span.{all_spans}
use Rattle.exercise_review.specs.Stay.{span_at, StaysWithin}
use Rattle.exercise_review.specs.Tally.{fates_of, station_counts}
use Rattle.exercise_review.specs.Told.{orders_of, reviewed_orders}
use Rattle.exercise_review.proofs.Rows.{rows_count}

-- a recording has few stations
pub few_stations : (r : PlainRecording) → IsRecording r → length r.setting.stations ≤ 4194303
few_stations r limits =
    let most = leb-true (length r.setting.stations) MOST_STATIONS (and_parts _ _ (and_parts _ _ limits.setting.stations).1).0 in
    omega (arith, most)

-- with the stretches they are too many
stays_many : (r : PlainRecording) (rows : List OrderRow) (count : ℕ) (e : ReviewFault) → count ≡ length r.setting.stations → AreRows r rows (reviewed_orders r)
    → StaysWithin r (4194303 - count - length rows) (all_spans r) (Err e) → Reviews r (Err e)
stays_many r rows count OverLimit stations are over = omega (arith, stations, over, rows_count r rows (reviewed_orders r) are)
stays_many r rows count Memory stations are over = tt

pub stays_refused : {X : Type 0} (r q : PlainRecording) (rows : List OrderRow) (count n : ℕ) (e : ReviewFault) (result : Result X ReviewFault)
    → IsErrAnd result (λ x. x ≡ e) → q ≡ r → count ≡ length r.setting.stations → n ≡ length rows → AreRows r rows (reviewed_orders r)
    → StaysWithin q (4194303 - count - n) (all_spans q) (Err e) → IfErr result (λ fault. Reviews r (Err fault))
stays_refused r q rows count n e (Ok x) is same stations len are over = absurd is
stays_refused r q rows count n e (Err x) is same stations len are over =
    subst (λ y. Reviews r (Err y)) (sym is) (stays_many r rows count e stations are
    (subst (λ m. StaysWithin r (4194303 - count - m) (all_spans r) (Err e)) len
    (subst (λ z. StaysWithin z (4194303 - count - n) (all_spans z) (Err e)) same over)))

-- there was room for all of them
pub lines_within : (r q : PlainRecording) (rows : List OrderRow) (stays : List Stay) (count n : ℕ) → q ≡ r → count ≡ length r.setting.stations → count ≤ 4194303
    → n ≡ length rows → AreRows r rows (reviewed_orders r) → length rows ≤ 4194303 - count
    → (map (span_at q) stays ≡ all_spans q) × (length stays ≤ 4194303 - count - n) → line_count r ≤ MOST_LINES
lines_within r q rows stays count n same stations few len are fits told =
    let spans = ap (λ z. length (all_spans z)) same in
    let all = sym (length-map stays (span_at q)) ∙ ap length told.0 in
    omega (arith, stations, few, len, rows_count r rows (reviewed_orders r) are, fits, told.1, all, spans)

-- what was kept of a recording, of which the counts were made when it was given back
pub review_kept : (r q : PlainRecording) (k : ReviewTables) → q ≡ r → k.orders ≡ length (orders_of r) → k.fates ≡ fates_of (reviewed_orders q)
    → k.stations.items ≡ values_below (station_counts q) (length q.setting.stations) → AreRows r k.rows.items (reviewed_orders r)
    → map (span_at r) k.stays.items ≡ all_spans r → line_count r ≤ MOST_LINES → AreReviewTables q k
review_kept r q k same orders fates stations rows stays within =
    subst (λ (x : PlainRecording). AreReviewTables x k) (sym same) (record {
      orders = orders;
      fates = fates ∙ ap (λ (x : PlainRecording). fates_of (reviewed_orders x)) same;
      stations = stations ∙ ap (λ (x : PlainRecording). values_below (station_counts x) (length x.setting.stations)) same;
      rows = rows;
      stays = stays;
      within = within;
    })
