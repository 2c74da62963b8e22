-- What falls to a place is what is counted of a station.
use Rattle.std.proofs.Common.{◌≡◌, ℕ, ◌+◌, ◌*◌, ◌<◌, List, length, map, Bool, true, false, Option, Some, None, refl, sym, ap, ◌∙◌, arith}
use Rattle.std.specs.Prelude.{nat_eq, ◌&&◌, option_map, option_and_then, slice_get, slice_index_or}
use Rattle.std.specs.Option.{option_map_or}
use Rattle.std.proofs.lemmas.List.{length-map}
use Rattle.std.proofs.lemmas.Option.{slice_get-map}
use Rattle.std.proofs.lemmas.Bool.{eqb-true, eq-eqb, ne_eqb}
use Rattle.siman_pdus.specs.Answers.{same_id}
use Rattle.exercise_model.specs.Entry.{Entry}
use Rattle.exercise_model.specs.History.{event_of, station_of}
use Rattle.exercise_model.specs.Recording.{PlainRecording}
use Rattle.exercise_review.specs.declared.fate.Fate.{Fate}
use Rattle.exercise_review.specs.declared.fate.Fate.TheVariants as fates
use Rattle.exercise_review.specs.declared.party.Party.{Party}
use Rattle.exercise_review.specs.declared.party.Party.TheVariants as parties
use Rattle.exercise_review.specs.declared.row.OrderRow.{OrderRow}
use Rattle.exercise_review.specs.declared.told.OrderAt.{OrderAt}
use Rattle.exercise_review.specs.declared.told.OrderReview.{OrderReview}
use Rattle.exercise_review.specs.declared.tally.Counts.{Counts}
use Rattle.exercise_review.specs.Told.{orders_of, reviewed_orders}
use Rattle.exercise_review.specs.Counted.{count_below, count_at}
use Rattle.exercise_review.specs.Order.{OrderData}
use Rattle.exercise_review.specs.Tally.{fate_number, same_fate, is_station, is_fate, is_fate_at, passes_at, many, fate_counts, fates_of, fates_at, row_numbers, makers_of, IsReviewBelow, AreCounted, is_entry_of, is_made_by, place_at, row_place, row_places, maker_places}
use Rattle.exercise_review.specs.Records.{entry_places}
use Rattle.exercise_review.specs.Row.{AreRows}
use Rattle.exercise_review.proofs.Orders.{told_all}
use Rattle.exercise_review.proofs.Rows.{rows_count, counted_alike}
use Rattle.exercise_review.proofs.Tallies.{count_same}

pub entries_counted : (r : PlainRecording) (s n : ℕ) → n ≡ length r.entries → count_at (entry_places r) s n ≡ many (is_entry_of s) r.entries
unfolding count_at many entry_places passes_at
entries_counted r s n end =
    count_same (λ i. same_id (entry_places r i) (Some s)) (passes_at (is_entry_of s) r.entries) same n ∙ ap (count_below (passes_at (is_entry_of s) r.entries)) end
  where
    same : (i : ℕ) → same_id (entry_places r i) (Some s) ≡ passes_at (is_entry_of s) r.entries i
    same i = elim (slice_get r.entries i) as (λ (o : Option Entry). same_id (option_map (λ e. station_of (event_of e)) o) (Some s) ≡ option_map_or (is_entry_of s) o false) [
      | None ↦ refl
      | Some e ↦ refl
    ]

-- what was told on the way is told of all orders, and these are their makers
pub orders_are_told : (r : PlainRecording) (t : OrderReview) → IsReviewBelow r (length r.entries) t → AreRows r t.rows.items (reviewed_orders r)
orders_are_told r t told = told.rows ∙ ap (map Some) (told_all r)

pub orders_of_makers : (r : PlainRecording) (t : OrderReview) → IsReviewBelow r (length r.entries) t → t.makers.items ≡ makers_of (orders_of r)
unfolding orders_of
orders_of_makers r t told = told.makers

pub order_count : (r : PlainRecording) (t : OrderReview) → IsReviewBelow r (length r.entries) t → length t.makers.items ≡ length (orders_of r)
order_count r t told = ap length (orders_of_makers r t told) ∙ length-map (orders_of r) (λ (o : OrderData). o.maker)

-- the entries of a station that were counted on the way are those of its log
pub records_told : (r : PlainRecording) (t : OrderReview) (s : ℕ) → IsReviewBelow r (length r.entries) t → s < length r.setting.stations
    → slice_index_or t.records.items s 0 ≡ many (is_entry_of s) r.entries
records_told r t s told l = told.records.each s l ∙ entries_counted r s (length r.entries) refl

makers_counted : (os : List OrderData) (s n : ℕ) → n ≡ length os → count_at (maker_places (makers_of os)) s n ≡ many (is_made_by s) os
unfolding count_at many maker_places passes_at
makers_counted os s n end =
    count_same (λ i. same_id (maker_places (makers_of os) i) (Some s)) (passes_at (is_made_by s) os) same n ∙ ap (count_below (passes_at (is_made_by s) os)) end
  where
    of_order : (o : Option OrderData) → same_id (option_and_then (λ (m : Option ℕ). m) (option_map (λ (x : OrderData). x.maker) o)) (Some s) ≡ option_map_or (is_made_by s) o false
    of_order None = refl
    of_order (Some x) = refl

    same : (i : ℕ) → same_id (maker_places (makers_of os) i) (Some s) ≡ passes_at (is_made_by s) os i
    same i = ap (λ (m : Option (Option ℕ)). same_id (option_and_then (λ (x : Option ℕ). x) m) (Some s)) (slice_get-map (λ (x : OrderData). x.maker) os i) ∙ of_order (slice_get os i)

pub orders_counted : (os : List OrderData) (makers : List (Option ℕ)) (s n : ℕ) → makers ≡ makers_of os → n ≡ length makers
    → count_at (maker_places makers) s n ≡ many (is_made_by s) os
orders_counted os makers s n same end =
    ap (λ (ms : List (Option ℕ)). count_at (maker_places ms) s n) same
    ∙ makers_counted os s n (end ∙ ap length same ∙ length-map os (λ (o : OrderData). o.maker))

few_fates : (f : Fate) → fate_number f < 9
few_fates fates.Done = omega arith
few_fates fates.Answered = omega arith
few_fates fates.Refused = omega arith
few_fates fates.Pending = omega arith
few_fates fates.Unheard = omega arith
few_fates fates.Unanswered = omega arith
few_fates fates.Lost = omega arith
few_fates fates.Unknown = omega arith
few_fates fates.Nobody = omega arith

one_place : (t s m k : ℕ) → m < 9 → k < 9 → nat_eq (t * 9 + m) (s * 9 + k) ≡ (nat_eq t s && nat_eq m k)
one_place t s m k few less =
    elim (nat_eq t s) as (λ b. nat_eq t s ≡ b → nat_eq (t * 9 + m) (s * 9 + k) ≡ (b && nat_eq m k)) [
      | true ↦ λ same. let at = eqb-true t s same in
          elim (nat_eq m k) as (λ b. nat_eq m k ≡ b → nat_eq (t * 9 + m) (s * 9 + k) ≡ b) [
            | true ↦ λ equal. eq-eqb (t * 9 + m) (s * 9 + k) (let is = eqb-true m k equal in omega (arith, at, is))
            | false ↦ λ apart. ne_eqb (t * 9 + m) (s * 9 + k) (λ (e : t * 9 + m ≡ s * 9 + k).
                let is : m ≡ k = omega (arith, at, e) in
                let no : true ≡ false = sym (eq-eqb m k is) ∙ apart in absurd (cc))
          ] refl
      | false ↦ λ apart. ne_eqb (t * 9 + m) (s * 9 + k) (λ (e : t * 9 + m ≡ s * 9 + k).
          let is : t ≡ s = omega (arith, few, less, e) in
          let no : true ≡ false = sym (eq-eqb t s is) ∙ apart in absurd (cc))
    ] refl

fate_same : (s : ℕ) (f g : Fate) (p : Option Party) → same_id (place_at g p) (Some (s * 9 + fate_number f)) ≡ (is_station s p && same_fate g f)
fate_same s f g None = refl
fate_same s f g (Some (parties.Station t)) = one_place t s (fate_number g) (fate_number f) (few_fates g) (few_fates f)
fate_same s f g (Some (parties.Outside a)) = refl

pub fates_counted : (r : PlainRecording) (rows : List OrderRow) (xs : List OrderAt) (s n : ℕ) (f : Fate) → AreRows r rows xs → n ≡ length rows
    → count_at (row_places rows) (s * 9 + fate_number f) n ≡ many (is_fate_at s f) xs
unfolding count_at many row_places passes_at
fates_counted r rows xs s n f are end =
    count_same (λ i. same_id (row_places rows i) (Some (s * 9 + fate_number f))) (passes_at (is_fate_at s f) xs) same n
    ∙ ap (count_below (passes_at (is_fate_at s f) xs)) (end ∙ rows_count r rows xs are)
  where
    -- by where it is counted, if there is something
    placed : Option (Option ℕ) → Bool
    placed o = same_id (option_and_then (λ (p : Option ℕ). p) o) (Some (s * 9 + fate_number f))

    of_row : (y : Option OrderRow) → same_id (option_and_then row_place y) (Some (s * 9 + fate_number f)) ≡ placed (option_map row_place y)
    of_row None = refl
    of_row (Some y) = refl

    of_told : (o : Option OrderAt) → placed (option_map (λ (x : OrderAt). place_at x.outcome.fate x.outcome.party) o) ≡ option_map_or (is_fate_at s f) o false
    of_told None = refl
    of_told (Some x) = fate_same s f x.outcome.fate x.outcome.party

    same : (i : ℕ) → same_id (row_places rows i) (Some (s * 9 + fate_number f)) ≡ passes_at (is_fate_at s f) xs i
    same i =
        of_row (slice_get rows i)
        ∙ ap placed (counted_alike r rows xs i row_place (λ (x : OrderAt). place_at x.outcome.fate x.outcome.party) are
        (λ y t fate party. ap (λ g. place_at g y.party) fate ∙ ap (place_at t.outcome.fate) party))
        ∙ of_told (slice_get xs i)

-- a place for a fate is one of those of its station
pub place_within : (s n : ℕ) (f : Fate) → s < n → s * 9 + fate_number f < n * 9
place_within s n f l = let few = few_fates f in omega (arith, few, l)

counts_same : (f g : Fate → ℕ) → ((x : Fate) → f x ≡ g x) → fate_counts f ≡ fate_counts g
counts_same f g same =
    rw (
      same fates.Done,
      same fates.Answered,
      same fates.Refused,
      same fates.Pending,
      same fates.Unheard,
      same fates.Unanswered,
      same fates.Lost,
      same fates.Unknown,
      same fates.Nobody,
    ) refl

-- the nine places of a station are the counts of its fates
pub fates_are : (r : PlainRecording) (c : Counts) (s : ℕ) → AreCounted r c → s < length r.setting.stations
    → fate_counts (λ f. slice_index_or c.fates.items (s * 9 + fate_number f) 0) ≡ fates_at s (reviewed_orders r)
unfolding fates_at
fates_are r c s are l = counts_same (λ f. slice_index_or c.fates.items (s * 9 + fate_number f) 0) (λ f. many (is_fate_at s f) (reviewed_orders r)) (are.fates s l)

-- the places of all fates are their counts
fates_numbered : (r : PlainRecording) (rows : List OrderRow) (xs : List OrderAt) (f : Fate) (n : ℕ) → AreRows r rows xs → n ≡ length rows
    → count_at (row_numbers rows) (fate_number f) n ≡ many (is_fate f) xs
unfolding count_at many row_numbers passes_at
fates_numbered r rows xs f n are end =
    count_same (λ i. same_id (row_numbers rows i) (Some (fate_number f))) (passes_at (is_fate f) xs) same n
    ∙ ap (count_below (passes_at (is_fate f) xs)) (end ∙ rows_count r rows xs are)
  where
    of_told : (o : Option OrderAt) → same_id (option_map (λ (x : OrderAt). fate_number x.outcome.fate) o) (Some (fate_number f)) ≡ option_map_or (is_fate f) o false
    of_told None = refl
    of_told (Some x) = refl

    same : (i : ℕ) → same_id (row_numbers rows i) (Some (fate_number f)) ≡ passes_at (is_fate f) xs i
    same i =
        ap (λ o. same_id o (Some (fate_number f))) (counted_alike r rows xs i (λ (y : OrderRow). fate_number y.fate) (λ (x : OrderAt). fate_number x.outcome.fate) are
        (λ y t fate party. ap fate_number fate))
        ∙ of_told (slice_get xs i)

pub all_fates : (r : PlainRecording) (rows : List OrderRow) (xs : List OrderAt) (counts : List ℕ) (n : ℕ) → AreRows r rows xs → n ≡ length rows
    → ((k : ℕ) → k < 9 → slice_index_or counts k 0 ≡ count_at (row_numbers rows) k n)
    → fate_counts (λ f. slice_index_or counts (0 + fate_number f) 0) ≡ fates_of xs
unfolding fates_of
all_fates r rows xs counts n are end each =
    counts_same (λ f. slice_index_or counts (0 + fate_number f) 0) (λ f. many (is_fate f) xs) (λ f.
    let first : 0 + fate_number f ≡ fate_number f = omega arith in
    ap (λ k. slice_index_or counts k 0) first ∙ each (fate_number f) (few_fates f) ∙ fates_numbered r rows xs f n are end)
