-- A recording that was carried over to the second format is reviewed as it was.
use Rattle.std.proofs.Common.{◌≡◌, ℕ, zero, suc, ◌+◌, ◌<◌, ◌≤◌, List, [], ◌∷◌, ◌++◌, length, map, flat_map, None, refl, sym, ap, ◌∙◌, subst}
use Rattle.std.specs.Prelude.{◌↔◌, Result, Ok, Err}
use Rattle.std.specs.Option.{option_to_list}
use Rattle.dis_records.specs.declared.entity.EntityId.{EntityId}
use Rattle.exercise_model.specs.declared.form.Form.{Form}
use Rattle.exercise_model.specs.declared.form.Form.TheVariants.{First}
use Rattle.exercise_model.specs.declared.station.TheConstants.{LARGEST_ENTITY}
use Rattle.exercise_model.specs.Recording.{PlainRecording}
use Rattle.exercise_model.specs.History.{station_at, log_of}
use Rattle.exercise_model.specs.Place.{own_event, log_before, entry_taken_up}
use Rattle.exercise_model.specs.Account.{pair_of, change_at, sender_of, others_of, states_of, values_below}
use Rattle.exercise_model.specs.Conversion.{converted}
use Rattle.exercise_findings.specs.Source.{first_send, source_of}
use Rattle.exercise_review.specs.declared.fault.ReviewFault.{ReviewFault}
use Rattle.exercise_review.specs.declared.fault.ReviewFault.TheVariants.{OverLimit, Memory}
use Rattle.exercise_review.specs.declared.life.Stretch.{Stretch}
use Rattle.exercise_review.specs.declared.outcome.Outcome.{Outcome}
use Rattle.dis_records.specs.declared.address.SiteApplication.{SiteApplication}
use Rattle.dis_records.specs.Entity.{entity_of}
use Rattle.exercise_review.specs.declared.party.Party.{Party}
use Rattle.exercise_review.specs.declared.party.Party.TheVariants as parties
use Rattle.exercise_review.specs.declared.review.Review.{Review}
use Rattle.exercise_review.specs.declared.review.TheConstants.{MOST_LINES}
use Rattle.exercise_review.specs.declared.tally.StationCounts.{StationCounts}
use Rattle.exercise_review.specs.declared.told.OrderAt.{OrderAt}
use Rattle.exercise_review.specs.Entries.{bytes_sent, bytes_received, pdu_sent, pdu_received, pdu_at}
use Rattle.exercise_review.specs.Order.{OrderData, sends_order, gets_order, gets_anywhere, is_outside, is_meant, head_of, order_at, sends_of, sends_under_id, is_first_under_id}
use Rattle.exercise_review.specs.Party.{first_copy, is_party, is_heard_from, is_at, is_party_outside}
use Rattle.exercise_review.specs.Parties.{address_numbered, addresses, party_at, parties_below, parties_of}
use Rattle.exercise_review.specs.Reply.{is_reply, is_changing_reply, change_of_order, replies_in, has_reply_in, is_news}
use Rattle.exercise_review.specs.Word.{word_at, settles_at, first_settling, decisive_entry}
use Rattle.exercise_review.specs.Fate.{traces_of, fate_of}
use Rattle.exercise_findings.specs.State.{state_before}
use Rattle.exercise_review.specs.Life.{stretch_of, life_after, life_before, lives_of}
use Rattle.exercise_findings.specs.Missing.{gets_bytes, missing_at}
use Rattle.exercise_review.specs.Outcome.{stamp_at, recorded_outcome, outsider_outcome, partyless_outcome, outcome_at, outcomes_at, outcomes_of}
use Rattle.exercise_review.specs.Review.{line_count, GivesReview, Reviews}
use Rattle.exercise_review.specs.Room.{lists_below}
use Rattle.exercise_review.specs.Span.{request_behind, span_of, entity_spans, spans_of_next, spans_of, all_spans}
use Rattle.exercise_review.specs.Tally.{many, fates_of, fates_at, is_entry_of, is_made_by, is_running, station_counts}
use Rattle.exercise_review.specs.Told.{order_at_party, order_at_parties, orders_at, orders_of, reviewed_orders}
use Rattle.exercise_review.specs.Alike.{AreReviewedAlike}

-- ---- lists of what is alike

map_same : {X Y : Type 0} (f g : X → Y) → ((x : X) → f x ≡ g x) → (xs : List X) → map f xs ≡ map g xs
map_same f g same [] = refl
map_same f g same (x ∷ xs) = ap (λ y. y ∷ map f xs) (same x) ∙ ap (λ ys. g x ∷ ys) (map_same f g same xs)

flat_map_same : {X Y : Type 0} (f g : X → List Y) → ((x : X) → f x ≡ g x) → (xs : List X) → flat_map f xs ≡ flat_map g xs
flat_map_same f g same [] = refl
flat_map_same f g same (x ∷ xs) = ap (λ ys. ys ++ flat_map f xs) (same x) ∙ ap (λ ys. g x ++ ys) (flat_map_same f g same xs)

lists_same : {X : Type 0} (f g : ℕ → List X) → ((i : ℕ) → f i ≡ g i) → (n : ℕ) → lists_below f n ≡ lists_below g n
unfolding lists_below
lists_same f g same zero = refl
lists_same f g same (suc n) = ap (λ xs. xs ++ f n) (lists_same f g same n) ∙ ap (λ xs. lists_below g n ++ xs) (same n)

pub values_same : {X : Type 0} (f g : ℕ → X) → ((i : ℕ) → f i ≡ g i) → (n : ℕ) → values_below f n ≡ values_below g n
unfolding values_below
values_same f g same zero = refl
values_same f g same (suc n) = ap (λ xs. xs ++ f n ∷ []) (values_same f g same n) ∙ ap (λ x. values_below g n ++ x ∷ []) (same n)

-- ---- a recording in the first form, and its conversion

abbrev firstly : PlainRecording → PlainRecording
firstly r = record r { setting = record r.setting { form = First } }

heads : (r : PlainRecording) (i : ℕ) → head_of (firstly r) i ≡ head_of (converted r) i
unfolding head_of sends_order pdu_sent bytes_sent is_outside gets_anywhere
heads r i = refl

order_same : (r : PlainRecording) (i : ℕ) → order_at (firstly r) i ≡ order_at (converted r) i
unfolding order_at head_of sends_order pdu_sent bytes_sent is_outside gets_anywhere
order_same r i = refl

orders_same : (r : PlainRecording) → orders_of (firstly r) ≡ orders_of (converted r)
unfolding orders_of
orders_same r = lists_same (orders_at (firstly r)) (orders_at (converted r)) (λ i. ap option_to_list (order_same r i)) (length r.entries)

-- ---- what became of an order

here_same : (r : PlainRecording) (o : OrderData) (t : ℕ) → recorded_outcome (firstly r) o t ≡ recorded_outcome (converted r) o t
unfolding sends_of sends_order pdu_sent bytes_sent gets_order pdu_received bytes_received first_copy decisive_entry first_settling settles_at word_at pdu_at is_reply is_news has_reply_in replies_in pair_of entry_taken_up own_event change_of_order is_changing_reply change_at log_before stamp_at fate_of traces_of
here_same r o t = refl

outside_same : (r : PlainRecording) (o : OrderData) (a : SiteApplication) → outsider_outcome (firstly r) o a ≡ outsider_outcome (converted r) o a
unfolding sends_of sends_order pdu_sent bytes_sent pdu_received bytes_received decisive_entry first_settling settles_at word_at pdu_at is_heard_from is_first_under_id sends_under_id is_outside stamp_at fate_of
outside_same r o a = refl

nowhere_same : (r : PlainRecording) (o : OrderData) → partyless_outcome (firstly r) o ≡ partyless_outcome (converted r) o
unfolding sends_of sends_order pdu_sent bytes_sent
nowhere_same r o = refl

outcome_same : (r : PlainRecording) (o : OrderData) (party : Party) → outcome_at (firstly r) o party ≡ outcome_at (converted r) o party
unfolding outcome_at
outcome_same r o (parties.Station t) = here_same r o t
outcome_same r o (parties.Outside a) = outside_same r o a

-- ---- its parties

party_same : (r : PlainRecording) (o : OrderData) (a : SiteApplication) → party_at (firstly r) o a ≡ party_at (converted r) o a
unfolding party_at is_at is_party is_meant first_copy gets_order pdu_received bytes_received is_party_outside
party_same r o a = refl

parties_same : (r : PlainRecording) (o : OrderData) (n : ℕ) → parties_below (firstly r) o n ≡ parties_below (converted r) o n
unfolding parties_below
parties_same r o zero = refl
parties_same r o (suc n) =
    ap (λ xs. xs ++ option_to_list (party_at (firstly r) o (address_numbered n))) (parties_same r o n)
    ∙ ap (λ x. parties_below (converted r) o n ++ option_to_list x) (party_same r o (address_numbered n))

all_parties_same : (r : PlainRecording) (o : OrderData) → parties_of (firstly r) o ≡ parties_of (converted r) o
unfolding parties_of
all_parties_same r o = parties_same r o addresses

outcomes_at_same : (r : PlainRecording) (o : OrderData) (ps : List Party) → outcomes_at (firstly r) o ps ≡ outcomes_at (converted r) o ps
outcomes_at_same r o [] = ap (λ x. x ∷ []) (nowhere_same r o)
outcomes_at_same r o (p ∷ ps) = map_same (outcome_at (firstly r) o) (outcome_at (converted r) o) (outcome_same r o) (p ∷ ps)

outcomes_same : (r : PlainRecording) (o : OrderData) → outcomes_of (firstly r) o ≡ outcomes_of (converted r) o
unfolding outcomes_of
outcomes_same r o = outcomes_at_same r o (parties_of (firstly r) o) ∙ ap (outcomes_at (converted r) o) (all_parties_same r o)

told_same : (r : PlainRecording) (o : OrderData) (x : Outcome) → order_at_party (firstly r) o x ≡ order_at_party (converted r) o x
told_same r o x = refl

at_parties_same : (r : PlainRecording) (o : OrderData) → order_at_parties (firstly r) o ≡ order_at_parties (converted r) o
at_parties_same r o =
    map_same (order_at_party (firstly r) o) (order_at_party (converted r) o) (told_same r o) (outcomes_of (firstly r) o)
    ∙ ap (map (order_at_party (converted r) o)) (outcomes_same r o)

all_told_same : (r : PlainRecording) → reviewed_orders (firstly r) ≡ reviewed_orders (converted r)
unfolding reviewed_orders
all_told_same r =
    flat_map_same (order_at_parties (firstly r)) (order_at_parties (converted r)) (at_parties_same r) (orders_of (firstly r))
    ∙ ap (flat_map (order_at_parties (converted r))) (orders_same r)

-- ---- lives

life_same : (r : PlainRecording) (s e n : ℕ) → life_before (firstly r) s e n ≡ life_before (converted r) s e n
unfolding life_before log_before
life_same r s e zero = refl
life_same r s e (suc n) = ap (λ l. life_after l n (state_before (converted r) s e (suc n))) (life_same r s e n)

lives_same : (r : PlainRecording) (s e : ℕ) → lives_of (firstly r) s e ≡ lives_of (converted r) s e
unfolding lives_of
lives_same r s e = ap (λ l. l.ended ++ stretch_of l None) (life_same r s e (length r.entries))

span_same : (r : PlainRecording) (id : EntityId) (x : Stretch) → span_of (firstly r) id x ≡ span_of (converted r) id x
unfolding request_behind pdu_at pair_of entry_taken_up own_event stamp_at
span_same r id x = refl

entity_same : (r : PlainRecording) (s e : ℕ) → entity_spans (firstly r) s e ≡ entity_spans (converted r) s e
entity_same r s e =
    let id : EntityId = entity_of (station_at r s).address e in
    map_same (span_of (firstly r) id) (span_of (converted r) id) (span_same r id) (lives_of (firstly r) s e)
    ∙ ap (map (span_of (converted r) id)) (lives_same r s e)

station_spans_same : (r : PlainRecording) (s : ℕ) → spans_of (firstly r) s ≡ spans_of (converted r) s
unfolding spans_of
station_spans_same r s = lists_same (spans_of_next (firstly r) s) (spans_of_next (converted r) s) (λ n. entity_same r s (n + 1)) LARGEST_ENTITY

spans_same : (r : PlainRecording) → all_spans (firstly r) ≡ all_spans (converted r)
unfolding all_spans
spans_same r = lists_same (spans_of (firstly r)) (spans_of (converted r)) (station_spans_same r) (length r.setting.stations)

-- ---- counts, and what is missing

-- what is counted of a station, by the orders and what is told of them
abbrev counted : PlainRecording → ℕ → List OrderData → List OrderAt → StationCounts
counted r s os told = record {
  at = (station_at r s).address;
  records = many (is_entry_of s) r.entries;
  made = many (is_made_by s) os;
  fates = fates_at s told;
  entities = length (states_of r s);
  running = many is_running (states_of r s);
}

station_same : (r : PlainRecording) (s : ℕ) → station_counts (firstly r) s ≡ station_counts (converted r) s
unfolding station_counts log_of
station_same r s =
    ap (λ os. counted (converted r) s os (reviewed_orders (firstly r))) (orders_same r)
    ∙ ap (λ told. counted (converted r) s (orders_of (converted r)) told) (all_told_same r)

lines_same : (r : PlainRecording) → line_count (firstly r) ≡ line_count (converted r)
lines_same r =
    ap (λ told. 1 + length r.setting.stations + length told + length (all_spans (firstly r))) (all_told_same r)
    ∙ ap (λ spans. 1 + length r.setting.stations + length (reviewed_orders (converted r)) + length spans) (spans_same r)

missing_same : (r : PlainRecording) (i : ℕ) → missing_at (firstly r) i ≡ missing_at (converted r) i
unfolding missing_at gets_bytes source_of first_send own_event sender_of entry_taken_up
missing_same r i = refl

others_same : (r : PlainRecording) → others_of (firstly r) ≡ others_of (converted r)
unfolding others_of
others_same r = refl

-- ---- all of it

alike_in_form : (r : PlainRecording) → AreReviewedAlike (firstly r) (converted r)
alike_in_form r = record {
  heads = heads r;
  orders = orders_same r;
  told = all_told_same r;
  spans = spans_same r;
  stations = station_same r;
  others = others_same r;
  lines = lines_same r;
  missing = missing_same r;
}

-- A RECORDING AND ITS CONVERSION are reviewed alike
pub reviewed_alike : (r : PlainRecording) → r.setting.form ≡ First → AreReviewedAlike r (converted r)
reviewed_alike r first =
    subst (λ (f : Form). let old : PlainRecording = record r { setting = record r.setting { form = f } } in AreReviewedAlike old (converted r)) (sym first)
    (alike_in_form r)

turned : (a b : PlainRecording) → AreReviewedAlike a b → AreReviewedAlike b a
turned a b alike = record {
  heads = λ i. sym (alike.heads i);
  orders = sym alike.orders;
  told = sym alike.told;
  spans = sym alike.spans;
  stations = λ s. sym (alike.stations s);
  others = sym alike.others;
  lines = sym alike.lines;
  missing = λ i. sym (alike.missing i);
}

-- what is told of the one is told of the other
told_on : (a b : PlainRecording) → length a.setting.stations ≡ length b.setting.stations → AreReviewedAlike a b → (v : Review) → GivesReview a v → GivesReview b v
told_on a b many alike v told = record {
  orders = told.orders ∙ ap length alike.orders;
  others = told.others ∙ alike.others;
  fates = told.fates ∙ ap fates_of alike.told;
  stations = told.stations ∙ values_same (station_counts a) (station_counts b) alike.stations (length a.setting.stations) ∙ ap (values_below (station_counts b)) many;
  lists = record {
    told_is = told.lists.told_is ∙ alike.told;
    spans_is = told.lists.spans_is ∙ alike.spans;
    within = subst (λ n. n ≤ MOST_LINES) alike.lines told.lists.within;
  };
}

reviews_on : (a b : PlainRecording) → length a.setting.stations ≡ length b.setting.stations → AreReviewedAlike a b → (result : Result Review ReviewFault)
    → Reviews a result → Reviews b result
reviews_on a b many alike (Ok v) told = told_on a b many alike v told
reviews_on a b many alike (Err OverLimit) over = subst (λ n. MOST_LINES < n) alike.lines over
reviews_on a b many alike (Err Memory) x = x

-- SO BOTH HAVE THE SAME REVIEW
pub same_review : (r : PlainRecording) (result : Result Review ReviewFault) → r.setting.form ≡ First → Reviews r result ↔ Reviews (converted r) result
same_review r result first =
    let alike = reviewed_alike r first in
    (reviews_on r (converted r) refl alike result, reviews_on (converted r) r refl (turned r (converted r) alike) result)
