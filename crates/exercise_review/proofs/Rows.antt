-- What is kept of an order at a party can be read again, and is counted as it is.
use Rattle.std.proofs.Common.{◌≡◌, ⊎_elim, ℕ, zero, suc, ◌+◌, ◌<◌, ◌≤◌, List, [], ◌∷◌, ◌++◌, length, take, get_or, Bool, true, false, Option, Some, None, refl, sym, ap, ◌∙◌, subst, arith}
use Rattle.std.specs.Prelude.{IfSome, is_some, option_map, option_and_then, slice_get, if◌then◌else◌}
use Rattle.std.specs.Option.{option_or, option_map_or}
use Rattle.std.proofs.lemmas.List.{length-map, take_more}
use Rattle.std.proofs.lemmas.Bool.{cases_lt}
use Rattle.std.proofs.lemmas.Option.{slice_get-map, slice_get_past, slice_get_read, slice_get_within, get_or_from_slice_get, same_Some}
use Rattle.siman_pdus.specs.declared.pdu.Pdu.{Pdu}
use Rattle.siman_pdus.specs.Answers.{same_id}
use Rattle.exercise_model.specs.Entry.{Entry}
use Rattle.exercise_model.specs.Meaning.{meaning}
use Rattle.exercise_model.specs.Place.{first_below}
use Rattle.exercise_model.specs.Recording.{PlainRecording, IsRecording}
use Rattle.exercise_model.proofs.Offered.{first_found}
use Rattle.exercise_review.specs.declared.outcome.Outcome.{Outcome}
use Rattle.exercise_review.specs.declared.party.Party.{Party}
use Rattle.exercise_review.specs.declared.party.Party.TheVariants as parties
use Rattle.exercise_review.specs.declared.row.OrderRow.{OrderRow}
use Rattle.exercise_review.specs.declared.told.OrderAt.{OrderAt}
use Rattle.exercise_review.specs.Counted.{last_below, count_below}
use Rattle.exercise_review.specs.Order.{OrderData, made_by, order_of_entry, order_at, head_of, sends_order, sends_of}
use Rattle.exercise_review.specs.Outcome.{outcome_at, partyless_outcome}
use Rattle.exercise_review.specs.Party.{first_copy, is_copy}
use Rattle.exercise_review.specs.Reply.{change_of_order}
use Rattle.exercise_review.specs.Row.{row_outcome, row_order, AreRows, IsAmong, IsKept}
use Rattle.exercise_review.specs.Told.{order_at_party}
use Rattle.exercise_review.specs.Word.{decisive_entry, first_settling}
use Rattle.exercise_review.proofs.Tallies.{count_most}
use Rattle.exercise_review.proofs.Walks.{last_found}

-- ---- what can be kept

if_below : (n : ℕ) (o : Option ℕ) → ((j : ℕ) → o ≡ Some j → j < n) → IfSome o (λ i. i < n)
if_below n None below = tt
if_below n (Some j) below = below j refl

among_first : (r : PlainRecording) (test : ℕ → Bool) → IsAmong r (first_below test (length r.entries))
among_first r test = if_below (length r.entries) (first_below test (length r.entries)) (λ j found. (first_found test (length r.entries) j found).below)

among_last : (r : PlainRecording) (test : ℕ → Bool) → IsAmong r (last_below test (length r.entries))
among_last r test = if_below (length r.entries) (last_below test (length r.entries)) (λ j found. (last_found test (length r.entries) j found).0)

among_either : (r : PlainRecording) (a b : Option ℕ) → IsAmong r a → IsAmong r b → IsAmong r (option_or a b)
among_either r None b first second = second
among_either r (Some i) b first second = first

among_telling : (r : PlainRecording) (test : ℕ → Bool) → IsAmong r (decisive_entry r test)
unfolding decisive_entry first_settling
among_telling r test = among_either r (first_settling r test) (last_below test (length r.entries)) (among_first r _) (among_last r test)

among_copies : (r : PlainRecording) (o : OrderData) (t : ℕ) → IsAmong r (first_copy r o t)
unfolding first_copy
among_copies r o t = among_first r (is_copy r o t)

among_changes : (r : PlainRecording) (o : OrderData) (t : ℕ) → IsAmong r (change_of_order r o t)
unfolding change_of_order
among_changes r o t = among_first r _

-- what is told at a party
kept_at : (r : PlainRecording) (o : OrderData) (party : Party) → IsKept r o (outcome_at r o party)
unfolding outcome_at
kept_at r o (parties.Station t) = record {
  sends = refl;
  receipts = refl;
  count = count_most (is_copy r o t) (length r.entries);
  said = refl;
  heard = refl;
  took = refl;
  got = among_copies r o t;
  answer = among_telling r _;
  news = among_telling r _;
  change = among_changes r o t;
}
kept_at r o (parties.Outside a) = record {
  sends = refl;
  receipts = refl;
  count = tt;
  said = refl;
  heard = refl;
  took = refl;
  got = tt;
  answer = tt;
  news = among_telling r _;
  change = tt;
}

pub kept_is : (r : PlainRecording) (o : OrderData) (x : Outcome) (p : Party) → x ≡ outcome_at r o p → IsKept r o x
kept_is r o x p is = subst (IsKept r o) (sym is) (kept_at r o p)

-- and where there is none
pub kept_nowhere : (r : PlainRecording) (o : OrderData) → IsKept r o (partyless_outcome r o)
kept_nowhere r o = record { sends = refl; receipts = refl; count = tt; said = refl; heard = refl; took = refl; got = tt; answer = tt; news = tt; change = tt }

few : (n m : ℕ) (o : Option ℕ) → n < m → IfSome o (λ i. i ≤ n) → IfSome o (λ i. i < m)
few n m None less most = tt
few n m (Some i) less most = omega (arith, less, most)

fewer : (n m : ℕ) (o : Option ℕ) → n ≤ m → IfSome o (λ i. i < n) → IfSome o (λ i. i < m)
fewer n m None less most = tt
fewer n m (Some i) less most = omega (arith, less, most)

-- an entry has a number of 32 bits that stands for no other
pub entry_fits : (r : PlainRecording) (entry : Option ℕ) → IsRecording r → IsAmong r entry → IfSome entry (λ i. i < 0xFFFFFFFF)
entry_fits r entry limits among = fewer (length r.entries) 0xFFFFFFFF entry (omega (arith, limits.count)) among

pub count_fits : (r : PlainRecording) (count : Option ℕ) → IsRecording r → IfSome count (λ n. n ≤ length r.entries) → IfSome count (λ n. n < 0x100000000)
count_fits r count limits most = few (length r.entries) 0x100000000 count (omega (arith, limits.count)) most

sends_most : (r : PlainRecording) (o : OrderData) (maker : Option ℕ) → o.maker ≡ maker → IfSome (option_map (λ s. sends_of r o) maker) (λ n. n ≤ length r.entries)
unfolding sends_of
sends_most r o None is = tt
sends_most r o (Some s) is =
    subst (λ (m : Option ℕ). option_map_or (λ t. count_below (sends_order r t o.request) (length r.entries)) m 0 ≤ length r.entries) (sym is)
    (count_most (sends_order r s o.request) (length r.entries))

pub sends_fit : (r : PlainRecording) (o : OrderData) (x : Outcome) → IsRecording r → IsKept r o x → IfSome x.sends (λ n. n < 0x100000000)
sends_fit r o x limits kept =
    count_fits r x.sends limits (subst (λ (n : Option ℕ). IfSome n (λ m. m ≤ length r.entries)) (sym kept.sends) (sends_most r o o.maker refl))

-- ---- an order, read again

-- an order stands at one of the entries
pub among_entries : (r : PlainRecording) (i : ℕ) (o : OrderData) → order_at r i ≡ Some o → i < length r.entries
unfolding order_at
among_entries r i o at =
    ⊎_elim
    (λ (below : i < length r.entries). below)
    (λ (beyond : length r.entries ≤ i). absurd (none (same_id (head_of r i) (Some i))
    (sym (ap (λ (e : Option Entry). if same_id (head_of r i) (Some i) then option_and_then (order_of_entry r i) e else None) (slice_get_past r.entries i beyond)) ∙ at)))
    (cases_lt i (length r.entries))
  where
    none : (b : Bool) → (if b then None else None) ≡ Some o → ⊥
    none true e = cc
    none false e = cc

-- what stands at the head of an order
pub order_stands : (r : PlainRecording) (i : ℕ) (e : Entry) → is_some (order_at r i) ≡ true → slice_get r.entries i ≡ Some e → order_at r i ≡ order_of_entry r i e
unfolding order_at
order_stands r i e some at =
    here (same_id (head_of r i) (Some i)) some ∙ ap (option_and_then (order_of_entry r i)) at
  where
    here : (b : Bool) → is_some (if b then option_and_then (order_of_entry r i) (slice_get r.entries i) else None) ≡ true
        → (if b then option_and_then (order_of_entry r i) (slice_get r.entries i) else None) ≡ option_and_then (order_of_entry r i) (slice_get r.entries i)
    here true some = refl
    here false some = absurd (cc)

-- its datagram means something
pub head_means : (r : PlainRecording) (i : ℕ) (e : Entry) (maker : Option ℕ) (b : List ℕ) → is_some (order_at r i) ≡ true → slice_get r.entries i ≡ Some e
    → order_of_entry r i e ≡ option_map (made_by i maker) (meaning r.setting.exercise b) → is_some (meaning r.setting.exercise b) ≡ true
head_means r i e maker b some at is =
    here (meaning r.setting.exercise b) (ap is_some (sym (order_stands r i e some at ∙ is)) ∙ some)
  where
    here : (m : Option Pdu) → is_some (option_map (made_by i maker) m) ≡ true → is_some m ≡ true
    here None some = some
    here (Some p) some = refl

-- and it is one of the entries
pub head_among : (r : PlainRecording) (i : ℕ) → is_some (order_at r i) ≡ true → i < length r.entries
head_among r i some = here (order_at r i) refl
  where
    here : (o : Option OrderData) → order_at r i ≡ o → i < length r.entries
    here None is = let no : false ≡ true = ap is_some (sym is) ∙ some in absurd (cc)
    here (Some o) is = among_entries r i o is

-- a row that tells something has its order
pub order_there : (r : PlainRecording) (y : OrderRow) → is_some (row_order r y) ≡ true → is_some (order_at r y.head) ≡ true
unfolding row_order
order_there r y some = here (order_at r y.head) some
  where
    here : (o : Option OrderData) → is_some (option_map (λ p. order_at_party r p (row_outcome r p y)) o) ≡ true → is_some o ≡ true
    here None some = some
    here (Some o) some = refl

-- ---- what rows are counted by

same_fate_kept : (r : PlainRecording) (y : OrderRow) (t : OrderAt) → row_order r y ≡ Some t → (y.fate ≡ t.outcome.fate) × (y.party ≡ t.outcome.party)
unfolding row_order
same_fate_kept r y t told = here (order_at r y.head) told
  where
    here : (o : Option OrderData) → option_map (λ p. order_at_party r p (row_outcome r p y)) o ≡ Some t → (y.fate ≡ t.outcome.fate) × (y.party ≡ t.outcome.party)
    here None is = absurd (cc)
    here (Some p) is =
        let same : order_at_party r p (row_outcome r p y) ≡ t = same_Some (order_at_party r p (row_outcome r p y)) t is in
        (ap (λ (x : OrderAt). x.outcome.fate) same, ap (λ (x : OrderAt). x.outcome.party) same)

pub rows_count : (r : PlainRecording) (rows : List OrderRow) (told : List OrderAt) → AreRows r rows told → length rows ≡ length told
rows_count r rows told are = sym (length-map rows (row_order r)) ∙ ap length are ∙ length-map told Some

-- the row at each place tells what stands there
pub row_at : (r : PlainRecording) (rows : List OrderRow) (told : List OrderAt) (i : ℕ) → AreRows r rows told
    → option_map (row_order r) (slice_get rows i) ≡ option_map Some (slice_get told i)
row_at r rows told i are = sym (slice_get-map (row_order r) rows i) ∙ ap (λ (xs : List (Option OrderAt)). slice_get xs i) are ∙ slice_get-map Some told i

-- what rows and what they tell are counted by is the same, where it goes by the fate and the party
pub counted_alike : {X : Type 0} (r : PlainRecording) (rows : List OrderRow) (told : List OrderAt) (i : ℕ) (f : OrderRow → X) (g : OrderAt → X) → AreRows r rows told
    → ((y : OrderRow) (t : OrderAt) → y.fate ≡ t.outcome.fate → y.party ≡ t.outcome.party → f y ≡ g t)
    → option_map f (slice_get rows i) ≡ option_map g (slice_get told i)
counted_alike r rows told i f g are same = here (slice_get rows i) (slice_get told i) (row_at r rows told i are)
  where
    here : (y : Option OrderRow) (t : Option OrderAt) → option_map (row_order r) y ≡ option_map Some t → option_map f y ≡ option_map g t
    here None None is = refl
    here None (Some t) is = absurd (cc)
    here (Some y) None is = absurd (cc)
    here (Some y) (Some t) is =
        let kept = same_fate_kept r y t (same_Some (row_order r y) (Some t) is) in
        ap Some (same y t kept.0 kept.1)

-- ---- rows one by one

-- the row at a place that has a line tells that
pub row_there : (r : PlainRecording) (rows : List OrderRow) (told : List OrderAt) (i : ℕ) (y : OrderRow) → AreRows r rows told → i < length told → y ≡ get_or rows i y
    → slice_get told i ≡ row_order r y
row_there r rows told i y are within at =
    of_told (slice_get told i) (ap (option_map (row_order r)) (sym here) ∙ row_at r rows told i are)
  where
    here : slice_get rows i ≡ Some y
    here = slice_get_read rows (length told) i y (sym (rows_count r rows told are)) within at

    of_told : (t : Option OrderAt) → Some (row_order r y) ≡ option_map Some t → t ≡ row_order r y
    of_told None is = absurd (cc)
    of_told (Some t) is = sym (same_Some (row_order r y) (Some t) is)

pub row_some : (r : PlainRecording) (rows : List OrderRow) (told : List OrderAt) (i : ℕ) (y : OrderRow) → AreRows r rows told → i < length told → y ≡ get_or rows i y
    → is_some (row_order r y) ≡ true
row_some r rows told i y are within at =
    ap is_some (sym (row_there r rows told i y are within at)) ∙ there told i within
  where
    there : (xs : List OrderAt) (k : ℕ) → k < length xs → is_some (slice_get xs k) ≡ true
    there [] k within = absurd (omega (arith, within))
    there (x ∷ xs) zero within = refl
    there (x ∷ xs) (suc k) within = there xs k (omega (arith, within))

-- the lines so far, and the one at the next place
pub one_taken : {X : Type 0} (all part new : List X) (i : ℕ) (x : X) → slice_get all i ≡ Some x → part ≡ take i all → new ≡ part ++ x ∷ [] → new ≡ take (i + 1) all
one_taken all part new i x at before here =
    here ∙ ap (λ xs. xs ++ x ∷ []) before ∙ ap (λ y. take i all ++ y ∷ []) (sym (get_or_from_slice_get all i x x at))
    ∙ sym (take_more all i x (slice_get_within all i x at))
