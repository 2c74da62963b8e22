-- Where the parties of an order may be, and that these are all places.
use Rattle.std.proofs.Common.{◌≡◌, ⊎_elim, ℕ, zero, suc, ◌+◌, ◌-◌, ◌<◌, ◌≤◌, [], ◌∷◌, ◌++◌, length, Bool, true, false, Option, Some, None, refl, sym, ap, ◌∙◌, subst, arith}
use Rattle.std.specs.Prelude.{◌||◌, not, is_some, nat_lt, option_map, option_and_then, if◌then◌else◌}
use Rattle.std.specs.Option.{option_to_list}
use Rattle.std.proofs.Math.Numerals.{add-one}
use Rattle.std.proofs.lemmas.Bool.{lt-ltb, le-ltb, ltb-true, ltb-false, leb-true, le-leb, lt-leb, eqb-true, eq-eqb, ne_eqb, and_parts, or_cases, or_parts, cases_lt}
use Rattle.std.proofs.lemmas.Option.{same_Some}
use Rattle.dis_records.specs.declared.address.SiteApplication.{SiteApplication}
use Rattle.dis_records.specs.Entity.{site_application_of}
use Rattle.siman_pdus.specs.declared.pdu.Pdu.{Pdu}
use Rattle.exercise_model.specs.Recording.{PlainRecording}
use Rattle.exercise_model.specs.History.{station_at}
use Rattle.exercise_model.specs.Setting.{is_open}
use Rattle.exercise_model.specs.Place.{first_below}
use Rattle.exercise_model.proofs.Offered.{first_found}
use Rattle.exercise_review.specs.declared.party.Party.{Party}
use Rattle.exercise_review.specs.declared.party.Party.TheVariants as parties
use Rattle.exercise_review.specs.Entries.{pdu_received}
use Rattle.exercise_review.specs.Order.{OrderData, is_first_under_id}
use Rattle.exercise_review.specs.Party.{is_at, names, is_heard_from, is_answer_from, is_party_outside, is_recorded_at}
use Rattle.exercise_review.specs.Parties.{number_of, address_numbered, addresses, party_by, party_at, parties_below, number_heard, candidate_at, is_up_to, with_party, lower_party, AreNoParties, IsPartyAt, IsNextParty}
use Rattle.exercise_review.proofs.Runs.{some_passes, there}
use Rattle.exercise_review.proofs.Lives.{append_none}

-- ---- addresses as numbers

pub number_back : (n : ℕ) → number_of (address_numbered n) ≡ n
number_back n = omega arith

same_number : (a b : SiteApplication) → a.site ≡ b.site → a.application ≡ b.application → number_of a ≡ number_of b
same_number a b site application = rw (site, application) refl

-- ---- every party is at one of the places

pub at_station : (r : PlainRecording) (a : SiteApplication) (s : ℕ) → is_at r a s ≡ true → (s < length r.setting.stations) × (number_of (station_at r s).address ≡ number_of a)
unfolding is_at
at_station r a s h =
    let both = and_parts _ _ h in
    let parts = and_parts _ _ both.1 in
    (ltb-true _ _ both.0, same_number (station_at r s).address a (eqb-true _ _ parts.0) (eqb-true _ _ parts.1))

-- why an address outside is a party
why_outside : (r : PlainRecording) (o : OrderData) (a : SiteApplication) → is_party_outside r o a ≡ true
    → (names o.request.target a || is_some (first_below (is_heard_from r o a) (length r.entries))) ≡ true
unfolding is_party_outside
why_outside r o a h =
    let one = and_parts (is_open r.setting.form) _ h in
    let two = and_parts (is_some o.maker) _ one.1 in
    (and_parts (not (is_recorded_at r a)) _ two.1).1

named : (r : PlainRecording) (o : OrderData) (a : SiteApplication) → names o.request.target a ≡ true → number_of (site_application_of o.request.target) ≡ number_of a
named r o a h =
    let both = and_parts _ _ h in
    let parts = and_parts _ _ both.1 in
    same_number (site_application_of o.request.target) a (eqb-true _ _ parts.0) (eqb-true _ _ parts.1)

shown_number : (r : PlainRecording) (o : OrderData) (a : SiteApplication) (i : ℕ) → is_heard_from r o a i ≡ true → number_heard r o i ≡ Some (number_of a)
unfolding is_heard_from
shown_number r o a i h =
    let one = and_parts (is_first_under_id r o) _ h in
    let two = and_parts (nat_lt o.head i) _ one.1 in
    let p = there (is_answer_from r o a) (option_and_then (λ s. pdu_received r s i) o.maker) two.1 in
    let from = (and_parts _ _ (and_parts _ _ p.2).1).1 in
    let parts = and_parts _ _ from in
    ap (option_map (λ (p : Pdu). number_of (site_application_of p.origin))) p.1
    ∙ ap Some (same_number (site_application_of p.0.origin) a (eqb-true _ _ parts.0) (eqb-true _ _ parts.1))

-- one of the places has this number
record IsCandidate (r : PlainRecording) (o : OrderData) (n : ℕ) : Type 0 where
  place : ℕ
  within : place < length r.setting.stations + 1 + length r.entries
  number : candidate_at r o place ≡ Some n

place_station : (r : PlainRecording) (o : OrderData) (s : ℕ) → s < length r.setting.stations → candidate_at r o s ≡ Some (number_of (station_at r s).address)
unfolding candidate_at
place_station r o s h = rw (lt-ltb s (length r.setting.stations) h) refl

place_target : (r : PlainRecording) (o : OrderData) → candidate_at r o (length r.setting.stations) ≡ Some (number_of (site_application_of o.request.target))
unfolding candidate_at
place_target r o =
    rw (le-ltb (length r.setting.stations) (length r.setting.stations) (omega arith), eq-eqb (length r.setting.stations) (length r.setting.stations) refl) refl

place_heard : (r : PlainRecording) (o : OrderData) (i : ℕ) → candidate_at r o (length r.setting.stations + 1 + i) ≡ number_heard r o i
unfolding candidate_at
place_heard r o i =
    let back : length r.setting.stations + 1 + i - length r.setting.stations - 1 ≡ i = omega arith in
    rw (
      le-ltb (length r.setting.stations + 1 + i) (length r.setting.stations) (omega arith),
      ne_eqb (length r.setting.stations + 1 + i) (length r.setting.stations) (λ (e : length r.setting.stations + 1 + i ≡ length r.setting.stations). omega (arith, e)),
    )
    (ap (number_heard r o) back)

-- the same for a number of stations that is known
pub station_place : (r : PlainRecording) (o : OrderData) (n i : ℕ) (a : SiteApplication) → n ≡ length r.setting.stations → i < n → a ≡ (station_at r i).address
    → Some (number_of a) ≡ candidate_at r o i
station_place r o n i a is below at = ap (λ x. Some (number_of x)) at ∙ sym (place_station r o i (omega (arith, is, below)))

pub target_place : (r : PlainRecording) (o : OrderData) (n i : ℕ) (a : SiteApplication) → n ≡ length r.setting.stations → i ≡ n → a ≡ site_application_of o.request.target
    → Some (number_of a) ≡ candidate_at r o i
target_place r o n i a is at target = ap (λ x. Some (number_of x)) target ∙ sym (place_target r o) ∙ ap (candidate_at r o) (sym (at ∙ is))

pub heard_place : (r : PlainRecording) (o : OrderData) (n i : ℕ) → n ≡ length r.setting.stations → n < i → number_heard r o (i - n - 1) ≡ candidate_at r o i
heard_place r o n i is above =
    let back : length r.setting.stations + 1 + (i - n - 1) ≡ i = omega (arith, is, above) in
    sym (place_heard r o (i - n - 1)) ∙ ap (candidate_at r o) back

place_of_station : (r : PlainRecording) (o : OrderData) (a : SiteApplication) (s : ℕ) → is_at r a s ≡ true → IsCandidate r o (number_of a)
place_of_station r o a s h =
    let at = at_station r a s h in
    record { place = s; within = omega (arith, at.0); number = place_station r o s at.0 ∙ ap Some at.1 }

place_outside : (r : PlainRecording) (o : OrderData) (a : SiteApplication) → is_party_outside r o a ≡ true → IsCandidate r o (number_of a)
place_outside r o a h = ⊎_elim
    (λ (e : names o.request.target a ≡ true).
    let number = place_target r o ∙ ap Some (named r o a e) in
    record { place = length r.setting.stations; within = omega arith; number = number })
    (λ (e : is_some (first_below (is_heard_from r o a) (length r.entries)) ≡ true).
    let told = some_passes (is_heard_from r o a) (length r.entries) e in
    let within : told.0 < length r.entries = (first_found (is_heard_from r o a) (length r.entries) told.0 told.1).below in
    record {
      place = length r.setting.stations + 1 + told.0;
      within = omega (arith, within);
      number = place_heard r o told.0 ∙ shown_number r o a told.0 told.2;
    })
    (or_cases _ _ (why_outside r o a h))

if_some : {X : Type 0} (b : Bool) (x y : X) → (if b then Some x else None) ≡ Some y → b ≡ true
if_some true x y h = refl
if_some false x y h = absurd (cc)

-- EACH PARTY IS AT ONE OF THE PLACES
party_place : (r : PlainRecording) (o : OrderData) (a : SiteApplication) (p : Party) → party_at r o a ≡ Some p → IsCandidate r o (number_of a)
unfolding party_at
party_place r o a p =
    elim (first_below (is_at r a) (length r.setting.stations)) as
    (λ x. first_below (is_at r a) (length r.setting.stations) ≡ x → party_by r o a x ≡ Some p → IsCandidate r o (number_of a)) [
      | Some s ↦ λ found _. place_of_station r o a s (first_found (is_at r a) (length r.setting.stations) s found).passes
      | None ↦ λ _ h. place_outside r o a (if_some (is_party_outside r o a) (parties.Outside a) p h)
    ] refl

-- ---- the nearest of those so far

-- what is next from a number on, after the places below k: it stands there, and none that is one comes before it
pub record IsNearest (r : PlainRecording) (o : OrderData) (from k : ℕ) (next : Option (ℕ × Party)) : Type 0 where
  pub found : (x : ℕ × Party) → next ≡ Some x → IsPartyAt r o from x
  pub least : (i n : ℕ) (p : Party) → i < k → candidate_at r o i ≡ Some n → from ≤ n → party_at r o (address_numbered n) ≡ Some p → is_up_to n next ≡ true

pub none_nearest : (r : PlainRecording) (o : OrderData) (from : ℕ) → IsNearest r o from 0 None
none_nearest r o from = record { found = λ x h. absurd (cc); least = λ i n p below. absurd (omega (arith, below)) }

pub still_nearest : (r : PlainRecording) (o : OrderData) (from k : ℕ) (next : Option (ℕ × Party)) → candidate_at r o k ≡ None
    → IsNearest r o from k next → IsNearest r o from (k + 1) next
still_nearest r o from k next none so_far = record {
  found = so_far.found;
  least = λ i n p below at above party. ⊎_elim
      (λ (less : i < k). so_far.least i n p less at above party)
      (λ (most : k ≤ i).
      let same : i ≡ k = omega (arith, below, most) in
      absurd (cc (none, at, ap (candidate_at r o) same)))
      (cases_lt i k);
}

up_to_more : (m n : ℕ) (next : Option (ℕ × Party)) → m ≤ n → is_up_to m next ≡ true → is_up_to n next ≡ true
up_to_more m n None l h = absurd (cc)
up_to_more m n (Some x) l h = le-leb x.0 n (omega (arith, l, leb-true x.0 m h))

-- with the party at one place more, where it is nearer
nearest_with : (r : PlainRecording) (o : OrderData) (from k n : ℕ) (next : Option (ℕ × Party)) (p : Option Party) → candidate_at r o k ≡ Some n → n < addresses → from ≤ n
    → is_up_to n next ≡ false → party_at r o (address_numbered n) ≡ p → IsNearest r o from k next → IsNearest r o from (k + 1) (with_party n next p)
nearest_with r o from k n next None at small above lower_party is so_far = record {
  found = so_far.found;
  least = λ i m p below at' above' party. ⊎_elim
      (λ (less : i < k). so_far.least i m p less at' above' party)
      (λ (most : k ≤ i).
      let same : i ≡ k = omega (arith, below, most) in
      let number : Some n ≡ Some m = sym at ∙ ap (candidate_at r o) (sym same) ∙ at' in
      absurd (cc (number, is, party)))
      (cases_lt i k);
}
nearest_with r o from k n next (Some q) at small above lower_party is so_far = record {
  found = λ x h. subst (IsPartyAt r o from) (same_Some (n, q) x h) record { above = above; below = small; party = is };
  least = λ i m p below at' above' party. ⊎_elim
      (λ (less : i < k).
      let here : is_up_to m next ≡ true = so_far.least i m p less at' above' party in
      ⊎_elim
      (λ (low : m < n). let more : is_up_to n next ≡ true = up_to_more m n next (omega (arith, low)) here in absurd (cc (more, lower_party)))
      (λ (high : n ≤ m). le-leb n m high)
      (cases_lt m n))
      (λ (most : k ≤ i).
      let same : i ≡ k = omega (arith, below, most) in
      let number : Some n ≡ Some m = sym at ∙ ap (candidate_at r o) (sym same) ∙ at' in
      le-leb n m (omega (arith, same_Some n m number)))
      (cases_lt i k);
}

-- what is too low, or no nearer, changes nothing
nearest_kept : (r : PlainRecording) (o : OrderData) (from k n : ℕ) (next : Option (ℕ × Party)) → candidate_at r o k ≡ Some n → (nat_lt n from || is_up_to n next) ≡ true
    → IsNearest r o from k next → IsNearest r o from (k + 1) next
nearest_kept r o from k n next at kept so_far = record {
  found = so_far.found;
  least = λ i m p below at' above party. ⊎_elim
      (λ (less : i < k). so_far.least i m p less at' above party)
      (λ (most : k ≤ i).
      let same : i ≡ k = omega (arith, below, most) in
      let number : Some n ≡ Some m = sym at ∙ ap (candidate_at r o) (sym same) ∙ at' in
      let is : n ≡ m = same_Some n m number in
      ⊎_elim
      (λ (low : nat_lt n from ≡ true). let l : n < from = ltb-true n from low in absurd (omega (arith, l, is, above)))
      (λ (up : is_up_to n next ≡ true). up_to_more n m next (omega (arith, is)) up)
      (or_cases _ _ kept))
      (cases_lt i k);
}

pub nearest_more : (r : PlainRecording) (o : OrderData) (from k n : ℕ) (next : Option (ℕ × Party)) → candidate_at r o k ≡ Some n → n < addresses
    → IsNearest r o from k next → IsNearest r o from (k + 1) (lower_party r o from next n)
nearest_more r o from k n next at small so_far =
    elim (nat_lt n from || is_up_to n next) as (λ b. (nat_lt n from || is_up_to n next) ≡ b
    → IsNearest r o from (k + 1) (if b then next else with_party n next (party_at r o (address_numbered n)))) [
      | true ↦ λ kept. nearest_kept r o from k n next at kept so_far
      | false ↦ λ e.
          let parts = or_parts (nat_lt n from) (is_up_to n next) e in
          nearest_with r o from k n next (party_at r o (address_numbered n)) at small (ltb-false n from parts.0) parts.1 refl so_far
    ] refl

-- no party before the nearest of all
before_nearest : (r : PlainRecording) (o : OrderData) (from m : ℕ) (next : Option (ℕ × Party)) (x : Option Party)
    → IsNearest r o from (length r.setting.stations + 1 + length r.entries) next → from ≤ m → is_up_to m next ≡ false → party_at r o (address_numbered m) ≡ x → x ≡ None
before_nearest r o from m next None all above not_yet is = refl
before_nearest r o from m next (Some p) all above not_yet is =
    let place = party_place r o (address_numbered m) p is in
    let here : is_up_to m next ≡ true = all.least place.place m p place.within (place.number ∙ ap Some (number_back m)) above is in
    absurd (cc (here, not_yet))

pub nearest_is_next : (r : PlainRecording) (o : OrderData) (from k : ℕ) (next : Option (ℕ × Party)) → k ≡ length r.setting.stations + 1 + length r.entries
    → IsNearest r o from k next → IsNextParty r o from next
nearest_is_next r o from k None end so_far =
    let all = subst (λ n. IsNearest r o from n None) end so_far in
    record { none = λ m above below. before_nearest r o from m None (party_at r o (address_numbered m)) all above refl refl }
nearest_is_next r o from k (Some x) end so_far =
    let all = subst (λ n. IsNearest r o from n (Some x)) end so_far in (
      so_far.found x refl,
      record { none = λ m above below. before_nearest r o from m (Some x) (party_at r o (address_numbered m)) all above (lt-leb x.0 m below) refl },
    )

-- ---- the list

skip : (r : PlainRecording) (o : OrderData) (from k : ℕ) → ((m : ℕ) → from ≤ m → m < from + k → party_at r o (address_numbered m) ≡ None)
    → parties_below r o (from + k) ≡ parties_below r o from
unfolding parties_below
skip r o from zero none = let same : from + 0 ≡ from = omega arith in ap (parties_below r o) same
skip r o from (suc k) none =
    let next : from + suc k ≡ suc (from + k) = omega arith in
    ap (parties_below r o) next
    ∙ ap (λ x. parties_below r o (from + k) ++ option_to_list x) (none (from + k) (omega arith) (omega arith))
    ∙ append_none (parties_below r o (from + k))
    ∙ skip r o from k (λ m above below. none m above (omega (arith, below)))

pub skipped : (r : PlainRecording) (o : OrderData) (from n : ℕ) → from ≤ n → AreNoParties r o from n → parties_below r o n ≡ parties_below r o from
skipped r o from n above none =
    let same : n ≡ from + (n - from) = omega (arith, above) in
    ap (parties_below r o) same ∙ skip r o from (n - from) (λ m l b. none.none m l (omega (arith, same, b)))

pub no_parties : (r : PlainRecording) (o : OrderData) → parties_below r o 0 ≡ []
unfolding parties_below
no_parties r o = refl

pub one_party : (r : PlainRecording) (o : OrderData) (from : ℕ) (x : ℕ × Party) → IsNextParty r o from (Some x)
    → parties_below r o (x.0 + 1) ≡ parties_below r o from ++ x.1 ∷ []
unfolding parties_below
one_party r o from x next =
    ap (parties_below r o) (add-one x.0)
    ∙ ap (λ y. parties_below r o x.0 ++ option_to_list y) next.0.party
    ∙ ap (λ ps. ps ++ x.1 ∷ []) (skipped r o from x.0 next.0.above next.1)

pub all_parties : (r : PlainRecording) (o : OrderData) (from : ℕ) → from ≤ addresses → IsNextParty r o from None → parties_below r o addresses ≡ parties_below r o from
all_parties r o from above none = skipped r o from addresses above none
