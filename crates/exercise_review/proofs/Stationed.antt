-- The parties of an order of which nobody outside can be one: recorded stations, whose addresses rise.
use Rattle.std.proofs.Common.{◌≡◌, ◌≢◌, ⊎_elim, ℕ, zero, suc, ◌+◌, ◌-◌, ◌<◌, ◌≤◌, List, [], ◌∷◌, ◌++◌, length, Bool, true, false, Option, Some, None, refl, sym, ap, ◌∙◌, arith}
use Rattle.std.specs.Prelude.{◌&&◌, ◌||◌, ◌==◌, not, is_some, nat_lt, nat_le, slice_index_or, if◌then◌else◌}
use Rattle.std.specs.List.{list_all}
use Rattle.std.specs.Option.{option_or, option_to_list}
use Rattle.std.proofs.Math.Numerals.{add-one}
use Rattle.std.proofs.lemmas.Bool.{lt-ltb, ltb-true, leb-true, eqb-true, eq-eqb, and_parts, or_cases, cases_lt}
use Rattle.dis_records.specs.declared.address.TheConstants.{LARGEST_ADDRESS_PART}
use Rattle.dis_records.specs.declared.address.SiteApplication.{SiteApplication}
use Rattle.dis_records.specs.Address.{is_address_part, is_address}
use Rattle.dis_records.specs.declared.entity.EntityId.{EntityId}
use Rattle.dis_records.specs.Entity.{site_application_of, is_addressed}
use Rattle.siman_pdus.specs.Answers.{same_id}
use Rattle.exercise_model.specs.declared.station.TheConstants.{MOST_STATIONS}
use Rattle.exercise_model.specs.Station.{StationData, is_station, is_below, are_rising}
use Rattle.exercise_model.specs.Recording.{PlainRecording, IsRecording}
use Rattle.exercise_model.specs.History.{station_at}
use Rattle.exercise_model.specs.Setting.{nowhere, is_open}
use Rattle.exercise_model.specs.Place.{first_below}
use Rattle.exercise_model.proofs.Offered.{first_found}
use Rattle.exercise_review.specs.declared.party.Party.{Party}
use Rattle.exercise_review.specs.declared.party.Party.TheVariants as parties
use Rattle.exercise_review.specs.Order.{OrderData, is_meant}
use Rattle.exercise_review.specs.Party.{first_copy, is_at, is_party, is_party_outside, is_recorded_at, names, is_heard_from}
use Rattle.exercise_review.specs.Parties.{number_of, address_numbered, addresses, has_outsiders, party_by, party_at, parties_below, parties_of, AreNoParties}
use Rattle.exercise_review.proofs.PartyPlaces.{number_back, at_station, skipped, no_parties}
use Rattle.exercise_review.proofs.Lives.{append_none}

-- ---- addresses that rise

small : (a : SiteApplication) → is_address a ≡ true → a.application < 65536
small a h =
    let application = (and_parts (is_address_part a.site) (is_address_part a.application) h).1 in
    let most = leb-true a.application LARGEST_ADDRESS_PART (and_parts (nat_le 1 a.application) (nat_le a.application LARGEST_ADDRESS_PART) application).1 in
    omega (arith, most)

small_at : (ss : List StationData) → list_all is_station ss ≡ true → (j : ℕ) → j < length ss → (slice_index_or ss j nowhere).address.application < 65536
small_at [] all j l = absurd (let no : ⊥ = omega (arith, l) in no)
small_at (s ∷ ss) all zero l = small s.address (and_parts _ _ (and_parts (is_station s) _ all).0).0
small_at (s ∷ ss) all (suc j) l = small_at ss (and_parts (is_station s) _ all).1 j (omega (arith, l))

lower : (a b : SiteApplication) → a.application < 65536 → is_below a b ≡ true → number_of a < number_of b
lower a b few h = ⊎_elim
    (λ (less : nat_lt a.site b.site ≡ true). let l : a.site < b.site = ltb-true _ _ less in omega (arith, few, l))
    (λ less. let parts = and_parts _ _ less in
    let same : a.site ≡ b.site = eqb-true _ _ parts.0 in
    let l : a.application < b.application = ltb-true _ _ parts.1 in
    omega (arith, same, l))
    (or_cases (nat_lt a.site b.site) _ h)

rising_from : (a : SiteApplication) (ss : List StationData) → a.application < 65536 → list_all is_station ss ≡ true → are_rising (Some a) ss ≡ true → (j : ℕ) → j < length ss
    → number_of a < number_of (slice_index_or ss j nowhere).address
rising_from a [] few all rising j l = absurd (let no : ⊥ = omega (arith, l) in no)
rising_from a (s ∷ ss) few all rising zero l = lower a s.address few (and_parts _ _ rising).0
rising_from a (s ∷ ss) few all rising (suc j) l =
    let parts = and_parts _ _ rising in
    let one = lower a s.address few parts.0 in
    let rest = rising_from s.address ss (small_at (s ∷ ss) all 0 (omega arith)) (and_parts (is_station s) _ all).1 parts.1 j (omega (arith, l)) in
    omega (arith, one, rest)

rising_at : (before : Option SiteApplication) (ss : List StationData) → list_all is_station ss ≡ true → are_rising before ss ≡ true → (i j : ℕ) → i < j → j < length ss
    → number_of (slice_index_or ss i nowhere).address < number_of (slice_index_or ss j nowhere).address
rising_at before [] all rising i j less l = absurd (let no : ⊥ = omega (arith, l) in no)
rising_at before (s ∷ ss) all rising i zero less l = absurd (let no : ⊥ = omega (arith, less) in no)
rising_at before (s ∷ ss) all rising zero (suc j) less l =
    rising_from s.address ss (small_at (s ∷ ss) all 0 (omega arith)) (and_parts (is_station s) _ all).1 (and_parts _ _ rising).1 j (omega (arith, l))
rising_at before (s ∷ ss) all rising (suc i) (suc j) less l =
    rising_at (Some s.address) ss (and_parts (is_station s) _ all).1 (and_parts _ _ rising).1 i j (omega (arith, less)) (omega (arith, l))

-- the number of the address of station s
abbrev pub number_at : PlainRecording → ℕ → ℕ
number_at r s = number_of (station_at r s).address

rises : (r : PlainRecording) → IsRecording r → (i j : ℕ) → i < j → j < length r.setting.stations → number_at r i < number_at r j
rises r is i j less l =
    let some = and_parts (nat_le 1 (length r.setting.stations)) (nat_le (length r.setting.stations) MOST_STATIONS && are_rising None r.setting.stations) is.setting.stations in
    let rising = and_parts (nat_le (length r.setting.stations) MOST_STATIONS) (are_rising None r.setting.stations) some.1 in
    rising_at None r.setting.stations is.setting.each_station rising.1 i j less l

-- up to a station whose number is smaller all are, and from one on whose number is not none is
pub all_below : (r : PlainRecording) → IsRecording r → (m number : ℕ) → m < length r.setting.stations → number_at r m < number
    → (s : ℕ) → s < m + 1 → number_at r s < number
all_below r is m number within less s l = ⊎_elim
    (λ (before : s < m). let lower = rises r is s m before within in omega (arith, lower, less))
    (λ (at : m ≤ s). let same : s ≡ m = omega (arith, l, at) in omega (arith, less, ap (number_at r) same))
    (cases_lt s m)

pub all_from : (r : PlainRecording) → IsRecording r → (m number : ℕ) → number ≤ number_at r m
    → (s : ℕ) → m ≤ s → s < length r.setting.stations → number ≤ number_at r s
all_from r is m number more s above l = ⊎_elim
    (λ (behind : m < s). let higher = rises r is m s behind l in omega (arith, higher, more))
    (λ (at : s ≤ m). let same : s ≡ m = omega (arith, above, at) in omega (arith, more, ap (number_at r) same))
    (cases_lt m s)

few_at : (r : PlainRecording) → IsRecording r → (s : ℕ) → s < length r.setting.stations → (station_at r s).address.application < 65536
few_at r is s l = small_at r.setting.stations is.setting.each_station s l

-- ---- who stands at an address

nobody_outside : (r : PlainRecording) (o : OrderData) (a : SiteApplication) → has_outsiders r o ≡ false → is_party_outside r o a ≡ false
unfolding is_party_outside
nobody_outside r o a none =
    elim (is_open r.setting.form) as (λ b. (b && is_some o.maker) ≡ false
    → (b && (is_some o.maker && (not (is_recorded_at r a) && (names o.request.target a || is_some (first_below (is_heard_from r o a) (length r.entries)))))) ≡ false) [
      | false ↦ λ _. refl
      | true ↦ λ none. ap (λ c. c && (not (is_recorded_at r a) && (names o.request.target a || is_some (first_below (is_heard_from r o a) (length r.entries))))) none
    ] none

-- no station has this number: no party stands there
none_at : (r : PlainRecording) (o : OrderData) → has_outsiders r o ≡ false → (m : ℕ) → ((s : ℕ) → s < length r.setting.stations → number_at r s ≢ m)
    → party_at r o (address_numbered m) ≡ None
unfolding party_at
none_at r o none m apart =
    elim (first_below (is_at r (address_numbered m)) (length r.setting.stations)) as
    (λ x. first_below (is_at r (address_numbered m)) (length r.setting.stations) ≡ x → party_by r o (address_numbered m) x ≡ None) [
      | Some s ↦ λ found.
          let at = at_station r (address_numbered m) s (first_found (is_at r (address_numbered m)) (length r.setting.stations) s found).passes in
          absurd (apart s at.0 (at.1 ∙ number_back m))
      | None ↦ λ _. ap (λ b. if b then Some (parties.Outside (record { site = (address_numbered m).site; application = (address_numbered m).application })) else None)
          (nobody_outside r o (address_numbered m) none)
    ] refl

is_there : (r : PlainRecording) → IsRecording r → (s : ℕ) → s < length r.setting.stations → is_at r (address_numbered (number_at r s)) s ≡ true
unfolding is_at
is_there r is s l =
    let few = few_at r is s l in
    rw (
      lt-ltb s (length r.setting.stations) l,
      eq-eqb (station_at r s).address.site (address_numbered (number_at r s)).site (omega (arith, few)),
      eq-eqb (station_at r s).address.application (address_numbered (number_at r s)).application (omega (arith, few)),
    ) refl

first_none : (f : ℕ → Bool) (n j : ℕ) → first_below f n ≡ None → j < n → f j ≡ true → ⊥
unfolding first_below
first_none f zero j none l passes = omega (arith, l)
first_none f (suc n) j none l passes =
    elim (first_below f n) as (λ x. first_below f n ≡ x → ⊥) [
      | Some i ↦ λ found. let no : Some i ≡ None = sym (ap (λ x. option_or x (if f n then Some n else None)) found) ∙ none in absurd (cc)
      | None ↦ λ before. ⊎_elim
          (λ (below : j < n). first_none f n j before below passes)
          (λ (past : n ≤ j).
          let same : n ≡ j = omega (arith, l, past) in
          let here : Some n ≡ None = sym (ap (λ x. option_or x (if f n then Some n else None)) before ∙ ap (λ b. if b then Some n else None) (ap f same ∙ passes)) ∙ none in
          absurd (cc))
          (cases_lt j n)
    ] refl

-- at the address of a station stands that station, where it is a party
here_at : (r : PlainRecording) → IsRecording r → (o : OrderData) (s : ℕ) → s < length r.setting.stations
    → party_at r o (address_numbered (number_at r s)) ≡ (if is_party r o s then Some (parties.Station s) else None)
unfolding party_at
here_at r is o s l =
    elim (first_below (is_at r (address_numbered (number_at r s))) (length r.setting.stations)) as
    (λ x. first_below (is_at r (address_numbered (number_at r s))) (length r.setting.stations) ≡ x
    → party_by r o (address_numbered (number_at r s)) x ≡ (if is_party r o s then Some (parties.Station s) else None)) [
      | None ↦ λ none. absurd (first_none (is_at r (address_numbered (number_at r s))) (length r.setting.stations) s none l (is_there r is s l))
      | Some j ↦ λ found.
          let at = at_station r (address_numbered (number_at r s)) j (first_found (is_at r (address_numbered (number_at r s))) (length r.setting.stations) j found).passes in
          let number : number_at r j ≡ number_at r s = at.1 ∙ number_back (number_at r s) in
          let same : j ≡ s = ⊎_elim
          (λ (less : j < s). let below = rises r is j s less l in absurd (let no : ⊥ = omega (arith, below, number) in no))
          (λ (more : s ≤ j). ⊎_elim
          (λ (above : s < j). let below = rises r is s j above at.0 in absurd (let no : ⊥ = omega (arith, below, number) in no))
          (λ (no_more : j ≤ s). omega (arith, more, no_more))
          (cases_lt s j))
          (cases_lt j s) in
          ap (λ (t : ℕ). if is_party r o t then Some (parties.Station t) else None) same
    ] refl

within : (a : SiteApplication) → is_address a ≡ true → number_of a < addresses
within a h =
    let both = and_parts (is_address_part a.site) (is_address_part a.application) h in
    let site = leb-true a.site LARGEST_ADDRESS_PART (and_parts (nat_le 1 a.site) (nat_le a.site LARGEST_ADDRESS_PART) both.0).1 in
    let application = leb-true a.application LARGEST_ADDRESS_PART (and_parts (nat_le 1 a.application) (nat_le a.application LARGEST_ADDRESS_PART) both.1).1 in
    omega (arith, site, application)

within_at : (ss : List StationData) → list_all is_station ss ≡ true → (j : ℕ) → j < length ss → number_of (slice_index_or ss j nowhere).address < addresses
within_at [] all j l = absurd (let no : ⊥ = omega (arith, l) in no)
within_at (s ∷ ss) all zero l = within s.address (and_parts _ _ (and_parts (is_station s) _ all).0).0
within_at (s ∷ ss) all (suc j) l = within_at ss (and_parts (is_station s) _ all).1 j (omega (arith, l))

-- ---- the list, station by station

-- the numbers up to the address of the last of the first so many stations
abbrev pub up_to : PlainRecording → ℕ → ℕ
up_to r zero = 0
up_to r (suc s) = number_at r s + 1

below_next : (r : PlainRecording) → IsRecording r → (s : ℕ) → s < length r.setting.stations → up_to r s ≤ number_at r s
below_next r is zero l = omega arith
below_next r is (suc s) l = let less = rises r is s (suc s) (omega arith) l in omega (arith, less)

-- between two stations that follow each other stands none
between : (r : PlainRecording) → IsRecording r → (s m : ℕ) → s ≤ length r.setting.stations → up_to r s ≤ m → (s < length r.setting.stations → m < number_at r s)
    → (j : ℕ) → j < length r.setting.stations → number_at r j ≢ m
between r is zero m all above below j l same = ⊎_elim
    (λ (first : 0 < j). let less = rises r is 0 j first l in let under = below (omega (arith, l)) in absurd (let no : ⊥ = omega (arith, less, under, same) in no))
    (λ (none : j ≤ 0). let is_first : j ≡ 0 = omega (arith, none) in let under = below (omega (arith, l)) in absurd (let no : ⊥ = omega (arith, under, same, ap (number_at r) is_first) in no))
    (cases_lt 0 j)
between r is (suc s) m all above below j l same = ⊎_elim
    (λ (past : s < j). ⊎_elim
    (λ (further : suc s < j).
    let less = rises r is (suc s) j further l in let under = below (omega (arith, further, l)) in absurd (let no : ⊥ = omega (arith, less, under, same) in no))
    (λ (next : j ≤ suc s).
    let is_next : j ≡ suc s = omega (arith, past, next) in let under = below (omega (arith, l, is_next)) in absurd (let no : ⊥ = omega (arith, under, same, ap (number_at r) is_next) in no))
    (cases_lt (suc s) j))
    (λ (earlier : j ≤ s). ⊎_elim
    (λ (before : j < s). let less = rises r is j s before (omega (arith, all)) in absurd (let no : ⊥ = omega (arith, less, above, same) in no))
    (λ (at : s ≤ j). let is_last : j ≡ s = omega (arith, earlier, at) in absurd (let no : ⊥ = omega (arith, above, same, ap (number_at r) is_last) in no))
    (cases_lt j s))
    (cases_lt s j)

-- before the address of a station, and behind that of the last, nothing is added
none_between : (r : PlainRecording) → IsRecording r → (o : OrderData) → has_outsiders r o ≡ false → (s n : ℕ) → s ≤ length r.setting.stations
    → (s < length r.setting.stations → n ≤ number_at r s) → AreNoParties r o (up_to r s) n
none_between r is o none s n all end = record {
  none = λ m above below. none_at r o none m (between r is s m all above (λ l. let most = end l in omega (arith, below, most)));
}

pub first_station : (r : PlainRecording) (o : OrderData) → [] ≡ parties_below r o (up_to r 0)
first_station r o = sym (no_parties r o)

pub one_station : (r : PlainRecording) → IsRecording r → (o : OrderData) → has_outsiders r o ≡ false → (s : ℕ) → s < length r.setting.stations
    → parties_below r o (up_to r (s + 1)) ≡ parties_below r o (up_to r s) ++ option_to_list (if is_party r o s then Some (parties.Station s) else None)
unfolding parties_below
one_station r is o none s l =
    ap (λ n. parties_below r o (up_to r n)) (add-one s)
    ∙ ap (parties_below r o) (add-one (number_at r s))
    ∙ ap (λ x. parties_below r o (number_at r s) ++ option_to_list x) (here_at r is o s l)
    ∙ ap (λ ps. ps ++ option_to_list (if is_party r o s then Some (parties.Station s) else None))
    (skipped r o (up_to r s) (number_at r s) (below_next r is s l) (none_between r is o none s (number_at r s) (omega (arith, l)) (λ _. omega arith)))

station_added : (r : PlainRecording) → IsRecording r → (o : OrderData) → has_outsiders r o ≡ false → (s : ℕ) → s < length r.setting.stations → (b : Bool) → is_party r o s ≡ b
    → (old new : List Party) → old ≡ parties_below r o (up_to r s) → new ≡ old ++ option_to_list (if b then Some (parties.Station s) else None)
    → new ≡ parties_below r o (up_to r (s + 1))
station_added r is o none s l b here old new so_far added =
    added ∙ ap (λ ps. ps ++ option_to_list (if b then Some (parties.Station s) else None)) so_far
    ∙ ap (λ c. parties_below r o (up_to r s) ++ option_to_list (if c then Some (parties.Station s) else None)) (sym here)
    ∙ sym (one_station r is o none s l)

pub with_station : (r : PlainRecording) → IsRecording r → (o : OrderData) → has_outsiders r o ≡ false → (s : ℕ) → s < length r.setting.stations → is_party r o s ≡ true
    → (old new : List Party) → old ≡ parties_below r o (up_to r s) → new ≡ old ++ parties.Station s ∷ [] → new ≡ parties_below r o (up_to r (s + 1))
with_station r is o none s l here old new so_far added = station_added r is o none s l true here old new so_far added

pub no_station : (r : PlainRecording) → IsRecording r → (o : OrderData) → has_outsiders r o ≡ false → (s : ℕ) → s < length r.setting.stations → is_party r o s ≡ false
    → (old : List Party) → old ≡ parties_below r o (up_to r s) → old ≡ parties_below r o (up_to r (s + 1))
no_station r is o none s l here old so_far = station_added r is o none s l false here old old so_far (sym (append_none old))

-- stations that are no parties are passed over
pub passed_over : (r : PlainRecording) → IsRecording r → (o : OrderData) → has_outsiders r o ≡ false → (a d : ℕ) → d + a ≤ length r.setting.stations
    → ((s : ℕ) → a ≤ s → s < d + a → is_party r o s ≡ false) → (ps : List Party) → ps ≡ parties_below r o (up_to r a) → ps ≡ parties_below r o (up_to r (d + a))
passed_over r is o none a zero l apart ps so_far = let same : 0 + a ≡ a = omega arith in so_far ∙ ap (λ n. parties_below r o (up_to r n)) (sym same)
passed_over r is o none a (suc d) l apart ps so_far =
    let next : suc d + a ≡ d + a + 1 = omega arith in
    no_station r is o none (d + a) (omega (arith, l)) (apart (d + a) (omega arith) (omega arith)) ps
    (passed_over r is o none a d (omega (arith, l)) (λ s above below. apart s above (omega (arith, below))) ps so_far)
    ∙ ap (λ n. parties_below r o (up_to r n)) (sym next)

-- no party is who is not addressed
not_party : (r : PlainRecording) (o : OrderData) (s : ℕ) → (is_addressed o.request.target (station_at r s).address ≡ true → ⊥) → is_party r o s ≡ false
unfolding is_party is_meant
not_party r o s never =
    elim (is_addressed o.request.target (station_at r s).address) as
    (λ b. is_addressed o.request.target (station_at r s).address ≡ b
    → ((nat_lt s (length r.setting.stations) && b) && (not (same_id o.maker (Some s)) || is_some (first_copy r o s))) ≡ false) [
      | true ↦ λ here. absurd (never here)
      | false ↦ λ _. elim (nat_lt s (length r.setting.stations)) as
          (λ b. ((b && false) && (not (same_id o.maker (Some s)) || is_some (first_copy r o s))) ≡ false) [ true ↦ refl | false ↦ refl ]
    ] refl

-- from station `from` on, and before station `to`, stand all that the order addresses
abbrev pub IsAmong : PlainRecording → OrderData → (from to : ℕ) → Type 0
IsAmong r o from to = (s : ℕ) → s < length r.setting.stations → is_addressed o.request.target (station_at r s).address ≡ true → (from ≤ s) × (s < to)

pub none_before : (r : PlainRecording) → IsRecording r → (o : OrderData) → has_outsiders r o ≡ false → (from to : ℕ) → from ≤ length r.setting.stations → IsAmong r o from to
    → [] ≡ parties_below r o (up_to r from)
none_before r is o none from to l among =
    let whole : from + 0 ≡ from = omega arith in
    passed_over r is o none 0 from (omega (arith, l))
    (λ s _ below. not_party r o s (λ here. let among_these = among s (omega (arith, below, l)) here in omega (arith, among_these.0, below)))
    [] (first_station r o)
    ∙ ap (λ n. parties_below r o (up_to r n)) whole

pub none_behind : (r : PlainRecording) → IsRecording r → (o : OrderData) → has_outsiders r o ≡ false → (from to : ℕ) → to ≤ length r.setting.stations → IsAmong r o from to
    → (ps : List Party) → ps ≡ parties_below r o (up_to r to) → ps ≡ parties_below r o (up_to r (length r.setting.stations))
none_behind r is o none from to l among ps so_far =
    let n : ℕ = length r.setting.stations in
    let whole : n - to + to ≡ n = omega (arith, l) in
    passed_over r is o none to (n - to) (omega (arith, l))
    (λ s above below. not_party r o s (λ here. let among_these = among s (omega (arith, below, l)) here in omega (arith, among_these.1, above)))
    ps so_far
    ∙ ap (λ m. parties_below r o (up_to r m)) whole

-- the number of an address that an identifier names alone
pub named_number : (id : EntityId) (a : SiteApplication) → (id.site ≡ 0xFFFF → ⊥) → (id.application ≡ 0xFFFF → ⊥) → is_addressed id a ≡ true → number_of (site_application_of id) ≡ number_of a
named_number id a some one h =
    let parts = and_parts ((id.site == a.site) || (id.site == 0xFFFF)) _ h in
    let site : id.site ≡ a.site = ⊎_elim (λ same. eqb-true _ _ same) (λ all. absurd (some (eqb-true _ _ all))) (or_cases (id.site == a.site) _ parts.0) in
    let application : id.application ≡ a.application =
    ⊎_elim (λ same. eqb-true _ _ same) (λ all. absurd (one (eqb-true _ _ all))) (or_cases (id.application == a.application) _ parts.1) in
    omega (arith, site, application)

-- of those up to which all numbers are smaller and from which on none is, the first alone can be the one that an identifier names
pub only_at : (r : PlainRecording) → IsRecording r → (id : EntityId) → (id.site ≡ 0xFFFF → ⊥) → (id.application ≡ 0xFFFF → ⊥) → (at : ℕ)
    → ((s : ℕ) → s < at → number_at r s < number_of (site_application_of id)) → ((s : ℕ) → at ≤ s → s < length r.setting.stations → number_of (site_application_of id) ≤ number_at r s)
    → (s : ℕ) → s < length r.setting.stations → is_addressed id (station_at r s).address ≡ true → s ≡ at
only_at r is id some one at below from s l here =
    let named = named_number id (station_at r s).address some one here in
    ⊎_elim
    (λ (before : s < at). let less = below s before in absurd (let no : ⊥ = omega (arith, less, named) in no))
    (λ (not_before : at ≤ s). ⊎_elim
    (λ (behind : at < s).
    let less = rises r is at s behind l in
    let most = from at (omega arith) (omega (arith, behind, l)) in
    absurd (let no : ⊥ = omega (arith, less, most, named) in no))
    (λ (most : s ≤ at). omega (arith, not_before, most))
    (cases_lt at s))
    (cases_lt s at)

-- all of them
pub all_stations : (r : PlainRecording) → IsRecording r → (o : OrderData) → has_outsiders r o ≡ false → (n : ℕ) → n ≡ length r.setting.stations
    → (ps : List Party) → ps ≡ parties_below r o (up_to r n) → ps ≡ parties_of r o
unfolding parties_of
all_stations r is o none n end ps so_far =
    so_far ∙ sym (skipped r o (up_to r n) addresses (most n end)
    (none_between r is o none n addresses (omega (arith, end)) (λ l. absurd (let no : ⊥ = omega (arith, l, end) in no))))
  where
    most : (n : ℕ) → n ≡ length r.setting.stations → up_to r n ≤ addresses
    most zero end = omega arith
    most (suc s) end = let less = within_at r.setting.stations is.setting.each_station s (omega (arith, end)) in omega (arith, less)
