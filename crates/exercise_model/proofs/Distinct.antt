-- No two stations of a setting have the same address.
use Rattle.std.proofs.Common.{◌≡◌, ⊎_elim, inl, inr, ℕ, zero, suc, ◌<◌, List, [], ◌∷◌, length, Option, Some, None, Bool, true, false, subst, arith}
use Rattle.std.specs.Prelude.{◌⊎◌, ◌&&◌, ◌||◌, ◌==◌, nat_lt, nat_le, slice_index_or}
use Rattle.std.proofs.lemmas.Bool.{and_parts, eqb-true, ltb-true, cases_order}
use Rattle.exercise_model.specs.declared.station.TheConstants.{MOST_STATIONS}
use Rattle.dis_records.specs.declared.address.SiteApplication.{SiteApplication}
use Rattle.siman_pdus.specs.declared.pdu.Pdu.{Pdu}
use Rattle.exercise_model.specs.Station.{StationData, is_below, is_above, are_rising}
use Rattle.exercise_model.specs.Setting.{SettingData, IsSetting, nowhere, station_in, is_from}

-- an address is below another: by its site, or by its application at the same site
abbrev pub IsLess : SiteApplication → SiteApplication → Type 0
IsLess p q = (p.site < q.site) ⊎ ((p.site ≡ q.site) × (p.application < q.application))

or_parts : (a b : Bool) → (a || b) ≡ true → (a ≡ true) ⊎ (b ≡ true)
or_parts true b e = inl e
or_parts false b e = inr e

less : (p q : SiteApplication) → is_below p q ≡ true → IsLess p q
less p q e =
    ⊎_elim
    (λ (site : nat_lt p.site q.site ≡ true). inl (ltb-true _ _ site))
    (λ (both : ((p.site == q.site) && nat_lt p.application q.application) ≡ true). let parts = and_parts (p.site == q.site)
    (nat_lt p.application q.application) both in inr (eqb-true _ _ parts.0, ltb-true _ _ parts.1))
    (or_parts (nat_lt p.site q.site) ((p.site == q.site) && nat_lt p.application q.application) e)

less_on : (p q u : SiteApplication) → IsLess p q → IsLess q u → IsLess p u
less_on p q u one other =
    ⊎_elim
    (λ (a : p.site < q.site). ⊎_elim (λ (b : q.site < u.site). let c : p.site < u.site = omega arith in inl c)
    (λ (b : (q.site ≡ u.site) × (q.application < u.application)). let c : p.site < u.site = omega (arith, a, b.0) in inl c) other)
    (λ (a : (p.site ≡ q.site) × (p.application < q.application)).
    ⊎_elim (λ (b : q.site < u.site). let c : p.site < u.site = omega (arith, a.0, b) in inl c)
    (λ (b : (q.site ≡ u.site) × (q.application < u.application)).
    let c : p.site ≡ u.site = omega (arith, a.0, b.0) in let d : p.application < u.application = omega (arith, a.1, b.1) in inr (c, d)) other)
    one

-- stations that rise from above an address are all above it
rising_from : (a : SiteApplication) (ss : List StationData) → are_rising (Some a) ss ≡ true → (j : ℕ) → j < length ss
    → IsLess a (slice_index_or ss j nowhere).address
rising_from a [] rising j within = absurd (omega arith)
rising_from a (s ∷ ss) rising zero within = less a s.address (and_parts (is_below a s.address) (are_rising (Some s.address) ss) rising).0
rising_from a (s ∷ ss) rising (suc j) within =
    let parts = and_parts (is_below a s.address) (are_rising (Some s.address) ss) rising in
    less_on a s.address (slice_index_or ss j nowhere).address (less a s.address parts.0) (rising_from s.address ss parts.1 j (omega arith))

rising_at : (before : Option SiteApplication) (ss : List StationData) → are_rising before ss ≡ true → (i j : ℕ) → i < j → j < length ss
    → IsLess (slice_index_or ss i nowhere).address (slice_index_or ss j nowhere).address
rising_at before [] rising i j below within = absurd (omega arith)
rising_at before (s ∷ ss) rising zero zero below within = absurd (omega arith)
rising_at before (s ∷ ss) rising zero (suc j) below within =
    rising_from s.address ss (and_parts (is_above before s.address) (are_rising (Some s.address) ss) rising).1 j (omega arith)
rising_at before (s ∷ ss) rising (suc i) zero below within = absurd (omega arith)
rising_at before (s ∷ ss) rising (suc i) (suc j) below within =
    rising_at (Some s.address) ss (and_parts (is_above before s.address) (are_rising (Some s.address) ss) rising).1 i j (omega arith) (omega arith)

-- one originator is not at two addresses of which one is below the other
no_two_origins : (a c : SiteApplication) (p : Pdu) → is_from a p ≡ true → is_from c p ≡ true → IsLess a c → ⊥
no_two_origins a c p one other below =
    let x = and_parts (p.origin.site == a.site) (p.origin.application == a.application) one in
    let y = and_parts (p.origin.site == c.site) (p.origin.application == c.application) other in
    let x0 = eqb-true _ _ x.0 in let x1 = eqb-true _ _ x.1 in let y0 = eqb-true _ _ y.0 in let y1 = eqb-true _ _ y.1 in
    ⊎_elim (λ (less : a.site < c.site). absurd (omega (arith, x0, y0, less)))
    (λ (less : (a.site ≡ c.site) × (a.application < c.application)). absurd (omega (arith, x1, y1, less.1))) below

-- no address is below itself
never_itself : (a : SiteApplication) → IsLess a a → ⊥
never_itself a below =
    ⊎_elim (λ (site : a.site < a.site). absurd (omega (arith, site))) (λ (both : (a.site ≡ a.site) × (a.application < a.application)). absurd (omega (arith, both.1))) below

-- stations that rise are not one at two indices
pub one_station : (ss : List StationData) → are_rising None ss ≡ true → (i j : ℕ) → i < length ss → j < length ss
    → slice_index_or ss i nowhere ≡ slice_index_or ss j nowhere → i ≡ j
one_station ss rising i j under within same =
    let Below : StationData → StationData → Type 0 = λ s t. IsLess s.address t.address in
    let here = slice_index_or ss i nowhere in
    let there = slice_index_or ss j nowhere in
    elim (cases_order i j) [
      | inl equal ↦ equal
      | inr (inl below) ↦ absurd (never_itself there.address (subst (λ s. Below s there) same (rising_at None ss rising i j below within)))
      | inr (inr above) ↦ absurd (never_itself there.address (subst (λ s. Below there s) same (rising_at None ss rising j i above under)))
    ]

-- and a PDU comes from one of them
pub one_sender : (ss : List StationData) → are_rising None ss ≡ true → (p : Pdu) (i j : ℕ) → i < length ss → j < length ss
    → is_from (slice_index_or ss i nowhere).address p ≡ true → is_from (slice_index_or ss j nowhere).address p ≡ true → i ≡ j
one_sender ss rising p i j under within here there =
    let a = (slice_index_or ss i nowhere).address in
    let c = (slice_index_or ss j nowhere).address in
    elim (cases_order i j) [
      | inl equal ↦ equal
      | inr (inl below) ↦ absurd (no_two_origins a c p here there (rising_at None ss rising i j below within))
      | inr (inr above) ↦ absurd (no_two_origins c a p there here (rising_at None ss rising j i above under))
    ]

-- the stations of a setting rise
pub own_rising : (w : SettingData) → IsSetting w → are_rising None w.stations ≡ true
own_rising w setting =
    let some = and_parts (nat_le 1 (length w.stations)) (nat_le (length w.stations) MOST_STATIONS && are_rising None w.stations) setting.stations in
    (and_parts (nat_le (length w.stations) MOST_STATIONS) (are_rising None w.stations) some.1).1

-- a PDU comes from one station
pub one_origin : (w : SettingData) → IsSetting w → (p : Pdu) (i j : ℕ) → i < j → j < length w.stations → is_from (station_in w j).address p ≡ true
    → is_from (station_in w i).address p ≡ true → ⊥
one_origin w setting p i j below within here there =
    no_two_origins (station_in w i).address (station_in w j).address p there here (rising_at None w.stations (own_rising w setting) i j below within)
