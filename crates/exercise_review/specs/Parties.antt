-- The parties of an order, by rising address (profile).
use Rattle.std.specs.Prelude.{◌≡◌, ℕ, zero, suc, ◌+◌, ◌-◌, ◌*◌, ◌/◌, ◌%◌, ◌<◌, ◌≤◌, List, [], ◌++◌, length, Bool, false, ◌&&◌, ◌||◌, ◌==◌, is_some, nat_lt, nat_le, Option, Some, None, option_map, option_and_then, if◌then◌else◌}
use Rattle.std.specs.Option.{option_map_or, option_to_list}
use Rattle.dis_records.specs.Entity.{site_application_of}
use Rattle.exercise_model.specs.Recording.{PlainRecording}
use Rattle.exercise_model.specs.History.{station_at}
use Rattle.exercise_model.specs.Setting.{is_open}
use Rattle.exercise_model.specs.Place.{first_below}
use Rattle.exercise_review.specs.declared.party.Party.{Party}
use Rattle.exercise_review.specs.declared.party.Party.TheVariants as parties
use Rattle.dis_records.specs.declared.address.SiteApplication.{SiteApplication}
use Rattle.exercise_review.specs.Entries.{pdu_received}
use Rattle.exercise_review.specs.Order.{OrderData}
use Rattle.exercise_review.specs.Party.{is_at, is_party, is_party_outside}

-- ---- ranks: addresses as numbers, in the order of the addresses

abbrev pub number_of : SiteApplication → ℕ
number_of a = a.site * 65536 + a.application

abbrev pub address_numbered : ℕ → SiteApplication
address_numbered n = record { site = n / 65536; application = n % 65536 }

-- the number of ranks, for a site and an application of 16 bits each
abbrev pub addresses : ℕ
addresses = 4294967296

-- ---- addresses and parties

-- the address of the maker of an order: that of the recorded station, or of the origin of the request
abbrev pub maker_address : PlainRecording → OrderData → SiteApplication
maker_address r o = option_map_or (λ s. (station_at r s).address) o.maker (site_application_of o.request.origin)

-- the address of a party
abbrev pub party_address : PlainRecording → Party → SiteApplication
party_address r (parties.Station s) = (station_at r s).address
party_address r (parties.Outside a) = a

-- the party at an address, given the recorded station there, if any: that station, or else an unrecorded party
abbrev pub party_by : PlainRecording → OrderData → SiteApplication → Option ℕ → Option Party
party_by r o a (Some s) = if is_party r o s then Some (parties.Station s) else None
party_by r o a None = if is_party_outside r o a then Some (parties.Outside a) else None

-- THE PARTY AT AN ADDRESS, if any
unfoldable pub party_at : PlainRecording → OrderData → SiteApplication → Option Party
party_at r o a = party_by r o a (first_below (is_at r a) (length r.setting.stations))

-- the parties at the addresses whose ranks are below n
unfoldable pub parties_below : PlainRecording → OrderData → ℕ → List Party
parties_below r o zero = []
parties_below r o (suc n) = parties_below r o n ++ option_to_list (party_at r o (address_numbered n))

-- THE PARTIES OF AN ORDER, by rising address
unfoldable pub parties_of : PlainRecording → OrderData → List Party
parties_of r o = parties_below r o addresses

-- an unrecorded station may be a party: the recording is open, and a recorded station made the order
abbrev pub has_outsiders : PlainRecording → OrderData → Bool
has_outsiders r o = is_open r.setting.form && is_some o.maker

-- ---- how they are found

-- rank of the origin of the PDU that the maker received at entry i
abbrev pub number_heard : PlainRecording → OrderData → ℕ → Option ℕ
number_heard r o i = option_map (λ p. number_of (site_application_of p.origin)) (option_and_then (λ s. pdu_received r s i) o.maker)

-- rank of the candidate at place i: first the recorded stations, then the target, then the origins of the PDUs that the
-- maker received
unfoldable pub candidate_at : PlainRecording → OrderData → ℕ → Option ℕ
candidate_at r o i =
    if nat_lt i (length r.setting.stations) then Some (number_of (station_at r i).address)
    else (if i == length r.setting.stations then Some (number_of (site_application_of o.request.target)) else number_heard r o (i - length r.setting.stations - 1))

-- the party found so far has rank n or lower
abbrev pub is_up_to : ℕ → Option (ℕ × Party) → Bool
is_up_to n None = false
is_up_to n (Some found) = nat_le found.0 n

-- the party at rank n, if any, else the one found so far
abbrev pub with_party : ℕ → Option (ℕ × Party) → Option Party → Option (ℕ × Party)
with_party n next None = next
with_party n next (Some party) = Some (n, party)

-- the lower of the party found so far and the party at rank n, if that is not below `from`
abbrev pub lower_party : PlainRecording → OrderData → (from : ℕ) → Option (ℕ × Party) → (n : ℕ) → Option (ℕ × Party)
lower_party r o from next n = if nat_lt n from || is_up_to n next then next else with_party n next (party_at r o (address_numbered n))

-- no party has a rank from `from` on below n
pub record AreNoParties (r : PlainRecording) (o : OrderData) (from n : ℕ) : Type 0 where
  pub none : (m : ℕ) → from ≤ m → m < n → party_at r o (address_numbered m) ≡ None

-- this party has this rank, which is at least `from`
pub record IsPartyAt (r : PlainRecording) (o : OrderData) (from : ℕ) (found : ℕ × Party) : Type 0 where
  pub above : from ≤ found.0
  pub below : found.0 < addresses
  pub party : party_at r o (address_numbered found.0) ≡ Some found.1

-- THE NEXT PARTY from a rank on: the first one, or none at all
abbrev pub IsNextParty : PlainRecording → OrderData → ℕ → Option (ℕ × Party) → Type 0
IsNextParty r o from None = AreNoParties r o from addresses
IsNextParty r o from (Some found) = IsPartyAt r o from found × AreNoParties r o from found.0
