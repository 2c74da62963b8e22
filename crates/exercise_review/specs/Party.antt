-- The parties of an order: the stations that it is for, and the unrecorded ones that answered it (profile, over IEEE
-- 1278.1-2012, 5.6 and 6.2.79).
use Rattle.std.specs.Prelude.{ℕ, length, Bool, false, ◌&&◌, ◌||◌, ◌==◌, not, nat_lt, Option, Some, is_some, option_and_then}
use Rattle.std.specs.Option.{option_map_or}
use Rattle.dis_records.specs.declared.entity.EntityId.{EntityId}
use Rattle.dis_records.specs.Address.{is_address}
use Rattle.siman_pdus.specs.declared.pdu.Pdu.{Pdu}
use Rattle.siman_pdus.specs.Answers.{same_id, is_answer_to}
use Rattle.exercise_model.specs.Recording.{PlainRecording}
use Rattle.exercise_model.specs.History.{station_at}
use Rattle.exercise_model.specs.Setting.{is_from, is_open}
use Rattle.exercise_model.specs.Place.{first_below}
use Rattle.dis_records.specs.declared.address.SiteApplication.{SiteApplication}
use Rattle.exercise_review.specs.Entries.{pdu_received}
use Rattle.exercise_review.specs.Order.{OrderData, gets_order, is_outside, is_meant, is_first_under_id}

-- ---- copies

-- A COPY OF AN ORDER AT STATION t: entry i receives it there
abbrev pub is_copy : PlainRecording → OrderData → ℕ → ℕ → Bool
is_copy r o t i = gets_order r t o.request i

-- the first copy at station t
unfoldable pub first_copy : PlainRecording → OrderData → ℕ → Option ℕ
first_copy r o t = first_below (is_copy r o t) (length r.entries)

-- ---- recorded parties

-- STATION t IS A PARTY: the order addresses it; its own maker is one only if it received the order
unfoldable pub is_party : PlainRecording → OrderData → ℕ → Bool
is_party r o t = is_meant r o.request t && (not (same_id o.maker (Some t)) || is_some (first_copy r o t))

-- ---- parties outside

-- p answers the order o, and its origin is the address a outside
abbrev pub is_answer_from : PlainRecording → OrderData → SiteApplication → Pdu → Bool
is_answer_from r o a p = is_answer_to p o.request && (is_outside r p && is_from a p)

-- AN ANSWER FROM OUTSIDE: the order is its maker's first one under the identifier, and at entry i, after the head, the
-- maker receives an answer to it from the address a outside
unfoldable pub is_heard_from : PlainRecording → OrderData → SiteApplication → ℕ → Bool
is_heard_from r o a i =
    is_first_under_id r o && (nat_lt o.head i && option_map_or (is_answer_from r o a) (option_and_then (λ s. pdu_received r s i) o.maker) false)

-- the identifier names exactly this site and this application
abbrev pub names : EntityId → SiteApplication → Bool
names id a = is_address a && ((id.site == a.site) && (id.application == a.application))

-- the recorded station s has this address
unfoldable pub is_at : PlainRecording → SiteApplication → ℕ → Bool
is_at r a s = nat_lt s (length r.setting.stations) && (((station_at r s).address.site == a.site) && ((station_at r s).address.application == a.application))

-- a recorded station has this address
unfoldable pub is_recorded_at : PlainRecording → SiteApplication → Bool
is_recorded_at r a = is_some (first_below (is_at r a) (length r.setting.stations))

-- AN ADDRESS a OUTSIDE IS A PARTY: a recorded station made the order, no recorded station has the address a, and the
-- order names it or the maker received an answer from it
unfoldable pub is_party_outside : PlainRecording → OrderData → SiteApplication → Bool
is_party_outside r o a =
    is_open r.setting.form && (is_some o.maker && (not (is_recorded_at r a)
    && (names o.request.target a || is_some (first_below (is_heard_from r o a) (length r.entries)))))
