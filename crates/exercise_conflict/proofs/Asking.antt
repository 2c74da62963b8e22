-- What an entry brings a station for an answer is what it receives there.
use Rattle.std.proofs.Common.{◌≡◌, ◌<◌, ℕ, length, cond, true, false, Option, Some, None, refl}
use Rattle.std.specs.Prelude.{is_some, option_and_then, if◌then◌else◌}
use Rattle.std.specs.Option.{option_map_or}
use Rattle.siman_pdus.specs.declared.pdu.Pdu.{Pdu}
use Rattle.exercise_model.specs.Recording.{PlainRecording}
use Rattle.exercise_model.specs.History.{Event, Send, Get, Tell, station_at}
use Rattle.exercise_model.specs.Meaning.{meaning}
use Rattle.exercise_model.specs.Exchange.{is_asked, request_brought}
use Rattle.exercise_model.specs.Setting.{is_from}
use Rattle.exercise_model.specs.Account.{sender_of}
use Rattle.exercise_model.specs.Place.{own_event, first_below, brings_request}
use Rattle.exercise_conflict.specs.Clash.{meant_by_get, got_pdu}
use Rattle.exercise_conflict.proofs.Steps.{first_here}

pub brings_is : (r : PlainRecording) (s : ℕ) (p : Pdu) (j : ℕ)
    → brings_request r s p j ≡ option_map_or (is_asked (station_at r s).address p) (got_pdu r s j) false
unfolding got_pdu
brings_is r s p j =
    elim (own_event r s j) as (λ o. is_some (option_and_then (request_brought r.setting.exercise (station_at r s).address p) o)
    ≡ option_map_or (is_asked (station_at r s).address p) (option_and_then (meant_by_get r.setting.exercise) o) false) [
      | None ↦ refl
      | Some v ↦ of_event v
    ]
  where
    asked : (o : Option Pdu) → is_some (option_and_then (λ m. if is_asked (station_at r s).address p m then Some m else None) o)
        ≡ option_map_or (is_asked (station_at r s).address p) o false
    asked None = refl
    asked (Some m) = elim (is_asked (station_at r s).address p m) as (λ b. is_some (cond b (Some m) None) ≡ b) [ true ↦ refl | false ↦ refl ]

    of_event : (v : Event) → is_some (request_brought r.setting.exercise (station_at r s).address p v)
        ≡ option_map_or (is_asked (station_at r s).address p) (meant_by_get r.setting.exercise v) false
    of_event (Send t b) = refl
    of_event (Get t b) = asked (meaning r.setting.exercise b)
    of_event (Tell t n y) = refl

-- the station that a PDU comes from is the first whose address it has
pub sender_here : (r : PlainRecording) (p : Pdu) (s : ℕ) → first_below (λ t. is_from (station_at r t).address p) s ≡ None
    → is_from (station_at r s).address p ≡ true → s < length r.setting.stations → sender_of r p ≡ Some s
unfolding sender_of
sender_here r p s none here l = first_here (λ t. is_from (station_at r t).address p) s (length r.setting.stations) none here l
