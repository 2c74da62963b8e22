-- What an entry brings a station for an answer is what it receives there.
use Rattle.std.proofs.Common.{◌≡◌, ℕ, cond, true, false, Option, Some, None, refl}
use Rattle.std.specs.Prelude.{nat_eq, slice_get, is_some, option_and_then, if◌then◌else◌}
use Rattle.std.specs.Option.{option_map_or}
use Rattle.siman_pdus.specs.declared.pdu.Pdu.{Pdu}
use Rattle.exercise_model.specs.Entry.{Entry, Sent, Received, Told}
use Rattle.exercise_model.specs.Recording.{PlainRecording}
use Rattle.exercise_model.specs.History.{Send, Get, Tell, event_of, station_at}
use Rattle.exercise_model.specs.Meaning.{meaning}
use Rattle.exercise_model.specs.Exchange.{is_asked, request_brought}
use Rattle.exercise_model.specs.Place.{event_at, own_event, brings_request}
use Rattle.exercise_review.specs.Entries.{bytes_received_by, bytes_received, pdu_received}

pub brings_is : (r : PlainRecording) (s : ℕ) (p : Pdu) (j : ℕ)
    → brings_request r s p j ≡ option_map_or (is_asked (station_at r s).address p) (pdu_received r s j) false
unfolding pdu_received own_event bytes_received
brings_is r s p j =
    elim (slice_get r.entries j) as (λ o. is_some (option_and_then (request_brought r.setting.exercise (station_at r s).address p) (option_and_then (λ e. event_at s (event_of e)) o))
    ≡ option_map_or (is_asked (station_at r s).address p) (option_and_then (meaning r.setting.exercise) (option_and_then (bytes_received_by s) o)) false) [
      | None ↦ refl
      | Some e ↦ of_entry e
    ]
  where
    asked : (o : Option Pdu) → is_some (option_and_then (λ m. if is_asked (station_at r s).address p m then Some m else None) o)
        ≡ option_map_or (is_asked (station_at r s).address p) o false
    asked None = refl
    asked (Some m) = elim (is_asked (station_at r s).address p m) as (λ b. is_some (cond b (Some m) None) ≡ b) [ true ↦ refl | false ↦ refl ]

    of_entry : (e : Entry) → is_some (option_and_then (request_brought r.setting.exercise (station_at r s).address p) (event_at s (event_of e)))
        ≡ option_map_or (is_asked (station_at r s).address p) (option_and_then (meaning r.setting.exercise) (bytes_received_by s e)) false
    of_entry (Sent t stamp b) = elim (nat_eq t s) as (λ k. is_some (option_and_then (request_brought r.setting.exercise (station_at r s).address p) (cond k (Some (Send t b)) None)) ≡ false) [ true ↦ refl | false ↦ refl ]
    of_entry (Received t stamp b) = elim (nat_eq t s) as (λ k. is_some (option_and_then (request_brought r.setting.exercise (station_at r s).address p) (cond k (Some (Get t b)) None))
        ≡ option_map_or (is_asked (station_at r s).address p) (option_and_then (meaning r.setting.exercise) (cond k (Some b) None)) false) [ true ↦ asked (meaning r.setting.exercise b) | false ↦ refl ]
    of_entry (Told t n y) = elim (nat_eq t s) as (λ k. is_some (option_and_then (request_brought r.setting.exercise (station_at r s).address p) (cond k (Some (Tell t n y)) None)) ≡ false) [ true ↦ refl | false ↦ refl ]
