-- The distinct requests among the PDUs that a station received (profile). Each list has THE LAST ONE FIRST.
use Rattle.std.specs.Prelude.{List, [], ◌∷◌, Bool, ◌&&◌, ◌==◌, Option, Some, None, is_none, if◌then◌else◌}
use Rattle.std.specs.Option.{option_or}
use Rattle.dis_records.specs.Entity.{is_addressed}
use Rattle.siman_pdus.specs.declared.pdu.Pdu.{Pdu}
use Rattle.siman_pdus.specs.Answers.{same_id, same_pair}
use Rattle.siman_pdus.specs.Role.{is_request_body, request_id_of}
use Rattle.siman_application.specs.AppProfile.{AppProfile}

-- the PDU is of the exercise, is a request, and addresses the station
abbrev pub is_for : AppProfile → Pdu → Bool
is_for a q = (q.exercise == a.exercise) && (is_request_body q.body && is_addressed q.target a.station.address)

-- the two requests have one KEY: originating site and application, and request identifier
abbrev pub is_under_key : Pdu → Pdu → Bool
is_under_key q d = same_pair q.origin d.origin && same_id (request_id_of q.body) (request_id_of d.body)

-- a request, and those before it
pub record Placed : Type 0 where
  pub request : Pdu
  pub before : List Pdu

-- the FIRST of some requests that has the key of q, with those before it
unfoldable pub first_under : Pdu → List Pdu → Option Placed
first_under q [] = None
first_under q (d ∷ ds) = option_or (first_under q ds) (if is_under_key q d then Some (record { request = d; before = ds }) else None)

-- the distinct requests after one more PDU: it joins them if it is for the station and the first under its key
abbrev pub with_request : AppProfile → List Pdu → Pdu → List Pdu
with_request a ds q = if is_for a q && is_none (first_under q ds) then q ∷ ds else ds

-- THE DISTINCT REQUESTS among the received PDUs
abbrev pub distinct : AppProfile → List Pdu → List Pdu
distinct a [] = []
distinct a (q ∷ qs) = with_request a (distinct a qs) q
