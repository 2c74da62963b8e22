-- The requests that a station sends under one request identifier, and their index (profile).
use Rattle.std.specs.Prelude.{◌≡◌, ℕ, List, Bool, false, ◌&&◌, ◌==◌, Option, Some, None, is_some, option_map, option_and_then, slice_get, if◌then◌else◌}
use Rattle.std.specs.Option.{option_map_or}
use Rattle.indexmap.specs.IndexMap.{get}
use Rattle.siman_pdus.specs.declared.pdu.Pdu.{Pdu}
use Rattle.siman_pdus.specs.Role.{is_request_body, request_id_of}
use Rattle.exercise_model.specs.Entry.{Sent}
use Rattle.exercise_model.specs.Recording.{PlainRecording}
use Rattle.exercise_model.specs.History.{Event, Send, Get, Tell, event_of}
use Rattle.exercise_model.specs.Meaning.{meaning}
use Rattle.exercise_model.specs.Cause.{is_reused}
use Rattle.exercise_model.specs.Place.{first_below, log_before}
use Rattle.exercise_findings.specs.declared.requests.Identifier.{Identifier}
use Rattle.exercise_findings.specs.declared.requests.Requests.{Requests}
use Rattle.exercise_findings.specs.Hashed.{identifier_hash}
use Rattle.exercise_findings.specs.Kept.{AreKept}

-- two identifiers are equal
abbrev pub same_identifier : Identifier → Identifier → Bool
same_identifier k l = (k.station == l.station) && (k.request == l.request)

-- the identifier under which station s sends p, if it is a request
abbrev pub identifier_of : ℕ → Pdu → Option Identifier
identifier_of s p = if is_request_body p.body then option_map (λ id. record { station = s; request = id }) (request_id_of p.body) else None

-- p, if station s sends it as a request under this identifier
abbrev pub request_under : Identifier → ℕ → Pdu → Option Pdu
request_under k s p = if option_map_or (same_identifier k) (identifier_of s p) false then Some p else None

-- the request that an event sends under an identifier
abbrev pub request_by : PlainRecording → Identifier → Event → Option Pdu
request_by r k (Send s b) = option_and_then (request_under k s) (meaning r.setting.exercise b)
request_by r k (Get s b) = None
request_by r k (Tell s e y) = None

-- the request that entry i sends under an identifier
unfoldable pub request_at : PlainRecording → Identifier → ℕ → Option Pdu
request_at r k i = option_and_then (λ e. request_by r k (event_of e)) (slice_get r.entries i)

-- entry i sends a request under an identifier
abbrev pub asks_at : PlainRecording → Identifier → ℕ → Bool
asks_at r k i = is_some (request_at r k i)

-- the entry of the first request below n under an identifier
unfoldable pub first_request : PlainRecording → Identifier → ℕ → Option ℕ
first_request r k n = first_below (asks_at r k) n

-- below n the identifier is used for a request other than that of entry j
abbrev pub is_mixed : PlainRecording → Identifier → ℕ → ℕ → Bool
is_mixed r k n j = option_map_or (λ f. is_reused r.setting.exercise f (log_before r k.station n)) (request_at r k j) false

-- below n the identifier is used for a request other than its first one there
abbrev pub mixed_under : PlainRecording → Identifier → ℕ → Bool
mixed_under r k n = option_map_or (is_mixed r k n) (first_request r k n) false

-- THE TIE: the index holds the first request under each identifier, and the identifiers that are used for any other request
pub record AreRequests (r : PlainRecording) (n : ℕ) (requests : Requests) : Type 0 where
  pub firsts : AreKept (asks_at r) identifier_hash n requests.firsts
  pub mixed : (k : Identifier) → is_some (get same_identifier requests.mixed k) ≡ mixed_under r k n

-- Entry n is the Send of p by station s.
pub record IsSendOf (r : PlainRecording) (n s : ℕ) (p : Pdu) : Type 0 where
  pub bytes : List ℕ
  pub stamp : ℕ
  pub at : slice_get r.entries n ≡ Some (Sent s stamp bytes)
  pub means : meaning r.setting.exercise bytes ≡ Some p
