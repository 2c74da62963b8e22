-- The first entry under each key: of requests that a station received, and of Ables and Unables that it sent (profile).
use Rattle.std.specs.Prelude.{◌≡◌, ℕ, Bool, false, ◌&&◌, ◌==◌, Option, Some, None, option_map, option_and_then, slice_get, if◌then◌else◌}
use Rattle.std.specs.Option.{option_map_or}
use Rattle.dis_records.specs.declared.address.SiteApplication.{SiteApplication}
use Rattle.dis_records.specs.Entity.{is_addressed}
use Rattle.siman_pdus.specs.declared.pdu.Pdu.{Pdu}
use Rattle.siman_pdus.specs.Role.{is_request_body, request_id_of}
use Rattle.exercise_model.specs.declared.acknowledge.AcknowledgeKey.{AcknowledgeKey}
use Rattle.exercise_model.specs.Recording.{PlainRecording}
use Rattle.exercise_model.specs.History.{Event, Send, Get, Tell, event_of, station_at}
use Rattle.exercise_model.specs.Meaning.{meaning}
use Rattle.exercise_model.specs.Change.{able, unable, responds, key_of}
use Rattle.exercise_model.specs.Place.{first_below}
use Rattle.exercise_findings.specs.declared.key.Key.{Key}
use Rattle.exercise_findings.specs.declared.kept.Kept.{Kept}
use Rattle.exercise_findings.specs.Hashed.{key_base, key_hash}
use Rattle.exercise_findings.specs.Kept.{AreKept}

-- two keys are equal
abbrev pub same_key : Key → Key → Bool
same_key k l =
    (k.role == l.role) && ((k.response == l.response) && ((k.station == l.station) && ((k.flag == l.flag)
    && ((k.request == l.request) && ((k.site == l.site) && ((k.application == l.application) && (k.entity == l.entity)))))))

-- the key of an Acknowledge that station s sends with this response flag under k
abbrev pub acknowledged_key : ℕ → ℕ → AcknowledgeKey → Key
acknowledged_key s response k = record {
  role = 1;
  response = response;
  station = s;
  flag = k.flag;
  request = k.request;
  site = k.site;
  application = k.application;
  entity = k.entity;
}

-- the key, at station s, of a request under an identifier from a site and application
abbrev pub request_key : ℕ → ℕ → ℕ → ℕ → Key
request_key s site application id = record {
  role = 0;
  response = 0;
  station = s;
  flag = 0;
  request = id;
  site = site;
  application = application;
  entity = 0;
}

-- the key of p, sent by station s, if it is an Able or an Unable
abbrev pub sent_key : ℕ → Pdu → Option Key
sent_key s p = option_and_then (λ k.
    if responds able p then Some (acknowledged_key s able k)
    else (if responds unable p then Some (acknowledged_key s unable k) else None)) (key_of p)

-- the hash base of the keys of an answer of station s; 0 without a key
abbrev pub answer_base : ℕ → Pdu → ℕ
answer_base s p = option_map_or (λ k. key_base (acknowledged_key s able k)) (key_of p) 0

-- the key of q, received by station s at address a, if it is a request to it
abbrev pub received_key : ℕ → SiteApplication → Pdu → Option Key
received_key s a q =
    if is_request_body q.body && is_addressed q.target a
    then option_map (request_key s q.origin.site q.origin.application) (request_id_of q.body)
    else None

-- the key of the requests that p, an answer of station s, could take up
abbrev pub answered_key : ℕ → Pdu → Option Key
answered_key s p = option_map (request_key s p.target.site p.target.application) (request_id_of p.body)

-- the key of an event
abbrev pub event_key : PlainRecording → Event → Option Key
event_key r (Send s b) = option_and_then (sent_key s) (meaning r.setting.exercise b)
event_key r (Get s b) = option_and_then (received_key s (station_at r s).address) (meaning r.setting.exercise b)
event_key r (Tell s e y) = None

-- the key of entry i
unfoldable pub key_at : PlainRecording → ℕ → Option Key
key_at r i = option_and_then (λ e. event_key r (event_of e)) (slice_get r.entries i)

-- entry i has this key
abbrev pub has_key : PlainRecording → Key → ℕ → Bool
has_key r k i = option_map_or (same_key k) (key_at r i) false

-- the first entry below n under a key
unfoldable pub first_under : PlainRecording → Key → ℕ → Option ℕ
first_under r k n = first_below (has_key r k) n

-- THE TIE: the table holds, under each key, the first entry below n with that key
abbrev pub AreFirsts : PlainRecording → ℕ → Kept → Type 0
AreFirsts r n firsts = AreKept (has_key r) key_hash n firsts

-- base is the hash base of the key of entry n, if it has one
abbrev pub IsBased : PlainRecording → ℕ → ℕ → Type 0
IsBased r n base = (k : Key) → Some k ≡ key_at r n → base ≡ key_base k
