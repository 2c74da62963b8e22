-- All sends that the logs lack, and the indexes for their look-up (profile).
use Rattle.std.specs.Prelude.{◌≡◌, ℕ, zero, suc, List, [], ◌++◌, length, Bool, false, ◌&&◌, ◌==◌, bytes_eq, Option, None, option_map, option_and_then, slice_get, if◌then◌else◌}
use Rattle.std.specs.Option.{option_map_or, option_to_list}
use Rattle.std.specs.declared.hash.BuildHasherDefault.{BuildHasherDefault}
use Rattle.std.specs.declared.hash.DefaultHasher.{DefaultHasher}
use Rattle.indexmap.specs.IndexMap.{IndexMap, get}
use Rattle.dis_records.specs.declared.address.SiteApplication.{SiteApplication}
use Rattle.dis_records.specs.Entity.{is_addressed}
use Rattle.siman_pdus.specs.declared.pdu.Pdu.{Pdu}
use Rattle.siman_pdus.specs.Role.{is_request_body, request_id_of}
use Rattle.exercise_model.specs.Entry.{Entry, Sent, Received, Told}
use Rattle.exercise_model.specs.Recording.{PlainRecording}
use Rattle.exercise_model.specs.History.{station_at}
use Rattle.exercise_model.specs.Meaning.{meaning}
use Rattle.exercise_model.specs.Place.{first_below}
use Rattle.exercise_findings.specs.Source.{source_of_bytes}
use Rattle.exercise_findings.specs.Missing.{gets_bytes, missing_at}
use Rattle.exercise_findings.specs.declared.missing.Missing.{Missing}
use Rattle.exercise_conflict.specs.declared.asks.ReceivedKey.{ReceivedKey}
use Rattle.exercise_conflict.specs.declared.lacks.MissingSend.{MissingSend}
use Rattle.exercise_conflict.specs.declared.receipts.Datagram.{Datagram}

-- the missing send that entry i reveals
abbrev pub missing_send_by : ℕ → Missing → MissingSend
missing_send_by i m = record { entry = i; missing = m }

abbrev pub missing_send_at : PlainRecording → ℕ → Option MissingSend
missing_send_at r i = option_map (missing_send_by i) (missing_at r i)

-- the missing sends that the entries below n reveal
unfoldable pub missing_sends_below : PlainRecording → ℕ → List MissingSend
missing_sends_below r zero = []
missing_sends_below r (suc n) = missing_sends_below r n ++ option_to_list (missing_send_at r n)

-- ALL SENDS THAT THE LOGS LACK, each revealed by its first receipt, by rising entries
abbrev pub missing_sends : PlainRecording → List MissingSend
missing_sends r = missing_sends_below r (length r.entries)

-- ---- index of the first receipt of each datagram

-- two datagrams have equal bytes
abbrev pub same_datagram : Datagram → Datagram → Bool
same_datagram d e = bytes_eq d.bytes.now e.bytes.now

-- the index of receipts
abbrev pub Receipts : Type 0
Receipts = IndexMap Datagram ℕ (BuildHasherDefault DefaultHasher)

-- no log has a source of a datagram
abbrev pub IsUnsent : PlainRecording → Datagram → Type 0
IsUnsent r d = source_of_bytes r d.bytes.now ≡ None

-- THE TIE: for the bytes of each datagram without a source, the index holds the first entry below n that receives it
abbrev pub AreReceipts : PlainRecording → ℕ → Receipts → Type 0
AreReceipts r n receipts = (d : Datagram) → IsUnsent r d → get same_datagram receipts d ≡ first_below (gets_bytes r d.bytes.now) n

-- ---- index of the first receipt of each request

-- two look-up keys are equal: station, identifier, and the sender's site and application
abbrev pub same_request_key : ReceivedKey → ReceivedKey → Bool
same_request_key k l = (k.station == l.station) && ((k.request == l.request) && ((k.site == l.site) && (k.application == l.application)))

-- look-up key of q, received by station s at a, if it is a request to the station
abbrev pub request_key_under : ℕ → Pdu → ℕ → ReceivedKey
request_key_under s q id = record { station = s; request = id; site = q.origin.site; application = q.origin.application }

abbrev pub request_key_of : ℕ → SiteApplication → Pdu → Option ReceivedKey
request_key_of s a q = if is_request_body q.body && is_addressed q.target a then option_map (request_key_under s q) (request_id_of q.body) else None

abbrev pub request_key_by : PlainRecording → Entry → Option ReceivedKey
request_key_by r (Sent s stamp b) = None
request_key_by r (Received s stamp b) = option_and_then (request_key_of s (station_at r s).address) (meaning r.setting.exercise b)
request_key_by r (Told s e y) = None

-- look-up key of entry i
unfoldable pub request_key_at : PlainRecording → ℕ → Option ReceivedKey
request_key_at r i = option_and_then (request_key_by r) (slice_get r.entries i)

-- entry i has look-up key k
abbrev pub has_request_key : PlainRecording → ReceivedKey → ℕ → Bool
has_request_key r k i = option_map_or (same_request_key k) (request_key_at r i) false

-- the index of received requests
abbrev pub Asks : Type 0
Asks = IndexMap ReceivedKey ℕ (BuildHasherDefault DefaultHasher)

-- THE TIE: the index holds, under each key, the first entry below n with that key
abbrev pub AreRequestKeys : PlainRecording → ℕ → Asks → Type 0
AreRequestKeys r n asks = (k : ReceivedKey) → get same_request_key asks k ≡ first_below (has_request_key r k) n

-- look-up key of the requests that the answer p of station s could take up
abbrev pub asked_under : ℕ → Pdu → ℕ → ReceivedKey
asked_under s p id = record { station = s; request = id; site = p.target.site; application = p.target.application }
