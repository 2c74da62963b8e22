-- Index of the first send of each kind of PDU, by station, receiver and request identifier (profile).
use Rattle.std.specs.Prelude.{◌≡◌, ℕ, Bool, false, ◌&&◌, ◌==◌, Option, None, option_map, option_and_then, slice_get}
use Rattle.std.specs.Option.{option_map_or}
use Rattle.std.specs.declared.hash.BuildHasherDefault.{BuildHasherDefault}
use Rattle.std.specs.declared.hash.DefaultHasher.{DefaultHasher}
use Rattle.indexmap.specs.IndexMap.{IndexMap, get}
use Rattle.dis_records.specs.Kind.{kind_code}
use Rattle.siman_pdus.specs.declared.pdu.Pdu.{Pdu}
use Rattle.siman_pdus.specs.Role.{request_id_of}
use Rattle.siman_pdus.specs.Spelling.{body_kind}
use Rattle.exercise_model.specs.Entry.{Entry, Sent, Received, Told}
use Rattle.exercise_model.specs.Recording.{PlainRecording}
use Rattle.exercise_model.specs.Meaning.{meaning}
use Rattle.exercise_model.specs.Place.{first_below}
use Rattle.exercise_conflict.specs.declared.nears.Near.{Near}

-- two look-up keys are equal: station, kind, receiver and identifier
abbrev pub same_near : Near → Near → Bool
same_near k l =
    (k.station == l.station) && ((k.kind == l.kind) && ((k.site == l.site) && ((k.application == l.application) && ((k.entity == l.entity) && (k.request == l.request)))))

-- look-up key of q, sent by station t under an identifier
abbrev pub near_under : ℕ → Pdu → ℕ → Near
near_under t q id = record { station = t; kind = kind_code (body_kind q.body); site = q.target.site; application = q.target.application; entity = q.target.entity; request = id }

abbrev pub near_key : ℕ → Pdu → Option Near
near_key t q = option_map (near_under t q) (request_id_of q.body)

abbrev pub near_by : PlainRecording → Entry → Option Near
near_by r (Sent s stamp b) = option_and_then (near_key s) (meaning r.setting.exercise b)
near_by r (Received s stamp b) = None
near_by r (Told s e y) = None

-- look-up key of entry i
unfoldable pub near_at : PlainRecording → ℕ → Option Near
near_at r i = option_and_then (near_by r) (slice_get r.entries i)

-- entry i has look-up key k
abbrev pub has_near : PlainRecording → Near → ℕ → Bool
has_near r k i = option_map_or (same_near k) (near_at r i) false

-- the index of first sends
abbrev pub Nears : Type 0
Nears = IndexMap Near ℕ (BuildHasherDefault DefaultHasher)

-- THE TIE: the index holds, under each key, the first entry below n with that key
abbrev pub AreNears : PlainRecording → ℕ → Nears → Type 0
AreNears r n nears = (k : Near) → get same_near nears k ≡ first_below (has_near r k) n
