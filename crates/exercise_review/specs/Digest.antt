-- Digests of requests: at one station, repeats of one order have one digest (profile).
use Rattle.std.specs.Prelude.{ℕ, ◌+◌, ◌*◌, ◌%◌, ◌^◌, length, fold, unwrap_or}
use Rattle.std.specs.Hash.{u64}
use Rattle.std.specs.Hash.DefaultHasher.{initial, write, finish}
use Rattle.std.specs.declared.hash.DefaultHasher.{DefaultHasher}
use Rattle.dis_records.specs.declared.datum.FixedDatum.{FixedDatum}
use Rattle.dis_records.specs.declared.clock_time.ClockTime.{ClockTime}
use Rattle.dis_records.specs.declared.entity.EntityId.{EntityId}
use Rattle.dis_records.specs.Datum.{Datum}
use Rattle.siman_pdus.specs.declared.pdu.Body.{Body}
use Rattle.siman_pdus.specs.declared.pdu.Body.TheVariants as bodies
use Rattle.siman_pdus.specs.declared.pdu.Pdu.{Pdu}
use Rattle.siman_pdus.specs.DatumLists.{DatumLists, IdLists}
use Rattle.siman_pdus.specs.Role.{request_id_of}

-- ---- what a hasher is fed: words of 64 bits, each of two numbers of 32

unfoldable pub fed : DefaultHasher → (high low : ℕ) → DefaultHasher
fed h high low = fold write h (u64 (high * 0x100000000 + low))

-- two numbers of 16 bits as one of 32
abbrev pub both : (high low : ℕ) → ℕ
both high low = high * 0x10000 + low

abbrev pub time_fed : DefaultHasher → ClockTime → DefaultHasher
time_fed h t = fed h t.hour t.past

abbrev pub fixed_fed : DefaultHasher → FixedDatum → DefaultHasher
fixed_fed h d = fed h d.id d.value

abbrev pub variable_fed : DefaultHasher → Datum → DefaultHasher
variable_fed h d = write (fed h d.id d.bits) d.bytes

abbrev pub datums_fed : DefaultHasher → DatumLists → DefaultHasher
datums_fed h d = fold variable_fed (fold fixed_fed (fed h (length d.fixed) (length d.variable)) d.fixed) d.variable

abbrev pub id_fed : DefaultHasher → ℕ → DefaultHasher
id_fed h id = fed h 0 id

abbrev pub ids_fed : DefaultHasher → IdLists → DefaultHasher
ids_fed h d = fold id_fed (fold id_fed (fed h (length d.fixed) (length d.variable)) d.fixed) d.variable

-- the contents of a request, without its identifier
abbrev pub body_fed : DefaultHasher → Body → DefaultHasher
body_fed h (bodies.StartResume real sim request) = time_fed (time_fed h real) sim
body_fed h (bodies.StopFreeze real reason behaviour request) = fed (time_fed h real) reason behaviour
body_fed h (bodies.ActionRequest request action datums) = datums_fed (fed h 0 action) datums
body_fed h (bodies.DataQuery request interval ids) = ids_fed (fed h 0 interval) ids
body_fed h (bodies.SetData request datums) = datums_fed h datums
body_fed h body = h

-- the origin, the target and the request identifier
abbrev pub head_fed : (origin target : EntityId) → (request : ℕ) → DefaultHasher
head_fed origin target request =
    fed (fed initial request (both origin.entity target.entity)) (both origin.site origin.application) (both target.site target.application)

-- THE DIGEST OF p, a number of 64 bits: of all fields by which orders are compared, except the version and the exercise
unfoldable pub digest : Pdu → ℕ
digest p = finish (body_fed (head_fed p.origin p.target (unwrap_or (request_id_of p.body) 0)) p.body) % 2 ^ 64

-- a digest at station s: an odd step for each station
abbrev pub at_station : (s d : ℕ) → ℕ
at_station s d = (d + (s * 0x9E3779B97F4A7C15) % 2 ^ 64) % 2 ^ 64

-- THE DIGEST OF p AT STATION s
unfoldable pub digest_of : (s : ℕ) → Pdu → ℕ
digest_of s p = at_station s (digest p)

-- the digest of a request identifier at station s
unfoldable pub identifier_at : (s id : ℕ) → ℕ
identifier_at s id = finish (fed initial s id) % 2 ^ 64
