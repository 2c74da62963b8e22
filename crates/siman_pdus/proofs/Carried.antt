-- A PDU in its ranges is carried by the fields of its layout: they fit, and their text is bytes.
use Rattle.std.proofs.Common.{◌≡◌, ℕ, zero, suc, ◌+◌, ◌^◌, ◌<◌, ◌≤◌, List, [], ◌∷◌, ◌++◌, length, get_or, refl, ap, sym, ◌∙◌, arith, inl, inr}
use Rattle.std.specs.Prelude.{Bool, true, false, ◌↔◌, if◌then◌else◌, All, Some}
use Rattle.std.specs.Int.{w16, w32, byte_at, bytes_high_first}
use Rattle.std.proofs.Math.Nat.{mod-lt}
use Rattle.std.proofs.lemmas.Bool.{cases_lt}
use Rattle.std.proofs.lemmas.List.{get_or_past}
use Rattle.std.proofs.lemmas.List.Elements.{All-nil, All-cons, All-head, All-tail, All-append, All-replicate}
use Rattle.dis_records.specs.declared.header.TheConstants.{LARGEST_DATAGRAM}
use Rattle.dis_records.specs.declared.clock_time.ClockTime.{ClockTime}
use Rattle.dis_records.specs.declared.datum.FixedDatum.{FixedDatum}
use Rattle.dis_records.specs.declared.entity.EntityId.{EntityId}
use Rattle.dis_records.specs.declared.header.Version.{Version}
use Rattle.dis_records.specs.declared.header.Version.TheVariants as versions
use Rattle.dis_records.specs.declared.kind.Kind.{Kind}
use Rattle.dis_records.specs.declared.kind.Kind.TheVariants as kinds
use Rattle.dis_records.specs.ClockTime.{clock_time_layout}
use Rattle.dis_records.specs.Datum.{Datum, fixed_layouts, variable_layout, variable_layouts, id_layouts}
use Rattle.dis_records.specs.Entity.{entity_layout}
use Rattle.dis_records.specs.Header.{header_layout, version_code, has_status, carried_status}
use Rattle.dis_records.specs.Kind.{kind_code}
use Rattle.dis_records.specs.Layout.{Field, Byte, ByteIf, Number, Padding, FieldFits, Fit, field_text, size, text}
use Rattle.siman_pdus.specs.DatumLists.{DatumLists, IdLists}
use Rattle.siman_pdus.specs.declared.pdu.Body.{Body}
use Rattle.siman_pdus.specs.declared.pdu.Body.TheVariants.{CreateEntity, RemoveEntity, StartResume, StopFreeze, Acknowledge, ActionRequest, ActionResponse, DataQuery, SetData, DataPdu, EventReport, Comment}
use Rattle.siman_pdus.specs.declared.pdu.Pdu.{Pdu}
use Rattle.siman_pdus.specs.Ranges.{IsEntityIdInRange, IsTimeInRange, IsFixedInRange, IsVariableInRange, AreDatumsInRange, AreIdsInRange, IsBodyInRange, IsInRange}
use Rattle.siman_pdus.specs.Reading.{reading}
use Rattle.siman_pdus.specs.Spelling.{body_kind, body_layout, datums_layout, ids_layout, header_of, pdu_layout, pdu_size, pdu_text, HasCarriedStatus, Spells, carried}
use Rattle.siman_pdus.proofs.Spellings.{reading_is, text_spelled_exactly, carried_spelled}
use Rattle.siman_pdus.proofs.Texts.{fits16, fits32, size_fixed, size_ids, size_join, variable_least}
use Rattle.dis_records.proofs.Offered.{length-text}

abbrev pub IsByte : ℕ → Type 0
IsByte n = n < 2 ^ 8

-- The field fits, and its text is bytes.
pub record Carries (f : Field) : Type 0 where
  pub fits : FieldFits f
  pub bytes : All IsByte (field_text f)

-- Each of the fields does.
abbrev pub Carry : List Field → Type 0
Carry [] = Unit {0}
Carry (f ∷ fs) = Carries f × Carry fs

pub Carry-append : (fs gs : List Field) → Carry fs → Carry gs → Carry (fs ++ gs)
Carry-append [] gs p q = q
Carry-append (f ∷ fs) gs p q = (p.0, Carry-append fs gs p.1 q)

pub fit_carried : (fs : List Field) → Carry fs → Fit fs
fit_carried [] p = tt
fit_carried (f ∷ fs) p = (p.0.fits, fit_carried fs p.1)

pub bytes_carried : (fs : List Field) → Carry fs → All IsByte (text fs)
bytes_carried [] p = All-nil IsByte
bytes_carried (f ∷ fs) p = All-append IsByte (field_text f) (text fs) p.0.bytes (bytes_carried fs p.1)

-- ---- fields

is_byte_at : (i n : ℕ) → IsByte (byte_at i n)
is_byte_at zero n = mod-lt n (omega arith)
is_byte_at (suc i) n = mod-lt _ (omega arith)

high_bytes : (k n : ℕ) → All IsByte (bytes_high_first k n)
high_bytes zero n = All-nil IsByte
high_bytes (suc k) n = All-cons IsByte (byte_at k n) (bytes_high_first k n) (is_byte_at k n) (high_bytes k n)

byte : (n : ℕ) → n < 2 ^ 8 → Carries (Byte n)
byte n h = record { fits = tt; bytes = All-cons IsByte n [] h (All-nil IsByte) }

byte_if : (there : Bool) (n : ℕ) → n < 2 ^ 8 → Carries (ByteIf there n)
byte_if true n h = record { fits = tt; bytes = All-cons IsByte n [] h (All-nil IsByte) }
byte_if false n h = record { fits = tt; bytes = All-cons IsByte 0 [] (omega arith) (All-nil IsByte) }

number16 : (n : ℕ) → n < 2 ^ 16 → Carries (Number w16 n)
number16 n h = record { fits = fits16 n h; bytes = high_bytes 2 n }

number32 : (n : ℕ) → n < 2 ^ 32 → Carries (Number w32 n)
number32 n h = record { fits = fits32 n h; bytes = high_bytes 4 n }

padding : (n : ℕ) → Carries (Padding n)
padding n = record { fits = tt; bytes = All-replicate IsByte n 0 (omega arith) }

-- ---- records

entity : (id : EntityId) → IsEntityIdInRange id → Carry (entity_layout id)
entity id h = (number16 id.site h.0, (number16 id.application h.1, (number16 id.entity h.2, tt)))

time : (t : ClockTime) → IsTimeInRange t → Carry (clock_time_layout t)
time t h = (number32 t.hour h.0, (number32 t.past h.1, tt))

fixed : (ds : List FixedDatum) → All IsFixedInRange ds → Carry (fixed_layouts ds)
fixed [] h = tt
fixed (d ∷ ds) h =
    let one = All-head IsFixedInRange d ds h in (number32 d.id one.0, (number32 d.value one.1, fixed ds (All-tail IsFixedInRange d ds h)))

variable_one : (d : Datum) → IsVariableInRange d → Carry (variable_layout d)
variable_one d h =
    (number32 d.id h.id, (number32 d.bits h.bits, (record { fits = (h.value.size, h.value.unused); bytes = h.bytes }, (padding _, tt))))

variable : (ds : List Datum) → All IsVariableInRange ds → Carry (variable_layouts ds)
variable [] h = tt
variable (d ∷ ds) h =
    Carry-append (variable_layout d) (variable_layouts ds) (variable_one d (All-head IsVariableInRange d ds h))
    (variable ds (All-tail IsVariableInRange d ds h))

abbrev IsId : ℕ → Type 0
IsId id = id < 2 ^ 32

identifiers : (xs : List ℕ) → All IsId xs → Carry (id_layouts xs)
identifiers [] h = tt
identifiers (id ∷ xs) h = (number32 id (All-head IsId id xs h), identifiers xs (All-tail IsId id xs h))

datums : (d : DatumLists) → AreDatumsInRange d → size (datums_layout d) ≤ LARGEST_DATAGRAM → Carry (datums_layout d)
datums d h le =
    let all : size (fixed_layouts d.fixed ++ variable_layouts d.variable) ≡ size (fixed_layouts d.fixed) + size (variable_layouts d.variable) = size_join _ _ in (
      number32 (length d.fixed) (omega (arith, all, size_fixed d.fixed)),
      (
        number32 (length d.variable) (omega (arith, all, variable_least d.variable)),
        Carry-append (fixed_layouts d.fixed) (variable_layouts d.variable)
            (fixed d.fixed h.0) (variable d.variable h.1),
      ),
    )

ids : (d : IdLists) → AreIdsInRange d → size (ids_layout d) ≤ LARGEST_DATAGRAM → Carry (ids_layout d)
ids d h le =
    let all : size (id_layouts d.fixed ++ id_layouts d.variable) ≡ size (id_layouts d.fixed) + size (id_layouts d.variable) = size_join _ _ in (
      number32 (length d.fixed) (omega (arith, all, size_ids d.fixed)),
      (
        number32 (length d.variable) (omega (arith, all, size_ids d.variable)),
        Carry-append (id_layouts d.fixed) (id_layouts d.variable)
            (identifiers d.fixed h.0) (identifiers d.variable h.1),
      ),
    )

-- ---- bodies

body : (b : Body) → IsBodyInRange b → size (body_layout b) ≤ LARGEST_DATAGRAM → Carry (body_layout b)
body (CreateEntity request) h le = (number32 request h, tt)
body (RemoveEntity request) h le = (number32 request h, tt)
body (StartResume real sim request) h le =
    (number32 real.hour h.0.0, (number32 real.past h.0.1, (number32 sim.hour h.1.0, (number32 sim.past h.1.1, (number32 request h.2, tt)))))
body (StopFreeze real reason behaviour request) h le =
    (number32 real.hour h.0.0, (number32 real.past h.0.1, (byte reason h.1, (byte behaviour h.2, (padding 2, (number32 request h.3, tt))))))
body (Acknowledge flag response request) h le = (number16 flag h.0, (number16 response h.1, (number32 request h.2, tt)))
body (ActionRequest request action d) h le = (number32 request h.0, (number32 action h.1, datums d h.2 (omega arith)))
body (ActionResponse request status d) h le = (number32 request h.0, (number32 status h.1, datums d h.2 (omega arith)))
body (DataQuery request interval d) h le = (number32 request h.0, (number32 interval h.1, ids d h.2 (omega arith)))
body (SetData request d) h le = (number32 request h.0, (padding 4, datums d h.1 (omega arith)))
body (DataPdu request d) h le = (number32 request h.0, (padding 4, datums d h.1 (omega arith)))
body (EventReport event d) h le = (number32 event h.0, (padding 4, datums d h.1 (omega arith)))
body (Comment d) h le = datums d h le

-- ---- the header

is_version_byte : (version : Version) → IsByte (version_code version)
is_version_byte versions.V6 = omega arith
is_version_byte versions.V7 = omega arith

is_kind_byte : (kind : Kind) → IsByte (kind_code kind)
is_kind_byte kinds.CreateEntity = omega arith
is_kind_byte kinds.RemoveEntity = omega arith
is_kind_byte kinds.StartResume = omega arith
is_kind_byte kinds.StopFreeze = omega arith
is_kind_byte kinds.Acknowledge = omega arith
is_kind_byte kinds.ActionRequest = omega arith
is_kind_byte kinds.ActionResponse = omega arith
is_kind_byte kinds.DataQuery = omega arith
is_kind_byte kinds.SetData = omega arith
is_kind_byte kinds.DataPdu = omega arith
is_kind_byte kinds.EventReport = omega arith
is_kind_byte kinds.Comment = omega arith

header : (p : Pdu) (n : ℕ) → IsInRange p → n < 2 ^ 16 → Carry (header_layout (header_of p n))
header p n h lt = (
  byte _ (is_version_byte p.version),
  (byte _ h.exercise, (byte _ (is_kind_byte (body_kind p.body)), (byte 5 (omega arith), (number32 _ h.stamp, (number16 n lt, (byte_if (has_status p.version) _ h.status, (padding 1, tt))))))),
)

-- ---- a PDU

pub pdu_carried : (p : Pdu) → IsInRange p → pdu_size p ≤ LARGEST_DATAGRAM → Carry (pdu_layout p (pdu_size p))
pdu_carried p h le =
    let n = pdu_size p in
    let front = header_layout (header_of p n) in
    let origin = entity_layout p.origin in
    let target = entity_layout p.target in
    Carry-append ((front ++ origin) ++ target) (body_layout p.body)
    (Carry-append (front ++ origin) target (Carry-append front origin (header p n h (omega (arith, le))) (entity p.origin h.origin)) (entity p.target h.target))
    (body p.body h.body (omega (arith, le)))

pub text_is_spelled : (p : Pdu) → IsInRange p → pdu_size p ≤ LARGEST_DATAGRAM → HasCarriedStatus p ↔ Spells p (pdu_text p)
text_is_spelled p h le = text_spelled_exactly p (fit_carried (pdu_layout p (pdu_size p)) (pdu_carried p h le)) le

pub text_is_read : (p : Pdu) → IsInRange p → HasCarriedStatus p → pdu_size p ≤ LARGEST_DATAGRAM → reading (pdu_text p) ≡ Some p
text_is_read p h status le = reading_is p (pdu_text p) ((text_is_spelled p h le).0 status)

pub text_is_carried : (p : Pdu) → IsInRange p → pdu_size p ≤ LARGEST_DATAGRAM → reading (pdu_text p) ≡ Some (carried p)
text_is_carried p h le = reading_is (carried p) (pdu_text p) (carried_spelled p (fit_carried (pdu_layout p (pdu_size p)) (pdu_carried p h le)) le)

-- status 0 is carried by every version
pub zero_is_carried : (p : Pdu) → p.status ≡ 0 → HasCarriedStatus p
zero_is_carried p e = e ∙ zero (has_status p.version) ∙ ap (carried_status p.version) (sym e) where
  zero : (there : Bool) → ◌≡◌ {A = ℕ} 0 (if there then 0 else 0)
  zero true = refl
  zero false = refl

pub text_has_size : (p : Pdu) → IsInRange p → pdu_size p ≤ LARGEST_DATAGRAM → length (pdu_text p) ≡ pdu_size p
text_has_size p h le = length-text (pdu_layout p (pdu_size p)) (fit_carried (pdu_layout p (pdu_size p)) (pdu_carried p h le))

-- what is past the end counts as 0
pub bytes_everywhere : (b : List ℕ) → All IsByte b → (i : ℕ) → get_or b i 0 < 256
bytes_everywhere b h i =
    elim (cases_lt i (length b)) [
      | inl lt ↦ h i 0 lt
      | inr le ↦ rw (get_or_past b i 0 le) (omega arith)
    ]

pub text_is_bytes : (p : Pdu) → IsInRange p → pdu_size p ≤ LARGEST_DATAGRAM → (i : ℕ) → get_or (pdu_text p) i 0 < 256
text_is_bytes p h le = bytes_everywhere (pdu_text p) (bytes_carried (pdu_layout p (pdu_size p)) (pdu_carried p h le))
