-- Certificates: the text of their file, numbers big-endian, and how it is read field by field (profile).
use Rattle.std.specs.Prelude.{◌≡◌, ◌≤◌, ◌<◌, ℕ, ◌+◌, ◌*◌, List, ◌++◌, length, take, drop, Bool, false, ◌&&◌, nat_lt, nat_le, Option, Some, None, Result, Ok, bytes_eq, codes}
use Rattle.std.specs.List.{flat_map}
use Rattle.std.specs.Int.{Width, w32, to_be_bytes, from_be_bytes}
use Rattle.byte_files.specs.Fields.{Input, Names, ◌>>=◌, tested}
use Rattle.byte_files.specs.Fields as fields
use Rattle.byte_files.specs.Repeats.{many_at}
use Rattle.exercise_check.specs.declared.certificate.Step.{Step}
use Rattle.exercise_check.specs.declared.certificate.Certificate.{Certificate}
use Rattle.exercise_check.specs.declared.certificate_fault.CertificateFormatFault.{CertificateFormatFault}
use Rattle.exercise_check.specs.declared.certificate_fault.CertificateFormatFault.TheVariants as faults
use Rattle.exercise_check.specs.declared.certificate_fault.CertificateFault.{CertificateFault}
use Rattle.exercise_check.specs.declared.certificate_fault.CertificateFault.TheVariants.{Format, Read, Memory}

-- ---- the text

-- a step: place, link
abbrev pub step_text : Step → List ℕ
step_text s = to_be_bytes w32 s.place ++ to_be_bytes w32 s.link

-- the head, before the steps: the magic, the number of steps
abbrev pub head_text : ℕ → List ℕ
head_text count = codes "DSCT0001" ++ to_be_bytes w32 count

-- the one text of a certificate
abbrev pub certificate_text : List Step → List ℕ
certificate_text steps = head_text (length steps) ++ flat_map step_text steps

-- the numbers of a step have 32 bits
abbrev pub is_step : Step → Bool
is_step s = nat_lt s.place 4294967296 && nat_lt s.link 4294967296

-- ---- reading it

-- names of a certificate's format for a field that is incomplete or past the limit
abbrev pub names : Names CertificateFormatFault
names = record { over_limit = faults.OverLimit; truncated = faults.Truncated }

-- reading a field, and a number
abbrev pub field_at : ℕ → Input → Result (List ℕ × Input) CertificateFormatFault
field_at n i = fields.field_at names n i

abbrev pub number_at : Width → Input → Result (ℕ × Input) CertificateFormatFault
number_at w i = fields.number_at names w i

-- reading the magic
unfoldable pub magic_at : Input → Result Input CertificateFormatFault
magic_at i = do
  m ← field_at 8 i
  tested (bytes_eq m.0 (codes "DSCT0001")) (faults.Magic i.at) m.1

-- reading the number of steps, at most the limit
unfoldable pub count_at : (limit : ℕ) → Input → Result (ℕ × Input) CertificateFormatFault
count_at limit i = fields.number_where names w32 (λ n. nat_le n limit) faults.OverLimit i

-- reading a step: place, link
unfoldable pub step_at : Input → Result (Step × Input) CertificateFormatFault
step_at i = do
  place ← number_at w32 i
  link ← number_at w32 place.1
  Ok (record { place = place.0; link = link.0 }, link.1)

-- reading `left` steps
abbrev pub steps_at : (left : ℕ) → Input → Result (List Step × Input) CertificateFormatFault
steps_at left i = many_at step_at left i

-- checking that no bytes are left
abbrev pub ended : {A : Type 0} → A → Input → Result A CertificateFormatFault
ended x i = fields.ended faults.Trailing x i

-- reading a whole certificate of at most `limit` steps
unfoldable pub whole_at : (limit : ℕ) → Input → Result (List Step) CertificateFormatFault
whole_at limit i = do
  m ← magic_at i
  n ← count_at limit m
  ss ← steps_at n.0 n.1
  ended ss.0 ss.1

-- The steps of the certificate whose text the bytes are, at most `limit`, or the first fault. The text of `limit`
-- steps has 12 + 8 * limit bytes, so no field that is read ends past these.
unfoldable pub certificate_at : (limit : ℕ) → List ℕ → Result (List Step) CertificateFormatFault
certificate_at limit bytes = whole_at limit (record { limit = 12 + 8 * limit; at = 0; bytes = bytes })

-- the number in the field for the number of steps
abbrev pub count_of : List ℕ → ℕ
count_of bytes = from_be_bytes w32 (take 4 (drop 8 bytes))

-- Why the bytes are refused: their first eight are no magic; or there are more steps than the limit; or fewer bytes
-- than the head and its steps need; or more bytes behind the text of a certificate.
abbrev pub IsRefused : (limit : ℕ) → List ℕ → CertificateFormatFault → Type 0
IsRefused limit bytes (faults.Magic at) = (at ≡ 0) × (8 ≤ length bytes) × (bytes_eq (take 8 bytes) (codes "DSCT0001") ≡ false)
IsRefused limit bytes (faults.OverLimit at) = (at ≡ 8) × (take 8 bytes ≡ codes "DSCT0001") × (12 ≤ length bytes) × (limit < count_of bytes)
IsRefused limit bytes (faults.Truncated at) = (at ≡ length bytes) × (length bytes < 12 + 8 * count_of bytes)
IsRefused limit bytes (faults.Trailing at) =
    (at < length bytes) × ((steps : List Step) × (take at bytes ≡ certificate_text steps) × (length steps ≤ limit))

-- ---- the results of functions

-- the fault of the format, if the fault is one
abbrev pub format_of : CertificateFault → Option CertificateFormatFault
format_of (Format fault) = Some fault
format_of Read = None
format_of Memory = None

-- the steps of a certificate, as a list
abbrev pub steps_of : Certificate → List Step
steps_of c = c.steps.items

-- The result of a function is what reading a certificate gives.
abbrev pub Gives : {X Y : Type 0} → (X → Y) → Result X CertificateFault → Option Input → Result (Y × Input) CertificateFormatFault → Type 0
Gives view result rest read = fields.Gives format_of view result rest read

abbrev pub Passes : Result (Unit {0}) CertificateFault → Option Input → Result Input CertificateFormatFault → Type 0
Passes result rest read = fields.Passes format_of result rest read

abbrev pub Fills : Result (Unit {0}) CertificateFault → List ℕ → Option Input → Result (List ℕ × Input) CertificateFormatFault → Type 0
Fills result filled rest read = fields.Fills format_of result filled rest read

abbrev pub Answers : {X Y : Type 0} → (X → Y) → Result X CertificateFault → Result Y CertificateFormatFault → Type 0
Answers view result read = fields.Answers format_of view result read
