-- The header of a PDU (IEEE 1278.1-2012, 6.2.66), of 12 bytes.
use Rattle.std.specs.Prelude.{◌≡◌, ℕ, ◌≤◌, Bool, true, false, ◌||◌, not, ◌==◌, nat_lt, List, [], ◌∷◌, length, Option, Some, None, if◌then◌else◌}
use Rattle.std.specs.Int.{w8, w16, w32}
use Rattle.dis_records.specs.declared.header.Header.{Header}
use Rattle.dis_records.specs.declared.header.Version.{Version}
use Rattle.dis_records.specs.declared.header.Version.TheVariants as versions
use Rattle.dis_records.specs.declared.header.VersionRow.{VersionRow}
use Rattle.dis_records.specs.declared.header.HeaderFault.{HeaderFault}
use Rattle.dis_records.specs.declared.header.HeaderFault.TheVariants as faults
use Rattle.dis_records.specs.declared.header.TheConstants.{LARGEST_DATAGRAM, VERSIONS}
use Rattle.dis_records.specs.Kind.{kind_code, kind_from, is_kind_code}
use Rattle.dis_records.specs.Layout.{Field, Byte, ByteIf, Number, Padding, ArePlacedAt, spelled_number}

-- The table of the supported protocol versions is VERSIONS: the number, and whether byte 10 is the PDU status or
-- padding. It has version 6 (IEEE 1278.1A-1998), without a status, and version 7 (IEEE 1278.1-2012), with one.

abbrev pub same_version : Version → Version → Bool
same_version versions.V6 versions.V6 = true
same_version versions.V7 versions.V7 = true
same_version v w = false

-- the first row that passes a test; used only where such a row exists
abbrev pub row_where : (VersionRow → Bool) → List VersionRow → VersionRow
row_where test [] = record { number = 0; version = versions.V7; has_status = false }
row_where test (row ∷ rows) = if test row then row else row_where test rows

-- one of the rows has this number
abbrev pub has_number : List VersionRow → ℕ → Bool
has_number [] n = false
has_number (row ∷ rows) n = (row.number == n) || has_number rows n

abbrev pub version_row : Version → VersionRow
version_row version = row_where (λ row. same_version row.version version) VERSIONS

-- the number of a version
abbrev pub version_code : Version → ℕ
version_code version = (version_row version).number

-- the number of a supported version
abbrev pub is_version : ℕ → Bool
is_version n = has_number VERSIONS n

-- the version with this number; used only for numbers in the table
unfoldable pub version_from : ℕ → Version
version_from n = (row_where (λ row. row.number == n) VERSIONS).version

-- the headers of a version have a PDU status
abbrev pub has_status : Version → Bool
has_status version = (version_row version).has_status

-- the PDU status that a header of a version carries: 0 if it has none (profile)
abbrev pub carried_status : Version → ℕ → ℕ
carried_status version status = if has_status version then status else 0

-- protocol version, exercise identifier, PDU type, protocol family (5, Simulation Management), timestamp, length,
-- PDU status, or padding in a version without one (profile), padding
abbrev pub header_layout : Header → List Field
header_layout h =
    Byte (version_code h.version) ∷ Byte h.exercise ∷ Byte (kind_code h.kind) ∷ Byte 5
    ∷ Number w32 h.stamp ∷ Number w16 h.length ∷ ByteIf (has_status h.version) h.status ∷ Padding 1 ∷ []

-- the header at the front of bytes
abbrev pub header_at : List ℕ → Header
header_at b = record {
  version = version_from (spelled_number w8 0 b);
  exercise = spelled_number w8 1 b;
  kind = kind_from (spelled_number w8 2 b);
  stamp = spelled_number w32 4 b;
  length = spelled_number w16 8 b;
  status = carried_status (version_from (spelled_number w8 0 b)) (spelled_number w8 10 b);
}

-- b begins with the header, which has the length of b, at most 8192, and status 0 if its version has none (profile).
pub record IsHeader (h : Header) (b : List ℕ) : Type 0 where
  pub stands : ArePlacedAt (header_layout h) 0 b
  pub length_is : h.length ≡ length b
  pub status_is : h.status ≡ carried_status h.version h.status
  pub room : 12 ≤ length b
  pub limit : length b ≤ LARGEST_DATAGRAM

-- the first refusal that holds
abbrev pub header_refusal : List ℕ → Option HeaderFault
header_refusal b =
    if nat_lt (length b) 12 then Some faults.Truncated
    else (if not (is_version (spelled_number w8 0 b)) then Some (faults.Version (spelled_number w8 0 b))
    else (if not (spelled_number w8 3 b == 5) then Some (faults.Family (spelled_number w8 3 b))
    else (if not (is_kind_code (spelled_number w8 2 b)) then Some (faults.Kind (spelled_number w8 2 b))
    else (if nat_lt LARGEST_DATAGRAM (length b) then Some faults.Long
    else (if not (spelled_number w16 8 b == length b) then Some (faults.LengthField (spelled_number w16 8 b))
    else None)))))
