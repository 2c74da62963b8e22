-- The rows of a PDU: its head, then a row for each record, or for each requested identifier.
use Rattle.std.specs.Prelude.{ℕ, List, [], ◌∷◌, ◌++◌, map, codes}
use Rattle.hex.specs.Hex.{encode_lower}
use Rattle.dis_records.specs.declared.datum.FixedDatum.{FixedDatum}
use Rattle.dis_records.specs.Datum.{Datum}
use Rattle.siman_print.specs.Line.{Value, Number, Word, Missing, Bare, Line, named_line}
use Rattle.siman_pdus.specs.declared.pdu.Body.{Body}
use Rattle.siman_pdus.specs.declared.pdu.Body.TheVariants.{ActionRequest, ActionResponse, DataQuery, SetData, DataPdu, EventReport, Comment}
use Rattle.siman_pdus.specs.declared.pdu.Pdu.{Pdu}
use Rattle.siman_pdus.specs.DatumLists.{DatumLists, IdLists}
use Rattle.siman_print.specs.Head.{head_line}

abbrev pub line_end : List ℕ
line_end = 10 ∷ []

-- fixed ID VALUE
abbrev pub fixed_line : FixedDatum → Line
fixed_line datum = named_line (codes "fixed") (Bare (codes "id") (Number datum.id) ∷ Bare (codes "value") (Number datum.value) ∷ [])

-- the bytes of a value in hex, or missing
abbrev pub hex_value : List ℕ → Value
hex_value [] = Missing
hex_value (b ∷ bs) = Word (encode_lower (b ∷ bs))

-- variable ID BITS HEX
abbrev pub variable_line : Datum → Line
variable_line datum =
    named_line (codes "variable") (Bare (codes "id") (Number datum.id) ∷ Bare (codes "bits") (Number datum.bits) ∷ Bare (codes "hex") (hex_value datum.bytes) ∷ [])

-- a requested identifier: fixed ID, and variable ID
abbrev pub id_line : List ℕ → ℕ → Line
id_line name id = named_line name (Bare (codes "id") (Number id) ∷ [])

abbrev pub datum_lines : DatumLists → List Line
datum_lines d = map fixed_line d.fixed ++ map variable_line d.variable

abbrev pub id_lines : IdLists → List Line
id_lines d = map (id_line (codes "fixed")) d.fixed ++ map (id_line (codes "variable")) d.variable

abbrev pub record_lines : Body → List Line
record_lines (ActionRequest request action datums) = datum_lines datums
record_lines (ActionResponse request status datums) = datum_lines datums
record_lines (DataQuery request interval ids) = id_lines ids
record_lines (SetData request datums) = datum_lines datums
record_lines (DataPdu request datums) = datum_lines datums
record_lines (EventReport event datums) = datum_lines datums
record_lines (Comment datums) = datum_lines datums
record_lines other = []

abbrev pub pdu_lines : Pdu → List Line
pdu_lines pdu = head_line pdu ∷ record_lines pdu.body
