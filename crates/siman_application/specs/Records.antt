-- Datum records under identifiers: which value counts, what a Set Data stores, and which records a query finds (profile, over IEEE 1278.1-2012, 5.6.5).
use Rattle.std.specs.Prelude.{ℕ, ◌-◌, ◌*◌, ◌==◌, nat_le, List, [], ◌∷◌, ◌++◌, length, take, Option, Some, None, option_to_list, if◌then◌else◌}
use Rattle.std.specs.Option.{option_or}
use Rattle.dis_records.specs.declared.datum.FixedDatum.{FixedDatum}
use Rattle.dis_records.specs.Datum.{Datum, padded}
use Rattle.siman_pdus.specs.DatumLists.{DatumLists}

-- the last of some records with an identifier: of a repeated one the last counts
abbrev pub last_under : {X : Type 0} → (X → ℕ) → ℕ → List X → Option X
last_under id_of id [] = None
last_under id_of id (x ∷ xs) = option_or (last_under id_of id xs) (if id_of x == id then Some x else None)

abbrev pub fixed_id : FixedDatum → ℕ
fixed_id d = d.id

abbrev pub variable_id : Datum → ℕ
variable_id d = d.id

-- the record under an identifier after another is stored, if any: only if the identifier is held
abbrev pub stored : {X : Type 0} → (came held : Option X) → Option X
stored came None = None
stored None (Some x) = Some x
stored (Some y) (Some x) = Some y

-- the held records among those asked for, in the order asked
abbrev pub found : {X : Type 0} → (ℕ → Option X) → List ℕ → List X
found held [] = []
found held (id ∷ ids) = option_to_list (held id) ++ found held ids

-- the first variable records that fit so many bytes
abbrev pub fitting : ℕ → List Datum → List Datum
fitting room [] = []
fitting room (d ∷ ds) = if nat_le (padded d.bits) room then d ∷ fitting (room - padded d.bits) ds else []

-- the first records that a Data of at most 8192 bytes holds; 40 of its bytes are no records
abbrev pub cut_records : DatumLists → DatumLists
cut_records d = record { fixed = take 1019 d.fixed; variable = fitting (8152 - 8 * length (take 1019 d.fixed)) d.variable }
