-- Datums of a body and identifiers of a query, as plain lists (IEEE 1278.1-2012, 6.2.18 and 6.2.17).
use Rattle.std.specs.Prelude.{ℕ, Bool, ◌&&◌, ◌==◌, List}
use Rattle.std.specs.Cmp.Lexicographic.{pointwise}
use Rattle.dis_records.specs.declared.datum.FixedDatum.{FixedDatum}
use Rattle.dis_records.specs.Datum.{Datum, same_datum}

-- fixed datum records, then variable datum records
pub record DatumLists : Type 0 where
  pub fixed : List FixedDatum
  pub variable : List Datum

-- identifiers of fixed datums, then of variable datums
pub record IdLists : Type 0 where
  pub fixed : List ℕ
  pub variable : List ℕ

abbrev pub same_fixed : FixedDatum → FixedDatum → Bool
same_fixed d e = (d.id == e.id) && (d.value == e.value)

abbrev pub same_datums : DatumLists → DatumLists → Bool
same_datums d e = pointwise same_fixed d.fixed e.fixed && pointwise same_datum d.variable e.variable

abbrev pub same_ids : IdLists → IdLists → Bool
same_ids d e = pointwise ◌==◌ d.fixed e.fixed && pointwise ◌==◌ d.variable e.variable
