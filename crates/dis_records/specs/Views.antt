-- Datums and identifiers in place in a datagram, given the offset of their counts (IEEE 1278.1-2012, 6.2.18 and
-- 6.2.17).
use Rattle.std.specs.Prelude.{ℕ, ◌+◌, ◌*◌, ◌≤◌, List, length}
use Rattle.std.specs.Int.{w32}
use Rattle.dis_records.specs.declared.datum.FixedDatum.{FixedDatum}
use Rattle.dis_records.specs.Layout.{spelled_number, total}
use Rattle.dis_records.specs.Datum.{Datum}
use Rattle.dis_records.specs.Records.{fixed_at, ids_at, variable_at, variable_sizes}

-- fixed datum records, then variable datum records, with their bytes unchanged
pub record ShownDatums : Type 0 where
  pub fixed : List FixedDatum
  pub variable : List Datum

-- identifiers of fixed datums, then of variable datums
pub record ShownIds : Type 0 where
  pub fixed : List ℕ
  pub variable : List ℕ

-- offset of the variable records whose two counts are at offset `counts`
abbrev pub variable_start : ℕ → List ℕ → ℕ
variable_start counts b = counts + 8 + 8 * spelled_number w32 counts b

-- offset of the identifiers of variable datums whose two counts are at offset `counts`
abbrev pub ids_start : ℕ → List ℕ → ℕ
ids_start counts b = counts + 8 + 4 * spelled_number w32 counts b

-- All records are complete.
pub record DatumsFit (counts : ℕ) (b : List ℕ) : Type 0 where
  pub counts_fit : counts + 8 ≤ length b
  pub fixed_fit : variable_start counts b ≤ length b
  pub variable_fit : variable_start counts b + total (variable_sizes (spelled_number w32 (counts + 4) b) (variable_start counts b) b) ≤ length b

-- All identifiers are complete.
pub record IdsFit (counts : ℕ) (b : List ℕ) : Type 0 where
  pub counts_fit : counts + 8 ≤ length b
  pub all_fit : ids_start counts b + 4 * spelled_number w32 (counts + 4) b ≤ length b

-- the records whose two counts are at offset `counts`
unfoldable pub shown_datums : ℕ → List ℕ → ShownDatums
shown_datums counts b = record {
  fixed = fixed_at (spelled_number w32 counts b) (counts + 8) b;
  variable = variable_at (spelled_number w32 (counts + 4) b) (variable_start counts b) b;
}

-- the identifiers whose two counts are at offset `counts`
unfoldable pub shown_ids : ℕ → List ℕ → ShownIds
shown_ids counts b = record {
  fixed = ids_at (spelled_number w32 counts b) (counts + 8) b;
  variable = ids_at (spelled_number w32 (counts + 4) b) (ids_start counts b) b;
}
