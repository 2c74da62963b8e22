-- The records under each datum identifier, before and after others are stored.
use Rattle.std.specs.Prelude.{ℕ, nat_eq, Option, None}
use Rattle.indexmap.specs.IndexMap.{get}
use Rattle.dis_records.specs.declared.datum.FixedDatum.{FixedDatum}
use Rattle.dis_records.specs.Datum.{Datum}
use Rattle.siman_pdus.specs.DatumLists.{DatumLists}
use Rattle.siman_application.specs.declared.held.Held.{Held}
use Rattle.siman_application.specs.Records.{fixed_id, variable_id, last_under, stored}

-- the record under each identifier
pub record Holding : Type 0 where
  pub fixed : ℕ → Option FixedDatum
  pub variable : ℕ → Option Datum

abbrev pub nothing : Holding
nothing = record { fixed = λ id. None; variable = λ id. None }

-- records under their identifiers: of a repeated one the last counts
abbrev pub held_by : DatumLists → Holding
held_by d = record { fixed = λ id. last_under fixed_id id d.fixed; variable = λ id. last_under variable_id id d.variable }

-- the records of two tables
abbrev pub held_in : Held → Holding
held_in h = record { fixed = λ id. get nat_eq h.fixed id; variable = λ id. get nat_eq h.variable id }

-- the records after others are stored: only under identifiers that are held
abbrev pub stored_in : (came held : Holding) → Holding
stored_in came held = record { fixed = λ id. stored (came.fixed id) (held.fixed id); variable = λ id. stored (came.variable id) (held.variable id) }
