-- A station of a world, without its memory (profile).
use Rattle.std.specs.Prelude.{ℕ, List}
use Rattle.siman_pdus.specs.DatumLists.{DatumLists}
use Rattle.exercise_model.specs.Station.{StationData}

-- the station with the entities that it opens with; the rules of its manager (the first request identifier, the most
-- sendings of an order, and the time from a sending until it is due); the datums that its application holds, and the
-- actions that it knows
pub record WorldStationData : Type 0 where
  pub station : StationData
  pub first_id : ℕ
  pub tries : ℕ
  pub wait : ℕ
  pub datums : DatumLists
  pub actions : List ℕ
