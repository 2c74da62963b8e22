-- The configuration of an application (profile).
use Rattle.std.specs.Prelude.{ℕ, List}
use Rattle.siman_pdus.specs.DatumLists.{DatumLists}
use Rattle.exercise_model.specs.Station.{StationData}

-- the exercise, the station with the entities that it opens with, the datums that it holds at first, and the
-- actions that it knows
pub record AppProfile : Type 0 where
  pub exercise : ℕ
  pub station : StationData
  pub datums : DatumLists
  pub actions : List ℕ
