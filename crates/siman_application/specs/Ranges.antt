-- The ranges of the configuration of an application, as the types imply them.
use Rattle.std.specs.Prelude.{◌<◌, ◌^◌}
use Rattle.siman_pdus.specs.Ranges.{AreDatumsInRange}
use Rattle.siman_application.specs.AppProfile.{AppProfile}

-- THE NUMBERS OF AN OUTFIT are in the ranges of the fields that carry them: the exercise, site and application of
-- the station, and the datums
pub record IsProfileInRange (a : AppProfile) : Type 0 where
  pub exercise : a.exercise < 2 ^ 8
  pub site : a.station.address.site < 2 ^ 16
  pub application : a.station.address.application < 2 ^ 16
  pub datums : AreDatumsInRange a.datums
