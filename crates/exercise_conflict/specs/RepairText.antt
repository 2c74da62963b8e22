-- The words for whether missing sends are enough (profile).
use Rattle.std.specs.Prelude.{ℕ, List, codes}
use Rattle.exercise_conflict.specs.declared.repair.Enough.{Enough}
use Rattle.exercise_conflict.specs.declared.repair.Enough.TheVariants as words

abbrev pub enough_text : Enough → List ℕ
enough_text words.Yes = codes "yes"
enough_text words.No = codes "no"
enough_text words.Unknown = codes "unknown"
