-- What the types imply of a world and of its moves: their numbers are in the ranges of the fields that carry them.
use Rattle.std.specs.Prelude.{ℕ, ◌<◌, List, length}
use Rattle.std.specs.List.{AllByRecursion}
use Rattle.siman_application.specs.Ranges.{IsProfileInRange}
use Rattle.siman_scripts.specs.declared.act.Act.{Act}
use Rattle.siman_scripts.specs.declared.act.Act.TheVariants.{Command, Deliver, Tick, Tell}
use Rattle.siman_scripts.specs.declared.act.Move.{Move}
use Rattle.siman_stations.specs.Sending.{IsOrderInRange}
use Rattle.siman_stations.specs.World.{WorldData, outfit_of}

-- THE NUMBERS OF A WORLD: those of the configuration of each station's application
abbrev pub IsWorldInRange : WorldData → Type 0
IsWorldInRange w = (s : ℕ) → s < length w.stations → IsProfileInRange (outfit_of w s)

-- the numbers of an act that are sent: those of an order
abbrev pub IsActInRange : Act → Type 0
IsActInRange (Command order) = IsOrderInRange order
IsActInRange (Deliver k) = Unit {0}
IsActInRange Tick = Unit {0}
IsActInRange (Tell e) = Unit {0}

-- THE NUMBERS OF MOVES, in any order
abbrev pub AreMovesInRange : List Move → Type 0
AreMovesInRange moves = AllByRecursion (λ m. IsActInRange m.act) moves
