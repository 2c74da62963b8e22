-- What an application knows, by its data: its entities by rising numbers, and the records that it holds.
use Rattle.siman_application.specs.Answer.{Knowledge}
use Rattle.siman_application.specs.Holding.{Holding}
use Rattle.siman_application.specs.Listed.{Entities, states_in}

abbrev pub knows : Entities → Holding → Knowledge
knows xs h = record { states = states_in xs; fixed = h.fixed; variable = h.variable }
