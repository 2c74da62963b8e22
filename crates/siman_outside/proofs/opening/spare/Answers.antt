-- It was looked what stands there, or not.
use Rattle.std.proofs.Common.{[], refl}
use Rattle.std.proofs.lemmas.List.Elements.{All-nil}
use Rattle.siman_outside.specs.Outside.{WasHeld}
use Rattle.siman_outside.proofs.Openings.{adds_none}
use Rattle.siman_outside.proofs.opening.spare.Goals as goal

pub returns-then-force : goal.returns-then-force
returns-then-force g c = ([], adds_none _, (λ holds. All-nil (WasHeld holds)), rw c.if-force.true refl)
