-- The file is the one that is to be made.
use Rattle.std.proofs.Common.{◌++◌, ◌∙◌, codes, inr, refl, append-nil, arith}
use Rattle.std.proofs.lemmas.Grind.{common_steps}
use Rattle.siman_outside.specs.Outside.{WasHeld}
use Rattle.siman_outside.proofs.Openings.{adds_then, all_two}
use Rattle.siman_outside.proofs.opening.open_input.Goals as goal

pub returns-then-is_opened-clause-did : goal.returns-then-is_opened-clause-did
returns-then-is_opened-clause-did g c = (
  _,
  adds_then _ _ _ _ _ c.in-Ok.ensures.done c.if-is_opened.ensures.done,
  all_two (WasHeld (g.O.Outside.holds c.args.outside.now)) _ _ c.in-Ok.ensures.held tt,
  inr (_, refl, append-nil (codes "output: same as " ++ c.args.names.0.now)),
)

pub returns-then-is_opened-clause-stays : goal.returns-then-is_opened-clause-stays
returns-then-is_opened-clause-stays g c = c.if-is_opened.ensures.stays ∙ c.in-Ok.ensures.stays

pub open-requires-text-name : goal.open-requires-text-name
open-requires-text-name g c κs within = grind (arith, common_steps)

pub is_opened-requires-text-name : goal.is_opened-requires-text-name
is_opened-requires-text-name g c κs within = grind (arith, common_steps)

pub fact_in-name : goal.fact_in-name
fact_in-name g c = grind (arith, common_steps)

pub open_fault-requires-text-name : goal.open_fault-requires-text-name
open_fault-requires-text-name g c κs = grind (arith, common_steps)
