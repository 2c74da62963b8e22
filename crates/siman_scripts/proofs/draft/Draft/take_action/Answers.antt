use Rattle.std.proofs.Common.{arith}
use Rattle.std.proofs.lemmas.Grind.{elements}
use Rattle.siman_scripts.proofs.draft.Draft.take_action.Goals as goal

pub returns : goal.returns
returns c = grind (arith, elements)
