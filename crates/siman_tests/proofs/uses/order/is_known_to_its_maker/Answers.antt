use Rattle.std.proofs.Common.{Bool, false, true, ◌≡◌}
use Rattle.siman_tests.proofs.uses.order.is_known_to_its_maker.Goals as goal

both_ways : (b : Bool) → b ≡ false → b ≡ true → ⊥
both_ways b e f = absurd cc

pub returns : goal.returns
returns c = λ h i s j o is run there maker none heard.
    both_ways _ none ((c.managers_know.ensures.known c.args.recording.now h i s o is run there maker).1 (j, heard))
