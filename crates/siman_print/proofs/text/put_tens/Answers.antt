-- All digits but the last, and the last.
use Rattle.std.proofs.Common.{◌≤◌, ◌<◌, arith}
use Rattle.std.proofs.lemmas.Grind.{common_steps}
use Rattle.siman_print.proofs.Digits.{in_tens}
use Rattle.siman_print.proofs.text.put_tens.Goals as goal

pub returns : goal.returns
returns c =
    let several : 10 ≤ c.args.number = omega (arith, c.requires.from) in
    let few : c.args.number < 1000 = omega (arith, c.requires.below) in
    rw (in_tens c.args.number several (omega (arith, few))) (grind (arith, common_steps))
