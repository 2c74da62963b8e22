use Rattle.std.proofs.Common.{◌<◌, length, sym, ◌∙◌, arith}
use Rattle.byte_files.proofs.Texts.{stops, number_to-digits}
use Rattle.byte_files.proofs.text.number_to.Goals as goal
use Rattle.std.proofs.lemmas.Grind.{common_steps}

pub returns-in_err-value-clause-value : goal.returns-in_err-value-clause-value
returns-in_err-value-clause-value c =
    let some : 0 < length c.args.word.now = omega arith in
    c.from_residual.ensures ∙ sym (sym (number_to-digits c.args.largest c.args.word.now some) ∙ stops c.args.largest c.loop-digit.value c.loop-digit.digit-index c.args.word.now c.loop-digit-test.true c.loop-digit.invariant.rest (c.in_err-value.ensures {u = tt}))

pub loop-digit-preserved : goal.loop-digit-preserved
loop-digit-preserved c = grind (arith, common_steps)

pub returns-clause-value : goal.returns-clause-value
returns-clause-value c = grind (arith, common_steps)
