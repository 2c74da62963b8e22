use Rattle.std.proofs.Common.{List, Ok, subst, sym, ℕ, ◌≡◌}
use Rattle.exercise_check.specs.Certificate.{certificate_at}
use Rattle.siman_tests.proofs.uses.certificate.says_one_order.Goals as goal

pub returns-clause-same : goal.returns-clause-same
returns-clause-same c = λ limit other steps read room small.
    let law = c.text_and_reading_agree.ensures in
    subst (λ (b : List ℕ). certificate_at other b ≡ Ok steps) (sym (law.text limit c.args.bytes.now steps c.are_bytes.ensures read))
    (law.read other steps (law.numbers limit c.args.bytes.now steps c.are_bytes.ensures read) room small)

pub returns-clause-refused : goal.returns-clause-refused
returns-clause-refused c = λ limit fault refused. c.refusals_hold.ensures limit c.args.bytes.now fault c.are_bytes.ensures refused
