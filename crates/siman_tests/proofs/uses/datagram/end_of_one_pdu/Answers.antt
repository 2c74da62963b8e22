use Rattle.std.proofs.Common.{List, ap, append-nil, subst, ℕ, ◌++◌, ◌∙◌}
use Rattle.siman_pdus.specs.Spelling.{Spells}
use Rattle.siman_tests.proofs.uses.datagram.end_of_one_pdu.Goals as goal

pub returns : goal.returns
returns c = λ pdu other more first second.
    let law = c.spellings_are_apart.ensures in
    let b = c.args.bytes.now in
    let none = law.whole pdu other b more first second in
    (none, law.one pdu other b first (subst (Spells other) (ap (λ (m : List ℕ). b ++ m) none ∙ append-nil b) second))
