use Rattle.siman_tests.proofs.uses.order.fate_at_party.Goals as goal

pub returns : goal.returns
returns g c = record { one_side = λ none. rw c.fate_of.ensures (c.one_side_is_not_enough.ensures.maker c.args.findings.now _ c.args.party none) }
