use Rattle.std.proofs.Common.{◌∙◌, ap}
use Rattle.siman_pdus.specs.Reading.{pdu_of}
use Rattle.exercise_model.specs.Recording.{PlainRecording}
use Rattle.exercise_model.specs.Account.{pair_of}
use Rattle.exercise_conflict.proofs.Contradicting.{pair_is}
use Rattle.exercise_conflict.proofs.earlier.earlier_sent.Goals as goal
use Rattle.exercise_conflict.proofs.Unowned.{sent_within, unowned_opposite, unowned_other}
use Rattle.std.proofs.Common.{arith}
use Rattle.std.proofs.lemmas.Grind.{elements}

pub returns-in-WrongAnswer : goal.returns-in-WrongAnswer
returns-in-WrongAnswer g c =
    rw c.in-WrongAnswer.is (c.pair_of.ensures ∙ ap (λ (r : PlainRecording). pair_of r c.args.entry) c.findings-findings.ensures
    ∙ pair_is c.args.logs.now c.args.entry c.args.station (pdu_of c.args.pdu.now) c.requires)

pub first_own-requires-clause-within : goal.first_own-requires-clause-within
first_own-requires-clause-within g c = grind (arith, elements)

pub first_own-requires-clause-own : goal.first_own-requires-clause-own
first_own-requires-clause-own g c = grind (arith, unowned_other, unowned_opposite, sent_within)
