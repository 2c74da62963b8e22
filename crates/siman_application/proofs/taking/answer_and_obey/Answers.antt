use Rattle.siman_application.specs.Holding.{held_in}
use Rattle.siman_application.proofs.TablesStay.{made_answer}
use Rattle.siman_application.proofs.taking.answer_and_obey.Goals as goal

pub obey-requires-clause-answers : goal.obey-requires-clause-answers
obey-requires-clause-answers c =
    (made_answer c.args.outfit.now c.args.entities.now (held_in c.args.held.now) c.args.pdu.now c.in_ok-outcome.outcome.answer c.args.stamp c.requires c.in_ok-outcome.ensures.answer).answers

pub obey-requires-clause-possible : goal.obey-requires-clause-possible
obey-requires-clause-possible c =
    (made_answer c.args.outfit.now c.args.entities.now (held_in c.args.held.now) c.args.pdu.now c.in_ok-outcome.outcome.answer c.args.stamp c.requires c.in_ok-outcome.ensures.answer).able_can
