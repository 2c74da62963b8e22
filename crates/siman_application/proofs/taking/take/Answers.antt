use Rattle.std.proofs.Common.{rules}
use Rattle.siman_application.specs.Holding.{held_in}
use Rattle.siman_application.proofs.TablesStay.{Again, taken_again}
use Rattle.siman_application.proofs.taking.take.Goals as goal
use Rattle.std.proofs.Common.{arith}
use Rattle.std.proofs.lemmas.Grind.{common_steps}

again : (c : goal.After-take_again)
    → Again c.args.outfit.now c.args.kept.now c.take_again.new.kept c.args.entities.now (held_in c.args.held.now) c.args.pdu.now c.args.stamp c.take_again.result
again c =
    taken_again c.args.outfit.now c.args.kept.now c.take_again.new.kept c.args.entities.now (held_in c.args.held.now) c.args.pdu.now c.args.stamp c.in-Some.place c.take_again.result
    c.requires (search rules) c.in-Some.ensures c.take_again.ensures.result c.take_again.ensures.kept

pub returns-in-Some-clause-right : goal.returns-in-Some-clause-right
returns-in-Some-clause-right c = (again c).right

pub returns-in-Some-clause-came : goal.returns-in-Some-clause-came
returns-in-Some-clause-came c = (again c).came

pub returns-in-Some-clause-reply : goal.returns-in-Some-clause-reply
returns-in-Some-clause-reply c = (again c).reply

pub returns-in-Some-clause-within : goal.returns-in-Some-clause-within
returns-in-Some-clause-within c = (again c).within

pub take_again-requires : goal.take_again-requires
take_again-requires c = grind (arith, common_steps) steps 2000000
