use Rattle.std.proofs.Common.{◌≡◌, sym, subst}
use Rattle.std.specs.Prelude.{IfOk}
use Rattle.std.specs.Option.{unwrap_or}
use Rattle.siman_pdus.specs.declared.pdu.Body.{Body}
use Rattle.siman_application.specs.Answer.{answer_by, brought, no_datums}
use Rattle.siman_application.specs.Holding.{held_in}
use Rattle.siman_application.specs.Knows.{knows}
use Rattle.siman_application.proofs.answering.answer.Goals as goal

pub returns-in-SetData-clause-answer : goal.returns-in-SetData-clause-answer
returns-in-SetData-clause-answer c =
    subst (λ (b : Body). IfOk c.answer_setting.result
    (λ outcome. outcome.answer ≡ answer_by c.args.outfit.now (knows c.args.entities.now (held_in c.args.held.now)) c.args.request.now c.args.stamp b))
    (sym c.in-SetData.is) c.answer_setting.ensures.answer

pub returns-in-SetData-clause-brought : goal.returns-in-SetData-clause-brought
returns-in-SetData-clause-brought c =
    subst (λ (b : Body). IfOk c.answer_setting.result (λ outcome. unwrap_or outcome.brought no_datums ≡ brought b))
    (sym c.in-SetData.is) c.answer_setting.ensures.brought
