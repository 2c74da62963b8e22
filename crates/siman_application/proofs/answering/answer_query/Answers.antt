use Rattle.std.proofs.Common.{◌≡◌, [], ap, ◌∙◌}
use Rattle.siman_application.specs.Answer.{data_answer, held_records}
use Rattle.siman_application.specs.Holding.{Holding, held_in, stored_in}
use Rattle.siman_application.specs.Knows.{knows}
use Rattle.siman_application.proofs.DataThatFits.{as_fits}
use Rattle.siman_application.proofs.NothingStored.{stored_nothing}
use Rattle.siman_application.proofs.answering.answer_query.Goals as goal

pub returns : goal.returns
returns c =
    let a = c.args in
    let same : stored_in (held_in c.new-none.result) (held_in a.held.now) ≡ held_in a.held.now =
    ap (λ (came : Holding). stored_in came (held_in a.held.now)) c.new-none.ensures ∙ stored_nothing (held_in a.held.now) in
    c.answer_data.ensures
    ∙ as_fits a.outfit.now a.request.now a.stamp a.id c.in_ok-datums.datums (held_records (knows [] (stored_in (held_in c.new-none.result) (held_in a.held.now))) a.ids.now) c.in_ok-datums.ensures
    ∙ ap (λ (h : Holding). data_answer a.outfit.now a.request.now a.stamp a.id (held_records (knows [] h) a.ids.now)) same
