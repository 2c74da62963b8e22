use Rattle.std.proofs.Common.{[], ap, ◌∙◌}
use Rattle.siman_pdus.specs.DatumLists.{IdLists}
use Rattle.siman_application.specs.Answer.{data_answer, held_records, ids_of}
use Rattle.siman_application.specs.Holding.{Holding, held_in, stored_in}
use Rattle.siman_application.specs.Knows.{knows}
use Rattle.siman_application.proofs.DataThatFits.{as_fits}
use Rattle.siman_application.proofs.answering.set_data_answer.Goals as goal

pub returns : goal.returns
returns c =
    let a = c.args in
    let held = held_in a.held.now in
    c.answer_data.ensures
    ∙ as_fits a.outfit.now a.request.now a.stamp a.id c.in_ok-datums.datums (held_records (knows [] (stored_in (held_in c.in_ok-others.others) held)) c.in_ok-ids.ids) c.in_ok-datums.ensures
    ∙ ap (λ (ids : IdLists). data_answer a.outfit.now a.request.now a.stamp a.id (held_records (knows [] (stored_in (held_in c.in_ok-others.others) held)) ids)) c.in_ok-ids.ensures
    ∙ ap (λ (came : Holding). data_answer a.outfit.now a.request.now a.stamp a.id (held_records (knows [] (stored_in came held)) (ids_of a.came.now))) c.in_ok-others.ensures
