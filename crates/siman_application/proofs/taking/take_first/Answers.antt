use Rattle.std.proofs.Common.{◌≡◌, ◌++◌, ◌∷◌, [], ◌∙◌, ap, ℕ, List, length, Some}
use Rattle.std.specs.Prelude.{slice_get, option_map}
use Rattle.std.specs.Map.{values_of}
use Rattle.siman_application.specs.declared.kept.RequestKey.{RequestKey}
use Rattle.indexmap.specs.IndexMap.{values}
use Rattle.siman_pdus.specs.declared.pdu.Pdu.{Pdu}
use Rattle.siman_pdus.specs.DatumLists.{DatumLists}
use Rattle.siman_application.specs.declared.kept.AnsweredRequest.{AnsweredRequest}
use Rattle.siman_application.specs.Answer.{Knowledge, answer, result_of}
use Rattle.siman_application.specs.Holding.{Holding, held_in}
use Rattle.siman_application.specs.Knows.{knows}
use Rattle.siman_application.proofs.TablesStay.{kept_one, right_more, requests_more, given_first}
use Rattle.siman_application.proofs.taking.take_first.Goals as goal
use Rattle.std.proofs.Common.{arith}
use Rattle.std.proofs.lemmas.Grind.{common_steps}

kept : (c : goal.After-store)
    → c.keep-place.new.kept.entries ≡ c.args.kept.now.entries ++ (c.key_of.result, record { request = c.args.pdu.now; answer = c.in_ok-outcome.outcome.answer }) ∷ []
kept c =
    kept_one c.args.kept.now c.reserve.new.self c.keep-place.new.kept c.key_of.result c.args.pdu.now c.in_ok-request.request c.in_ok-outcome.outcome.answer
    c.keep-place.ensures.kept c.reserve.ensures.entries c.in_ok-request.ensures

pub returns-clause-right : goal.returns-clause-right
returns-clause-right c =
    right_more c.args.outfit.now c.args.kept.now c.keep-place.new.kept c.args.entities.now c.answer_and_obey.new.entities (held_in c.args.held.now) (held_in c.store.new.held) c.key_of.result c.args.pdu.now c.in_ok-outcome.outcome.answer c.args.stamp
    c.requires.right c.requires.own c.key_of.ensures c.requires.first c.numbers_are_in_range.ensures c.in_ok-outcome.ensures.answer
    (kept c) c.in_ok-outcome.ensures.obeyed
    (λ xs. ap (λ (h : Holding). knows xs h) c.store.ensures
    ∙ ap (λ (d : DatumLists). result_of d (knows xs (held_in c.args.held.now))) c.in_ok-outcome.ensures.brought)

pub returns-clause-came : goal.returns-clause-came
returns-clause-came c =
    requests_more c.args.kept.now c.keep-place.new.kept c.key_of.result (record { request = c.args.pdu.now; answer = c.in_ok-outcome.outcome.answer }) (kept c)

pub returns-clause-answer : goal.returns-clause-answer
returns-clause-answer c =
    ap (λ (i : ℕ). option_map (λ (k : AnsweredRequest). k.answer) (slice_get (values c.keep-place.new.kept) i))
    (c.keep-place.ensures.place ∙ ap (λ (es : List (RequestKey × AnsweredRequest)). length (values_of es)) c.reserve.ensures.entries)
    ∙ given_first c.args.kept.now c.keep-place.new.kept c.key_of.result (record { request = c.args.pdu.now; answer = c.in_ok-outcome.outcome.answer }) (kept c)
    ∙ ap (λ (p : Pdu). Some p) (c.in_ok-outcome.ensures.answer ∙ ap
    (λ (k : Knowledge). answer c.args.outfit.now k c.args.pdu.now c.args.stamp) c.requires.right.known_is)

pub returns-clause-within : goal.returns-clause-within
returns-clause-within c = grind (arith, common_steps) steps 2000000
