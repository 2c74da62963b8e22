use Rattle.std.proofs.Common.{◌≡◌, ◌-◌, ◌≤◌, rules, sym, ◌∙◌, ap, set, Some}
use Rattle.indexmap.specs.IndexMap.{values}
use Rattle.siman_pdus.specs.Role.{request_id_of}
use Rattle.siman_manager.proofs.Taking.{taken_known, settled_known}
use Rattle.siman_manager.proofs.Tables.{values-with_value_at, keys-written, len-written}
use Rattle.siman_manager.proofs.Quiet.{later-settled}
use Rattle.siman_manager.proofs.TablesStay.{numbered-written, blocks-written}
use Rattle.siman_manager.proofs.settling.take.Goals as goal
use Rattle.std.proofs.Common.{arith}
use Rattle.std.proofs.lemmas.Grind.{common_steps, elements}

pub returns-clause-keys : goal.returns-clause-keys
returns-clause-keys c = keys-written c.args.orders.now c.in-Some-place_of.place c.judge.new.kept

pub returns-clause-len : goal.returns-clause-len
returns-clause-len c = len-written c.args.orders.now c.in-Some-place_of.place c.judge.new.kept

pub returns-clause-answer : goal.returns-clause-answer
returns-clause-answer c =
    let same : c.args.pdu.now.exercise ≡ c.args.settings.now.exercise = search rules in
    let known : request_id_of c.args.pdu.now.body ≡ Some c.in-Some.id = search rules in
    let low : c.args.settings.now.first_id ≤ c.in-Some.id = search rules in
    let at : c.in-Some-place_of.place ≡ c.in-Some.id - c.args.settings.now.first_id = search rules in
    c.judge.ensures.answer ∙ sym (taken_known c.args.settings.now c.args.pdu.now
    (values c.args.orders.now) c.in-Some.id c.in-Some-place_of.place c.index_mut.result.now same known low at c.index_mut.ensures.value)

pub returns-clause-after : goal.returns-clause-after
returns-clause-after c =
    let same : c.args.pdu.now.exercise ≡ c.args.settings.now.exercise = search rules in
    let known : request_id_of c.args.pdu.now.body ≡ Some c.in-Some.id = search rules in
    let low : c.args.settings.now.first_id ≤ c.in-Some.id = search rules in
    let at : c.in-Some-place_of.place ≡ c.in-Some.id - c.args.settings.now.first_id = search rules in
    values-with_value_at c.args.orders.now c.in-Some-place_of.place c.judge.new.kept
    ∙ ap (set (values c.args.orders.now) c.in-Some-place_of.place) c.judge.ensures.after
    ∙ sym (settled_known c.args.settings.now c.args.pdu.now
    (values c.args.orders.now) c.in-Some.id c.in-Some-place_of.place c.index_mut.result.now same known low at c.index_mut.ensures.value)

pub returns-clause-right : goal.returns-clause-right
returns-clause-right c = λ times right. record {
  numbered = numbered-written c.args.settings.now.first_id c.args.orders.now c.in-Some-place_of.place c.judge.new.kept right.numbered;
  blocks =
      blocks-written c.args.settings.now times c.args.orders.now c.in-Some-place_of.place c.index_mut.result.now c.judge.new.kept c.index_mut.ensures.value
      (later-settled c.args.settings.now c.args.pdu.now c.index_mut.result.now c.judge.new.kept c.judge.ensures.after) right.blocks;
}

pub returns-in_default-place_of-clause-answer : goal.returns-in_default-place_of-clause-answer
returns-in_default-place_of-clause-answer c = grind (arith, elements)

pub returns-in_default-place_of-clause-after : goal.returns-in_default-place_of-clause-after
returns-in_default-place_of-clause-after c = grind (arith, common_steps)
