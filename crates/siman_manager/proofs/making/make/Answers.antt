use Rattle.std.proofs.Common.{◌≡◌, ℕ, ◌+◌, List, [], ◌∷◌, ◌++◌, length, ◌∙◌, ap, sym, subst, add-one, rules}
use Rattle.indexmap.specs.IndexMap.{values, index_map_len}
use Rattle.siman_pdus.specs.declared.pdu.Pdu.{Pdu}
use Rattle.siman_manager.specs.declared.kept.MadeOrder.{MadeOrder}
use Rattle.siman_manager.specs.Table.{numbers_from}
use Rattle.siman_manager.specs.Book.{new_order, order_pdu, next_id}
use Rattle.siman_manager.specs.Blocks.{AreBlocks}
use Rattle.siman_manager.proofs.Tables.{InsertsNext, made_next, length-values}
use Rattle.siman_manager.proofs.making.make.Goals as goal

next : (c : goal.After-note)
    → InsertsNext c.args.settings.now.first_id c.args.orders.now.entries c.insert.new.self.entries (new_order c.order_pdu-pdu.result c.args.now)
next c =
    let id : c.in-Some.id ≡ c.args.settings.now.first_id + index_map_len c.args.orders.now = search rules in
    made_next c.args.settings.now.first_id c.in-Some.id c.args.orders.now c.insert.new.self
    (new_order c.order_pdu-pdu.result c.args.now) c.requires.numbered id c.in_ok-insert.ensures.entries

pub returns-clause-right : goal.returns-clause-right
returns-clause-right c = record {
  numbered = (next c).keys ∙ ap (numbers_from c.args.settings.now.first_id) (sym (next c).len);
  blocks =
      subst (λ (orders : List MadeOrder). AreBlocks c.args.settings.now c.note.new.times.items orders) (sym (next c).values)
      (c.note.ensures c.args.settings.now (values c.args.orders.now) (new_order c.order_pdu-pdu.result c.args.now)
      (length-values c.args.orders.now ∙ sym c.len-place.ensures.len) c.quiet_until-time.ensures
      (subst (λ (times : List ℕ). AreBlocks c.args.settings.now times (values c.args.orders.now)) (sym c.in_ok-reserve.ensures.items) c.requires.blocks));
}

pub returns-clause-made : goal.returns-clause-made
returns-clause-made c =
    let id : c.in-Some.id ≡ c.args.settings.now.first_id + index_map_len c.args.orders.now = search rules in
    let same : c.in-Some.id ≡ next_id c.args.settings.now (length (values c.args.orders.now)) = id ∙ ap (λ n. c.args.settings.now.first_id + n)
    (sym (length-values c.args.orders.now)) in
    let pdu : c.order_pdu-pdu.result ≡ order_pdu c.args.settings.now c.in-Some.id c.args.order c.args.stamp = search rules in
    (next c).values ∙ ap (λ (p : Pdu). values c.args.orders.now ++ new_order p c.args.now ∷ [])
    (pdu ∙ ap (λ (i : ℕ). order_pdu c.args.settings.now i c.args.order c.args.stamp) same)

pub returns-clause-len : goal.returns-clause-len
returns-clause-len c = (next c).len ∙ sym (add-one (index_map_len c.args.orders.now))
