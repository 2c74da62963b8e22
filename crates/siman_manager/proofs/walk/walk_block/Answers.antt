use Rattle.std.proofs.Common.{◌≡◌, ℕ, suc, refl, ap, sym, ◌∙◌, subst, arith, add-one, slice_get, option_map}
use Rattle.indexmap.specs.IndexMap.{values, with_value_at}
use Rattle.siman_manager.specs.declared.kept.MadeOrder.{MadeOrder}
use Rattle.siman_manager.specs.Book.{is_ready, looked_at, with_stamp}
use Rattle.siman_manager.specs.Blocks.{AreLater, ticked_from, repeated_from}
use Rattle.siman_manager.proofs.Steps.{ends_here, sent_here, goes_on, finds_on}
use Rattle.siman_manager.proofs.Tables.{values-with_value_at, keys-written, len-written}
use Rattle.siman_manager.proofs.Quiet.{later-same, later-both, later-set, later-looked}
use Rattle.siman_manager.proofs.walk.walk_block.Goals as goal

pub loop-place-init : goal.loop-place-init
loop-place-init c = record { keys = refl; len = refl; later = later-same c.args.settings.now (values c.args.orders.now); after = refl; sent = refl }

pub index_mut-requires : goal.index_mut-requires
index_mut-requires c = omega (arith, c.loop-place-test.true, c.loop-place.invariant.len, c.requires.within)

pub returns-then-look-clause-keys : goal.returns-then-look-clause-keys
returns-then-look-clause-keys c = keys-written c.loop-place.orders c.loop-place.place c.look.new.kept ∙ c.loop-place.invariant.keys

pub returns-then-look-clause-len : goal.returns-then-look-clause-len
returns-then-look-clause-len c = len-written c.loop-place.orders c.loop-place.place c.look.new.kept ∙ c.loop-place.invariant.len

pub returns-then-look-clause-later : goal.returns-then-look-clause-later
returns-then-look-clause-later c =
    later-both c.args.settings.now (values c.args.orders.now) (values c.loop-place.orders)
    (values (with_value_at c.loop-place.orders c.loop-place.place c.look.new.kept)) c.loop-place.invariant.later
    (subst (AreLater c.args.settings.now (values c.loop-place.orders)) (sym (values-with_value_at c.loop-place.orders c.loop-place.place c.look.new.kept))
    (later-set c.args.settings.now (values c.loop-place.orders) c.loop-place.place c.index_mut.result.now c.look.new.kept c.index_mut.ensures.value
    (later-looked c.args.settings.now c.args.now c.args.stamp c.index_mut.result.now c.look.new.kept c.look.ensures.after)))

pub returns-then-look-clause-after : goal.returns-then-look-clause-after
returns-then-look-clause-after c =
    values-with_value_at c.loop-place.orders c.loop-place.place c.look.new.kept
    ∙ ends_here (is_ready c.args.settings.now c.args.now) (looked_at c.args.settings.now c.args.now c.args.stamp)
    (values c.loop-place.orders) c.loop-place.place c.index_mut.result.now c.look.new.kept
    c.index_mut.ensures.value (sym c.look.ensures.answer ∙ c.if-look.true) c.look.ensures.after
    ∙ c.loop-place.invariant.after

pub returns-then-look-clause-sent : goal.returns-then-look-clause-sent
returns-then-look-clause-sent c =
    ap (λ xs. option_map (λ (k : MadeOrder). k.pdu) (slice_get xs c.loop-place.place))
    (values-with_value_at c.loop-place.orders c.loop-place.place c.look.new.kept)
    ∙ sent_here c.args.settings.now c.args.now c.args.stamp (values c.loop-place.orders) c.loop-place.place c.index_mut.result.now c.look.new.kept
    c.index_mut.ensures.value (sym c.look.ensures.answer ∙ c.if-look.true) c.look.ensures.after
    ∙ c.loop-place.invariant.sent

pub returns-then-look-clause-within : goal.returns-then-look-clause-within
returns-then-look-clause-within c =
    omega
    (arith, len-written c.loop-place.orders c.loop-place.place c.look.new.kept, c.loop-place-test.true, c.loop-place.invariant.len, c.requires.within)

pub loop-place-preserved : goal.loop-place-preserved
loop-place-preserved c = record {
  keys = keys-written c.loop-place.orders c.loop-place.place c.look.new.kept ∙ c.loop-place.invariant.keys;
  len = len-written c.loop-place.orders c.loop-place.place c.look.new.kept ∙ c.loop-place.invariant.len;
  later =
      later-both c.args.settings.now (values c.args.orders.now) (values c.loop-place.orders)
      (values (with_value_at c.loop-place.orders c.loop-place.place c.look.new.kept)) c.loop-place.invariant.later
      (subst (AreLater c.args.settings.now (values c.loop-place.orders)) (sym (values-with_value_at c.loop-place.orders c.loop-place.place c.look.new.kept))
      (later-set c.args.settings.now (values c.loop-place.orders) c.loop-place.place c.index_mut.result.now c.look.new.kept c.index_mut.ensures.value
      (later-looked c.args.settings.now c.args.now c.args.stamp c.index_mut.result.now c.look.new.kept c.look.ensures.after)));
  after =
      ap (λ i. ticked_from c.args.settings.now c.args.now c.args.stamp i (values (with_value_at c.loop-place.orders c.loop-place.place c.look.new.kept)))
      (add-one c.loop-place.place)
      ∙ ap (ticked_from c.args.settings.now c.args.now c.args.stamp (suc c.loop-place.place))
      (values-with_value_at c.loop-place.orders c.loop-place.place c.look.new.kept)
      ∙ goes_on (is_ready c.args.settings.now c.args.now) (looked_at c.args.settings.now c.args.now c.args.stamp)
      (values c.loop-place.orders) c.loop-place.place c.index_mut.result.now c.look.new.kept
      c.index_mut.ensures.value (sym c.look.ensures.answer ∙ c.if-look.false) c.look.ensures.after
      ∙ c.loop-place.invariant.after;
  sent =
      ap (λ i. repeated_from c.args.settings.now c.args.now c.args.stamp i (values (with_value_at c.loop-place.orders c.loop-place.place c.look.new.kept)))
      (add-one c.loop-place.place)
      ∙ ap (repeated_from c.args.settings.now c.args.now c.args.stamp (suc c.loop-place.place))
      (values-with_value_at c.loop-place.orders c.loop-place.place c.look.new.kept)
      ∙ ap (option_map (λ (k : MadeOrder). with_stamp c.args.stamp k.pdu))
      (finds_on (is_ready c.args.settings.now c.args.now) (values c.loop-place.orders) c.loop-place.place c.index_mut.result.now c.look.new.kept
      c.index_mut.ensures.value (sym c.look.ensures.answer ∙ c.if-look.false))
      ∙ c.loop-place.invariant.sent;
}

pub returns-clause-after : goal.returns-clause-after
returns-clause-after c =
    let at_end : c.args.end ≡ c.loop-place.place = omega (arith, c.loop-place-test.false, c.loop-place.auto.place-end, c.requires.order) in
    ap (λ (i : ℕ). ticked_from c.args.settings.now c.args.now c.args.stamp i (values c.loop-place.orders)) at_end ∙ c.loop-place.invariant.after

pub returns-clause-sent : goal.returns-clause-sent
returns-clause-sent c =
    let at_end : c.args.end ≡ c.loop-place.place = omega (arith, c.loop-place-test.false, c.loop-place.auto.place-end, c.requires.order) in
    ap (λ (i : ℕ). repeated_from c.args.settings.now c.args.now c.args.stamp i (values c.loop-place.orders)) at_end ∙ c.loop-place.invariant.sent
