use Rattle.std.proofs.Common.{◌≡◌, ◌+◌, ◌*◌, ℕ, Option, Some, None, MatchOption, slice_get, length, length-set, refl, ap, sym, ◌∙◌, arith}
use Rattle.std.specs.Prelude.{false, is_some}
use Rattle.std.proofs.lemmas.Option.{slice_get_read}
use Rattle.indexmap.specs.IndexMap.{values}
use Rattle.siman_manager.specs.Blocks.{IsRight, ticked_from, repeated_from}
use Rattle.siman_manager.proofs.Tables.{length-values}
use Rattle.siman_manager.proofs.Quiet.{blocks-renewed}
use Rattle.siman_manager.proofs.TablesStay.{right-later}
use Rattle.siman_manager.proofs.Walks.{ticked-block_end, repeated-block_end, quiet-block_end, passes_block, finds_past_block}
use Rattle.siman_manager.proofs.walk.walk.Goals as goal
use Rattle.siman_manager.proofs.walk.walk.Goals.{then-index-now+else-is_some, else-index-now}

match_none : (o : Option ℕ) (A : Type 0) (B : ℕ → Type 0) → is_some o ≡ false → MatchOption o A B → A
match_none None A B e m = m
match_none (Some x) A B e m = absurd cc

pub overflow_mul-first : goal.overflow_mul-first
overflow_mul-first c =
    omega (
      arith,
      c.loop-block-test.true,
      c.len-block-end.ensures,
      c.loop-block.invariant.count,
      c.loop-block.invariant.right.blocks.last_begun,
      length-values c.loop-block.orders,
      c.len-count.ensures.len,
      c.len-count.ensures.small,
    )

pub returns-then-is_some-clause-right : goal.returns-then-is_some-clause-right
returns-then-is_some-clause-right c =
    right-later c.args.settings.now c.loop-block.times.items c.loop-block.orders c.walk_block-sent.new.orders c.walk_block-sent.ensures.keys
    c.walk_block-sent.ensures.len c.walk_block-sent.ensures.later c.loop-block.invariant.right

pub loop-block-preserved : goal.loop-block-preserved
loop-block-preserved c =
    let next : 64 * (c.loop-block.block + 1) ≡ 64 * c.loop-block.block + 64 = omega arith in
    elim c.if-index-now.branch [
      | then-index-now+else-is_some w ↦
          (let right : IsRight c.args.settings.now c.loop-block.times.items w.walk_block-sent.new.orders =
          right-later c.args.settings.now c.loop-block.times.items c.loop-block.orders w.walk_block-sent.new.orders w.walk_block-sent.ensures.keys
          w.walk_block-sent.ensures.len w.walk_block-sent.ensures.later c.loop-block.invariant.right in
          let len : w.len-count.result ≡ length (values w.walk_block-sent.new.orders) =
          w.len-count.ensures.len ∙ sym (length-values w.walk_block-sent.new.orders ∙ w.walk_block-sent.ensures.len) in
          let none : is_some w.walk_block-sent.result ≡ false = sym w.is_some.ensures ∙ w.if-is_some.false in
          rw (w.orders-is, w.times-is) (record {
            right = record {
              numbered = right.numbered;
              blocks =
                  blocks-renewed c.args.settings.now c.loop-block.times.items (values w.walk_block-sent.new.orders) c.loop-block.block
                  w.all_quiet_until.result right.blocks
                  (quiet-block_end c.args.settings.now w.all_quiet_until.result (64 * c.loop-block.block) w.len-count.result w.end_of-end.result
                  (values w.walk_block-sent.new.orders) w.end_of-end.ensures.whole len w.all_quiet_until.ensures);
            };
            count = length-set c.loop-block.times.items c.loop-block.block w.all_quiet_until.result ∙ c.loop-block.invariant.count;
            after =
                ticked-block_end c.args.settings.now c.args.now c.args.stamp (64 * c.loop-block.block) w.len-count.result w.end_of-end.result
                (64 * (c.loop-block.block + 1)) (values w.walk_block-sent.new.orders) w.end_of-end.ensures.whole len next
                ∙ match_none w.walk_block-sent.result _ _ none w.walk_block-sent.ensures.after
                ∙ c.loop-block.invariant.after;
            sent =
                repeated-block_end c.args.settings.now c.args.now c.args.stamp (64 * c.loop-block.block) w.len-count.result w.end_of-end.result
                (64 * (c.loop-block.block + 1)) (values w.walk_block-sent.new.orders) w.end_of-end.ensures.whole len next
                ∙ match_none w.walk_block-sent.result _ _ none w.walk_block-sent.ensures.sent
                ∙ c.loop-block.invariant.sent;
          }))
      | else-index-now w ↦
          (let at : slice_get c.loop-block.times.items c.loop-block.block ≡ Some c.index.result.now =
          slice_get_read c.loop-block.times.items (length c.loop-block.times.items) c.loop-block.block c.index.result.now refl
          (omega (arith, c.loop-block-test.true, c.len-block-end.ensures, c.loop-block.invariant.count)) c.index.ensures in
          rw (w.orders-is, w.times-is) (record {
            right = c.loop-block.invariant.right;
            count = c.loop-block.invariant.count;
            after =
                ap (λ (i : ℕ). ticked_from c.args.settings.now c.args.now c.args.stamp i (values c.loop-block.orders)) next
                ∙ passes_block c.args.settings.now c.args.now c.args.stamp c.loop-block.block c.index.result.now c.loop-block.times.items
                (values c.loop-block.orders) c.loop-block.invariant.right.blocks at w.if-index-now.false
                ∙ c.loop-block.invariant.after;
            sent =
                ap (λ (i : ℕ). repeated_from c.args.settings.now c.args.now c.args.stamp i (values c.loop-block.orders)) next
                ∙ finds_past_block c.args.settings.now c.args.now c.args.stamp c.loop-block.block c.index.result.now c.loop-block.times.items
                (values c.loop-block.orders) c.loop-block.invariant.right.blocks at w.if-index-now.false
                ∙ c.loop-block.invariant.sent;
          }))
    ]
