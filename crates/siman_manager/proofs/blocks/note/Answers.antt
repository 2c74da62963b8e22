use Rattle.std.proofs.Common.{ℕ, List, [], ◌∷◌, ◌++◌, ◌/◌, length, refl, subst, sym, arith}
use Rattle.std.proofs.lemmas.Option.{slice_get_read}
use Rattle.siman_manager.specs.Blocks.{AreBlocks}
use Rattle.siman_manager.proofs.Quiet.{blocks-begun, blocks-gone_on, lowered-kept, lowered-set}
use Rattle.siman_manager.proofs.blocks.note.Goals as goal

pub returns-then-block-len : goal.returns-then-block-len
returns-then-block-len c = λ s orders kept last quiet are. subst (λ (times : List ℕ). AreBlocks s times (orders ++ kept ∷ [])) (sym c.push_reserved.ensures.items)
    (blocks-begun s c.args.times.now.items orders kept c.args.place c.args.time (omega (arith, c.if-block-len.true, c.len.ensures)) last quiet are)

pub returns-then-time-index : goal.returns-then-time-index
returns-then-time-index c = λ s orders kept last quiet are. blocks-gone_on s c.args.times.now.items _ orders kept c.args.place c.args.time
    (omega (arith, c.if-block-len.false, c.len.ensures)) (lowered-set _ _ _ _ (slice_get_read c.args.times.now.items (length c.args.times.now.items) (c.args.place / 64) c.index.result.now refl (omega (arith, c.if-block-len.false, c.len.ensures)) c.index.ensures) c.if-time-index.true) last quiet are

pub returns-else-time-index : goal.returns-else-time-index
returns-else-time-index c = λ s orders kept last quiet are. blocks-gone_on s c.args.times.now.items _ orders kept c.args.place c.args.time
    (omega (arith, c.if-block-len.false, c.len.ensures)) (lowered-kept _ _ _ _ (slice_get_read c.args.times.now.items (length c.args.times.now.items) (c.args.place / 64) c.index.result.now refl (omega (arith, c.if-block-len.false, c.len.ensures)) c.index.ensures) c.if-time-index.false) last quiet are
