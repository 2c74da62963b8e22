use Rattle.std.proofs.Common.{◌≡◌, ◌+◌, ℕ, take, count_by, cond, ap, ◌∙◌, sym, arith}
use Rattle.indexmap.specs.IndexMap.{values}
use Rattle.siman_manager.specs.Book.{is_given_up}
use Rattle.siman_manager.proofs.Steps.{count-one_more}
use Rattle.siman_manager.proofs.kept.count_given_up.Goals as goal
use Rattle.siman_manager.proofs.kept.count_given_up.Goals.{then-is_given_up, else-is_given_up}

pub loop-place-preserved : goal.loop-place-preserved
loop-place-preserved c =
    let more : count_by is_given_up (take (c.loop-place.place + 1) (values c.args.orders.now)) ≡ count_by is_given_up
    (take c.loop-place.place (values c.args.orders.now)) + cond (is_given_up c.index.result.now) 1 0 =
    count-one_more is_given_up (values c.args.orders.now) c.loop-place.place c.index.result.now c.index.ensures in
    elim c.if-is_given_up.branch [
      | then-is_given_up w ↦
          (let one : ◌≡◌ {A = ℕ} (cond {A = ℕ} (is_given_up c.index.result.now) 1 0) 1 = ap (λ b. cond {A = ℕ} b 1 0)
          (sym c.is_given_up.ensures ∙ w.if-is_given_up.true) in record {
            room = omega arith;
            so_far = omega
                (arith, more, one, w.count-is, c.loop-place.invariant.so_far);
          })
      | else-is_given_up w ↦
          (let none : ◌≡◌ {A = ℕ} (cond {A = ℕ} (is_given_up c.index.result.now) 1 0) 0 = ap (λ b. cond {A = ℕ} b 1 0)
          (sym c.is_given_up.ensures ∙ w.if-is_given_up.false) in record {
            room = omega arith;
            so_far = omega
                (arith, more, none, w.count-is, c.loop-place.invariant.so_far);
          })
    ]
