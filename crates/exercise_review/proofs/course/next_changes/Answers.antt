use Rattle.std.proofs.Common.{◌-◌, ◌+◌, ◌≡◌, length, sym, ap, ◌∙◌, subst, arith}
use Rattle.std.proofs.lemmas.List.{length-replicate}
use Rattle.exercise_review.specs.Course.{is_change_of_all_in, AreNextIn}
use Rattle.exercise_review.proofs.Courses.{next_none, next_more}
use Rattle.exercise_review.proofs.course.next_changes.Goals as goal

pub loop-done-init : goal.loop-done-init
loop-done-init c =
    let start : c.end_of_changes-count.result ≡ c.end_of_changes-count.result - 0 = omega arith in
    let items = c.in_ok-places.ensures.items_if_clones_equal (λ y same. same) in
    record {
      count = ap length items ∙ length-replicate _ _;
      next = subst (λ a. AreNextIn (is_change_of_all_in c.args.state) c.args.changes.now a c.in_ok-places.places.items) start
          (next_none (is_change_of_all_in c.args.state) c.args.changes.now c.end_of_changes-count.result _ c.end_of_changes-count.ensures.within c.end_of_changes-count.ensures.none items);
    }

pub next_change-next-requires-clause-behind : goal.next_change-next-requires-clause-behind
next_change-next-requires-clause-behind c =
    let on : c.end_of_changes-count.result - c.loop-done.done ≡ c.end_of_changes-count.result - 1 - c.loop-done.done + 1 = omega (arith, c.loop-done-test.true) in
    subst (AreNextIn (is_change_of_all_in c.args.state) c.args.changes.now (c.end_of_changes-count.result - 1 - c.loop-done.done + 1)) (sym c.deref.ensures.value)
    (subst (λ a. AreNextIn (is_change_of_all_in c.args.state) c.args.changes.now a c.loop-done.places.items) on c.loop-done.invariant.next)

pub loop-done-preserved : goal.loop-done-preserved
loop-done-preserved c =
    let ms = c.args.changes.now in
    let n = c.end_of_changes-count.result in
    let here : n - 1 - c.loop-done.done ≡ n - (c.loop-done.done + 1) = omega (arith, c.loop-done-test.true) in
    record {
      count = c.put.ensures.count ∙ c.loop-done.invariant.count;
      next = subst (λ a. AreNextIn (is_change_of_all_in c.args.state) ms a c.put.new.places.items) here
          (next_more (is_change_of_all_in c.args.state) ms (n - c.loop-done.done) (n - 1 - c.loop-done.done) c.next_change-next.result c.loop-done.places.items
          c.put.new.places.items (omega (arith, c.loop-done-test.true)) (c.put.ensures.each (length ms)) c.next_change-next.ensures c.loop-done.invariant.next);
    }

pub returns : goal.returns
returns c =
    let end : c.end_of_changes-count.result - c.loop-done.done ≡ 0 = omega (arith, c.loop-done-test.false) in
    subst (λ a. AreNextIn (is_change_of_all_in c.args.state) c.args.changes.now a c.loop-done.places.items) end c.loop-done.invariant.next
