use Rattle.std.proofs.Common.{◌≡◌, ◌+◌, ◌-◌, length, drop, get_or, refl, sym, ap, ◌∙◌, arith}
use Rattle.std.specs.Prelude.{nat_eq, if◌then◌else◌}
use Rattle.std.proofs.lemmas.List.{get_or_default, length-replicate}
use Rattle.dis_records.specs.declared.entity_state.EntityState.TheVariants.{Absent}
use Rattle.exercise_model.specs.Station.{listed_state}
use Rattle.exercise_review.proofs.Courses.{none_start, listed-more}
use Rattle.exercise_review.proofs.course.starts_of.Goals as goal

pub loop-done-init : goal.loop-done-init
loop-done-init c =
    let items = c.in_ok-starts.ensures.items_if_clones_equal (λ y same. same) in
    record {
      count = ap length items ∙ length-replicate _ Absent ∙ ap (λ n. n + 1) c.from.ensures;
      each = λ e. none_start c.args.opening.now _ _ e items;
    }

pub loop-done-preserved : goal.loop-done-preserved
loop-done-preserved c =
    let xs = c.args.opening.now in
    let i = length xs - 1 - c.loop-done.done in
    let x = get_or xs i (0, Absent) in
    let at : x ≡ get_or xs i x = get_or_default xs i (0, Absent) x (omega (arith, c.loop-done-test.true)) in
    record {
      count = c.start.ensures.count ∙ c.loop-done.invariant.count;
      each = λ e. c.start.ensures.each e ∙ ap (λ y. if nat_eq x.0 e then x.1 else y) (c.loop-done.invariant.each e)
          ∙ sym (listed-more xs i c.loop-done.done x e at c.loop-done-test.true refl);
    }

pub returns-clause-each : goal.returns-clause-each
returns-clause-each c =
    let xs = c.args.opening.now in
    let none : length xs - c.loop-done.done ≡ 0 = omega (arith, c.loop-done-test.false) in
    λ e. c.loop-done.invariant.each e ∙ ap (λ n. listed_state (drop n xs) e) none
