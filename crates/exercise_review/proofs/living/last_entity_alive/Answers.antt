use Rattle.std.proofs.Common.{◌≤◌, length, arith}
use Rattle.std.proofs.lemmas.List.{get_or_past}
use Rattle.dis_records.specs.declared.entity_state.EntityState.TheVariants.{Absent}
use Rattle.exercise_review.proofs.Unused.{none_living}
use Rattle.exercise_review.proofs.living.last_entity_alive.Goals as goal

pub returns-then-course-lt-LARGEST_ENTITY-clause-none : goal.returns-then-course-lt-LARGEST_ENTITY-clause-none
returns-then-course-lt-LARGEST_ENTITY-clause-none c = λ e above within.
    let course = c.args.course.now in
    let far : length course.changes.now ≤ c.next_change_of_all.result = omega (arith, c.if-next_change_of_all-course.false) in
    none_living course e c.next_change_of_all.result (get_or_past course.starts.items e Absent (omega (arith, above, c.requires.starts)))
    (λ i l. c.requires.numbers e i above l) c.next_change_of_all.ensures far
