use Rattle.std.proofs.Common.{◌≤◌, length, sym, ◌∙◌, arith}
use Rattle.std.proofs.lemmas.Bool.{ltb-false}
use Rattle.exercise_review.proofs.Courses.{none_lived}
use Rattle.exercise_review.proofs.living.has_possible_life.Goals as goal

pub returns-in-Absent : goal.returns-in-Absent
returns-in-Absent c = λ none.
    let end : length c.args.course.now.changes.now ≤ c.stay_end.result = ltb-false c.stay_end.result (length c.args.course.now.changes.now) none in
    none_lived c.args.course.now c.args.entity (sym c.start.ensures ∙ c.in-Absent.is) (λ i l m. c.stay_end.ensures.still i l (omega (arith, m, end)))
