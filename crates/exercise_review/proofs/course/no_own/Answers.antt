use Rattle.std.proofs.Common.{◌+◌, length, replicate, refl, ap, ◌∙◌}
use Rattle.exercise_review.proofs.Courses.{own_starts}
use Rattle.exercise_review.proofs.course.no_own.Goals as goal

pub returns : goal.returns
returns c =
    let ms = c.args.changes.now in
    own_starts ms c.args.last _ _ refl
    (c.in_ok-vec.ensures.items_if_clones_equal (λ y same. same) ∙ ap (λ n. replicate (n + 1) (length ms)) c.from.ensures)
    (c.in_ok-vec-2.ensures.items_if_clones_equal (λ y same. same))
