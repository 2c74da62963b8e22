use Rattle.std.proofs.Common.{◌++◌, map, sym, ap, ◌∙◌, append-nil}
use Rattle.exercise_review.specs.Stay.{stay_of}
use Rattle.exercise_review.proofs.stays.push_entity.Goals as goal

pub returns-else-has_possible_life : goal.returns-else-has_possible_life
returns-else-has_possible_life c =
    let old = c.args.stays.now.items in
    (sym (append-nil old) ∙ ap (λ xs. old ++ map (stay_of c.args.station c.args.entity) xs) (sym (c.has_possible_life.ensures c.if-has_possible_life.false)), c.requires.room)
