use Rattle.std.proofs.Common.{◌≡◌, ℕ, ◌<◌, length, sym, ap, ◌∙◌, arith}
use Rattle.std.specs.Prelude.{nat_eq, if◌then◌else◌, slice_index_or}
use Rattle.std.proofs.lemmas.List.{get_or_default}
use Rattle.dis_records.specs.declared.entity.Scope.TheVariants.{One}
use Rattle.exercise_review.proofs.Courses.{own_more, up_to}
use Rattle.exercise_review.proofs.course.note_own.Goals as goal

pub index-next-requires : goal.index-next-requires
index-next-requires c =
    omega (
      arith,
      up_to c.args.changes.now c.args.last c.args.place c.in-One.entity c.requires.numbers c.requires.within c.in-One.is,
      c.from-number.ensures,
      c.requires.behind.numbers,
    )

pub put-requires-in-One : goal.put-requires-in-One
put-requires-in-One c =
    omega (
      arith,
      up_to c.args.changes.now c.args.last c.args.place c.in-One.entity c.requires.numbers c.requires.within c.in-One.is,
      c.from-number.ensures,
      c.requires.behind.numbers,
    )

pub returns-in-One : goal.returns-in-One
returns-in-One c =
    let ms = c.args.changes.now in
    let old = c.args.own.now in
    let n : ℕ = c.from-number.result in
    let within : n < length old.first.items =
    omega (arith, up_to ms c.args.last c.args.place c.in-One.entity c.requires.numbers c.requires.within c.in-One.is, c.from-number.ensures, c.requires.behind.numbers) in
    let next : c.index-next.result.now ≡ slice_index_or old.first.items n (length ms) =
    c.index-next.ensures ∙ get_or_default old.first.items n c.index-next.result.now (length ms) within in
    own_more ms c.args.last c.args.place n old _ (c.in-One.is ∙ ap One (sym c.from-number.ensures)) c.requires.within
    c.put-in-One.ensures.count c.put.ensures.count
    (c.put-in-One.ensures.each (length ms))
    (λ j. c.put.ensures.each 0 j ∙ ap (λ x. if nat_eq j c.args.place then x else slice_index_or old.next.items j 0) next)
    c.requires.behind
