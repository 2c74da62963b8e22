use Rattle.std.proofs.Common.{◌≡◌, ◌<◌, List, length, take, slice_index_or, sym, ap, ◌∙◌, subst, arith, cond, None, Some}
use Rattle.std.specs.Prelude.{nat_eq, false}
use Rattle.std.proofs.lemmas.Bool.Decides.{nat_tests}
use Rattle.std.proofs.lemmas.Bool.{eq-eqb}
use Rattle.std.proofs.lemmas.List.{take_more}
use Rattle.std.proofs.lemmas.Option.{slice_get_past}
use Rattle.exercise_model.specs.declared.cause.Cause.TheVariants.{BadLink}
use Rattle.exercise_check.specs.declared.certificate.Step.{Step}
use Rattle.exercise_check.specs.Goodness.{no_step}
use Rattle.exercise_check.specs.Judging.{Keeps}
use Rattle.exercise_check.proofs.Goodness.{good_push}
use Rattle.exercise_check.proofs.Courses.{missing_cause, disordered, ordered, next_ready, next_counts, barred_at, allowed_at}
use Rattle.exercise_check.proofs.checker.take_step.Goals as goal

pub returns-then-place-entry_count-clause-cause : goal.returns-then-place-entry_count-clause-cause
returns-then-place-entry_count-clause-cause g c =
    let r = c.args.found.now in
    let step = slice_index_or c.args.steps.now c.args.at no_step in
    sym (missing_cause r (take c.args.at c.args.steps.now) step
    (slice_get_past r.entries step.place (omega (arith, c.if-place-entry_count.true, rw c.log.ensures at c.entry_count.ensures.count))))

pub returns-then-not-is_next-clause-cause : goal.returns-then-not-is_next-clause-cause
returns-then-not-is_next-clause-cause g c =
    let r = c.args.found.now in
    let before = take c.args.at c.args.steps.now in
    let step = slice_index_or c.args.steps.now c.args.at no_step in
    sym (disordered r before step c.is_next.result
    (omega (arith, c.if-place-entry_count.false, rw c.log.ensures at c.entry_count.ensures.count))
    ((rw c.log-2.ensures at c.is_next.ensures) before c.requires.kept.next) c.if-not-is_next.true)

pub returns-in-Forbidden-clause-cause : goal.returns-in-Forbidden-clause-cause
returns-in-Forbidden-clause-cause g c =
    let r = c.args.found.now in
    let before = take c.args.at c.args.steps.now in
    let step = slice_index_or c.args.steps.now c.args.at no_step in
    let within : step.place < length r.entries = omega (arith, c.if-place-entry_count.false, rw c.log.ensures at c.entry_count.ensures.count) in
    let next = ordered r before step.place c.is_next.result ((rw c.log-2.ensures at c.is_next.ensures) before c.requires.kept.next) c.if-not-is_next.false in
    let judged = (rw c.settle_source.ensures at c.judge.ensures) before c.requires.kept.course c.requires.kept.next
    (next_ready r before step.place c.requires.kept.course.good next) in
    sym (barred_at r before step c.in-Forbidden.cause within next (rw c.in-Forbidden.is at judged))

pub returns-in-Allowed-clause-cause : goal.returns-in-Allowed-clause-cause
returns-in-Allowed-clause-cause g c =
    let r = c.args.found.now in
    let before = take c.args.at c.args.steps.now in
    let step = slice_index_or c.args.steps.now c.args.at no_step in
    let within : step.place < length r.entries = omega (arith, c.if-place-entry_count.false, rw c.log.ensures at c.entry_count.ensures.count) in
    let next = ordered r before step.place c.is_next.result ((rw c.log-2.ensures at c.is_next.ensures) before c.requires.kept.next) c.if-not-is_next.false in
    let judged = (rw c.settle_source.ensures at c.judge.ensures) before c.requires.kept.course c.requires.kept.next
    (next_ready r before step.place c.requires.kept.course.good next) in
    sym (allowed_at r before step c.in-Allowed.link within next (rw c.in-Allowed.is at judged)
    ∙ ap (λ b. cond b None (Some BadLink)) (eq-eqb _ _ (sym c.if-link_number-step.true ∙ c.link_number.ensures)))

pub returns-in-Allowed-clause-kept : goal.returns-in-Allowed-clause-kept
returns-in-Allowed-clause-kept g c =
    let r = c.args.found.now in
    let before = take c.args.at c.args.steps.now in
    let step = slice_index_or c.args.steps.now c.args.at no_step in
    let within : step.place < length r.entries = omega (arith, c.if-place-entry_count.false, rw c.log.ensures at c.entry_count.ensures.count) in
    let next = ordered r before step.place c.is_next.result ((rw c.log-2.ensures at c.is_next.ensures) before c.requires.kept.next) c.if-not-is_next.false in
    let judged = (rw c.settle_source.ensures at c.judge.ensures) before c.requires.kept.course c.requires.kept.next
    (next_ready r before step.place c.requires.kept.course.good next) in
    let none = allowed_at r before step c.in-Allowed.link within next (rw c.in-Allowed.is at judged)
    ∙ ap (λ b. cond b None (Some BadLink)) (eq-eqb _ _ (sym c.if-link_number-step.true ∙ c.link_number.ensures)) in
    let passed = rw (c.log-in-Allowed.ensures, c.settle_source.ensures) at c.pass.ensures in
    subst (λ (xs : List Step). Keeps r xs c.pass.new.cursors) (sym (take_more c.args.steps.now c.args.at no_step c.requires.within)) (record {
      course = record { limits = c.requires.kept.course.limits; good = good_push r before step c.requires.kept.course.good none };
      next = passed before step.link (next_counts r before step.place next) c.requires.kept.next;
    })

pub returns-in-Allowed-2-clause-cause : goal.returns-in-Allowed-2-clause-cause
returns-in-Allowed-2-clause-cause g c =
    let r = c.args.found.now in
    let before = take c.args.at c.args.steps.now in
    let step = slice_index_or c.args.steps.now c.args.at no_step in
    let within : step.place < length r.entries = omega (arith, c.if-place-entry_count.false, rw c.log.ensures at c.entry_count.ensures.count) in
    let next = ordered r before step.place c.is_next.result ((rw c.log-2.ensures at c.is_next.ensures) before c.requires.kept.next) c.if-not-is_next.false in
    let judged = (rw c.settle_source.ensures at c.judge.ensures) before c.requires.kept.course c.requires.kept.next
    (next_ready r before step.place c.requires.kept.course.good next) in
    let linked = allowed_at r before step c.in-Allowed.link within next (rw c.in-Allowed.is at judged) in
    let other : nat_eq step.link c.link_number.result ≡ false = grind (arith, nat_tests) in
    sym (linked ∙ ap (λ n. cond (nat_eq step.link n) None (Some BadLink)) (sym c.link_number.ensures) ∙ ap (λ b. cond b None (Some BadLink)) other)
