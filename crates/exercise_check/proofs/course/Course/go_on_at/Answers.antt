use Rattle.std.proofs.Common.{List, [], ◌∷◌, ◌++◌, sym, ap, ◌∙◌, subst}
use Rattle.exercise_check.specs.declared.certificate.Step.{Step}
use Rattle.exercise_model.specs.Recording.{PlainRecording}
use Rattle.exercise_check.specs.declared.course.Progress.TheVariants.{Taken, Barred}
use Rattle.exercise_check.specs.Course.{CourseData, IsCourse, IsNext}
use Rattle.exercise_check.specs.Judging.{Keeps}
use Rattle.exercise_findings.proofs.Offered.{on_err}
use Rattle.exercise_check.proofs.Goodness.{good_push}
use Rattle.exercise_check.proofs.Courses.{next_ready, next_counts, allows, goes_same, barred_goes, taken_goes, allowed_goes}
use Rattle.exercise_check.proofs.course.Course.go_on_at.Goals as goal

pub invariant_of-self-in-Allowed : goal.invariant_of-self-in-Allowed
invariant_of-self-in-Allowed g c =
    let r = c.self.inside.found in
    let steps = c.self.inside.steps.items in
    let next = subst (λ v. IsNext v c.args.place) (sym c.self.view_is) c.requires.next in
    let judged = (rw c.settle_source.ensures at c.judge.ensures) steps c.self.invariant.course c.self.invariant.next (next_ready r steps c.args.place c.self.invariant.course.good next) in
    let within = rw (← c.self.view_is) at c.requires.within in
    let passed = rw (c.log.ensures, c.settle_source.ensures) at c.pass_at.ensures in
    let good = (allows r steps c.args.place c.in-Allowed.link within next (rw c.in-Allowed.is at judged)).good in
    let items = c.in_ok-push-in-Allowed.ensures.items
    ∙ ap (λ xs. xs ++ record { place = c.args.place; link = c.link_number-link.result } ∷ []) c.in_ok-reserve-in-Allowed.ensures.items in
    subst (λ (r : PlainRecording). Keeps r c.push.new.self.items c.pass_at.new.cursors) (sym c.settle_source.ensures) (record {
      course = record {
        limits = c.self.invariant.course.limits;
        good = rw (items, c.link_number-link.ensures) (good_push r steps _ c.self.invariant.course.good good);
      };
      next = rw items (passed steps _ (next_counts r steps c.args.place next) c.self.invariant.next);
    })

pub returns-in-Forbidden-clause-judged : goal.returns-in-Forbidden-clause-judged
returns-in-Forbidden-clause-judged g c =
    let r = c.self.inside.found in
    let steps = c.self.inside.steps.items in
    let next = subst (λ v. IsNext v c.args.place) (sym c.self.view_is) c.requires.next in
    let judged = (rw c.settle_source.ensures at c.judge.ensures) steps c.self.invariant.course c.self.invariant.next (next_ready r steps c.args.place c.self.invariant.course.good next) in
    rw (← c.self.view_is) (goes_same r steps steps c.settle_source.new.self c.args.place (Barred c.in-Forbidden.cause) (sym c.settle_source.ensures)
    (barred_goes (record { recording = r; steps = steps }) c.args.place c.in-Forbidden.cause (rw c.in-Forbidden.is at judged)))

pub returns-in_err-reserve-in-Allowed-clause-allowed : goal.returns-in_err-reserve-in-Allowed-clause-allowed
returns-in_err-reserve-in-Allowed-clause-allowed g c =
    let r = c.self.inside.found in
    let steps = c.self.inside.steps.items in
    let next = subst (λ v. IsNext v c.args.place) (sym c.self.view_is) c.requires.next in
    let judged = (rw c.settle_source.ensures at c.judge.ensures) steps c.self.invariant.course c.self.invariant.next (next_ready r steps c.args.place c.self.invariant.course.good next) in
    rw (← c.self.view_is) (on_err c.from_residual.result (allowed_goes (record { recording = r; steps = steps }) c.args.place c.in-Allowed.link
    (rw c.in-Allowed.is at judged)))

pub returns-in_ok-push-in-Allowed-clause-judged : goal.returns-in_ok-push-in-Allowed-clause-judged
returns-in_ok-push-in-Allowed-clause-judged g c =
    let r = c.self.inside.found in
    let steps = c.self.inside.steps.items in
    let next = subst (λ v. IsNext v c.args.place) (sym c.self.view_is) c.requires.next in
    let judged = (rw c.settle_source.ensures at c.judge.ensures) steps c.self.invariant.course c.self.invariant.next (next_ready r steps c.args.place c.self.invariant.course.good next) in
    let items = c.in_ok-push-in-Allowed.ensures.items
    ∙ ap (λ xs. xs ++ record { place = c.args.place; link = c.link_number-link.result } ∷ []) c.in_ok-reserve-in-Allowed.ensures.items in
    rw (← c.self.view_is) (goes_same r steps c.push.new.self.items c.settle_source.new.self c.args.place (Taken c.link_number-link.result)
    (sym c.settle_source.ensures)
    (taken_goes (record { recording = r; steps = steps }) (record { recording = r; steps = c.push.new.self.items }) c.args.place
    c.link_number-link.result c.in-Allowed.link c.link_number-link.ensures
    (ap (λ (xs : List Step). let d : CourseData = record { recording = r; steps = xs } in d) items) (rw c.in-Allowed.is at judged)))

pub returns-in_ok-push-in-Allowed-clause-course : goal.returns-in_ok-push-in-Allowed-clause-course
returns-in_ok-push-in-Allowed-clause-course g c =
    let r = c.self.inside.found in
    let steps = c.self.inside.steps.items in
    let next = subst (λ v. IsNext v c.args.place) (sym c.self.view_is) c.requires.next in
    let judged = (rw c.settle_source.ensures at c.judge.ensures) steps c.self.invariant.course c.self.invariant.next (next_ready r steps c.args.place c.self.invariant.course.good next) in
    let within = rw (← c.self.view_is) at c.requires.within in
    let good = (allows r steps c.args.place c.in-Allowed.link within next (rw c.in-Allowed.is at judged)).good in
    let items = c.in_ok-push-in-Allowed.ensures.items
    ∙ ap (λ xs. xs ++ record { place = c.args.place; link = c.link_number-link.result } ∷ []) c.in_ok-reserve-in-Allowed.ensures.items in
    subst (λ (r : PlainRecording). IsCourse (record { recording = r; steps = c.push.new.self.items })) (sym c.settle_source.ensures) (record {
      limits = c.self.invariant.course.limits;
      good = rw (items, c.link_number-link.ensures) (good_push r steps _ c.self.invariant.course.good good);
    })
