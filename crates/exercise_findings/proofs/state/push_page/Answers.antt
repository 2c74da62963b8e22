use Rattle.std.proofs.Common.{◌≡◌, ◌+◌, ◌*◌, false, rules, sym, ap, ◌∙◌, arith}
use Rattle.dis_records.specs.declared.entity_state.EntityState.TheVariants.{Absent}
use Rattle.exercise_model.specs.State.{present_below}
use Rattle.exercise_findings.specs.States.{has_page, state_or_absent}
use Rattle.exercise_findings.proofs.Reported.{none_there, present-absent, present-next}
use Rattle.exercise_findings.proofs.state.push_page.Goals as goal

pub returns-then-not-has_page : goal.returns-then-not-has_page
returns-then-not-has_page c =
    let t = c.args.states.now in
    let page = c.args.page in
    let none : has_page t.pages.items page ≡ false =
    sym (ap (λ pages. has_page pages page) c.deref.ensures.value) ∙ sym c.has_page.ensures ∙ c.if-not-has_page.true in
    let absent : t.rest ≡ Absent = search rules in
    let end : page * 256 + 256 ≡ (page + 1) * 256 = omega arith in
    c.requires.so_far ∙ sym (present-absent (state_or_absent t) (page * 256) 256
    (λ e from to. none_there t page absent none e from (omega (arith, to)))) ∙ ap (present_below (state_or_absent t)) end

pub loop-place-preserved : goal.loop-place-preserved
loop-place-preserved c =
    present-next (state_or_absent c.args.states.now) (c.args.page * 256 + c.loop-place.place) _ c.state_or_absent.result c.loop-place.entities.items _
    (omega arith) c.state_or_absent.ensures c.loop-place.invariant c.in_ok-push_present.ensures
