use Rattle.std.proofs.Common.{◌<◌, length, refl, arith}
use Rattle.std.proofs.lemmas.Option.{slice_get_read}
use Rattle.exercise_findings.specs.declared.states.SingleState.{SingleState}
use Rattle.exercise_findings.specs.States.{held_at, state_in}
use Rattle.exercise_findings.proofs.EntityStates.{state-set, since-set}
use Rattle.exercise_findings.proofs.Columns.{on_ok}
use Rattle.exercise_findings.proofs.states.hold.Goals as goal

pub returns-clause-states : goal.returns-clause-states
unfolding state_in held_at
returns-clause-states c =
    let t = c.args.states.now in
    let pages = c.reach_page.new.pages in
    let old = c.index_mut.result.now in
    let filler : SingleState = record { state = t.rest; since = c.args.number } in
    let held : SingleState = record { state = c.args.state; since = c.args.number } in
    let within : c.from-page.result < length pages.items = omega (arith, pages.ok.0, c.in_ok-reach_page.ensures.within) in
    let at = slice_get_read pages.items (length pages.items) c.from-page.result old refl within c.index_mut.ensures.value in
    on_ok c.put_at.result (λ put. state-set t pages.items old c.put_at.new.page c.args.number c.args.entity c.from-page.result c.from-place.result filler held
    c.requires.up_to refl refl refl c.from-page.ensures c.from-place.ensures at within c.in_ok-reach_page.ensures.held put) c.put_at.ensures

pub returns-clause-up_to : goal.returns-clause-up_to
returns-clause-up_to c =
    let t = c.args.states.now in
    let pages = c.reach_page.new.pages in
    let old = c.index_mut.result.now in
    let filler : SingleState = record { state = t.rest; since = c.args.number } in
    let held : SingleState = record { state = c.args.state; since = c.args.number } in
    let within : c.from-page.result < length pages.items = omega (arith, pages.ok.0, c.in_ok-reach_page.ensures.within) in
    let at = slice_get_read pages.items (length pages.items) c.from-page.result old refl within c.index_mut.ensures.value in
    on_ok c.put_at.result (λ put. record {
      alike = c.requires.up_to.alike;
      moved = c.requires.up_to.moved;
      moved_to = c.requires.up_to.moved_to;
      held = since-set t pages.items old c.put_at.new.page c.args.number c.args.entity c.from-page.result c.from-place.result filler held
          c.requires.up_to refl refl refl c.from-page.ensures c.from-place.ensures at within c.in_ok-reach_page.ensures.held put;
    }) c.put_at.ensures
