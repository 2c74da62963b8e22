use Rattle.std.proofs.Common.{◌≡◌, ◌-◌, length, drop, get_or, sym, ap, ◌∙◌, arith}
use Rattle.std.specs.Prelude.{nat_eq, if◌then◌else◌}
use Rattle.std.proofs.lemmas.List.{get_or_default}
use Rattle.dis_records.specs.declared.entity_state.EntityState.TheVariants.{Absent}
use Rattle.exercise_model.specs.Station.{listed_state}
use Rattle.exercise_findings.proofs.Tied.{listed-more}
use Rattle.exercise_findings.proofs.states.opening_states.Goals as goal

pub loop-done-preserved : goal.loop-done-preserved
loop-done-preserved c =
    let xs = c.args.station.now.opening in
    let ys = c.opening-opening.result.now in
    let same : ys ≡ xs = c.opening-opening.ensures.items in
    let i = length ys - 1 - c.loop-done.done in
    let x = get_or ys i (0, Absent) in
    let at : x ≡ get_or xs i x = ap (λ zs. get_or zs i (0, Absent)) same ∙ get_or_default xs i (0, Absent) x
    (omega (arith, c.loop-done-test.true, ap length same)) in
    record {
      up_to = c.in_ok-hold.ensures.up_to;
      states = λ e. c.in_ok-hold.ensures.states e ∙ ap (λ y. if nat_eq x.0 e then x.1 else y) (c.loop-done.invariant.states e)
          ∙ sym (listed-more xs i c.loop-done.done x e at (omega (arith, c.loop-done-test.true, ap length same)) (omega (arith, ap length same)));
    }

pub returns-clause-states : goal.returns-clause-states
returns-clause-states c =
    let xs = c.args.station.now.opening in
    let none : length xs - c.loop-done.done ≡ 0 = omega (arith, c.loop-done-test.false, ap length c.opening-opening.ensures.items) in
    λ e. c.loop-done.invariant.states e ∙ ap (λ n. listed_state (drop n xs) e) none
