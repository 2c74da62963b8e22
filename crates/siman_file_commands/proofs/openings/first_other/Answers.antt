-- One opening list after the other.
use Rattle.std.proofs.Common.{◌≡◌, ◌+◌, drop, sym, ap, ◌∙◌}
use Rattle.exercise_findings.specs.State.{PlaceBefore}
use Rattle.siman_file_commands.specs.Openings.{other_with, first_other, other_entity}
use Rattle.siman_file_commands.proofs.LaterOpenings.{other_found, next_other}
use Rattle.siman_file_commands.proofs.openings.first_other.Goals as goal

pub returns-in-Some : goal.returns-in-Some
returns-in-Some g c =
    let r = g.L.ExerciseLog.recording c.args.log.now in
    let o = c.opening-item.result in
    let found : c.in_ok-entity.field-0 ≡ other_entity r o =
    other_found r o c.entry_within.result c.in_ok-entity.field-0 (rw c.entry.ensures at c.entry_within.ensures.same) (rw c.in_ok-states-2.ensures at c.in_ok-entity.ensures) in
    let rest = first_other r (drop (c.loop-opening.opening-index + 1) c.args.later.now) in
    rw (c.piece.ensures, c.address.ensures)
    (sym (next_other r c.args.later.now c.loop-opening.opening-index o c.in_ok-entity.field-0 c.loop-opening-test.true c.opening-item.is found ∙ ap (λ f. other_with o f rest) c.in-Some.is)
    ∙ c.loop-opening.invariant.0)

pub loop-opening-preserved : goal.loop-opening-preserved
loop-opening-preserved g c =
    let r = g.L.ExerciseLog.recording c.args.log.now in
    let o = c.opening-item.result in
    let found : c.in_ok-entity.field-0 ≡ other_entity r o =
    other_found r o c.entry_within.result c.in_ok-entity.field-0 (rw c.entry.ensures at c.entry_within.ensures.same) (rw c.in_ok-states-2.ensures at c.in_ok-entity.ensures) in
    let rest = first_other r (drop (c.loop-opening.opening-index + 1) c.args.later.now) in (
      sym (next_other r c.args.later.now c.loop-opening.opening-index o c.in_ok-entity.field-0 c.loop-opening-test.true c.opening-item.is found ∙ ap (λ f. other_with o f rest) c.in_default.is)
          ∙ c.loop-opening.invariant.0,
      ap (λ (p : PlaceBefore). p.recording) c.in_ok-states-2.ensures ∙ c.loop-opening.invariant.1,
    )
