use Rattle.std.proofs.Common.{[], ◌∷◌, ◌++◌, ap, sym, subst, ◌∙◌, ◌≡◌, arith}
use Rattle.std.proofs.Math.Numerals.{add-one}
use Rattle.siman_exercise_commands.specs.Assumed.{numbers_below, is_assumed}
use Rattle.siman_exercise_commands.proofs.Decided.{more_number, same_numbers, all_numbers, no_numbers}
use Rattle.siman_exercise_commands.proofs.assumed.assumed_in.Goals.{then-is_assumed+in_ok-push, else-is_assumed}
use Rattle.siman_exercise_commands.proofs.assumed.assumed_in.Goals as goal

pub loop-entity-init : goal.loop-entity-init
loop-entity-init g c = c.new-entities.ensures.items ∙ sym (no_numbers (is_assumed c.args.findings.now c.args.opening.now))

pub loop-entity-preserved : goal.loop-entity-preserved
loop-entity-preserved g c =
    let test = is_assumed c.args.findings.now c.args.opening.now in
    let e = c.loop-entity.entity in
    subst (λ n. c.if-is_assumed.entities.items ≡ numbers_below test n) (sym (add-one e)) (
    elim c.if-is_assumed.branch [
      | then-is_assumed+in_ok-push w ↦
          ap (λ v. v.items) w.entities-is ∙ w.in_ok-push.ensures.items ∙ ap (λ xs. xs ++ e ∷ []) c.loop-entity.invariant
          ∙ sym (more_number test e (sym c.is_assumed.ensures ∙ w.if-is_assumed.true))
      | else-is_assumed w ↦
          ap (λ v. v.items) w.entities-is ∙ c.loop-entity.invariant ∙ sym (same_numbers test e (sym c.is_assumed.ensures ∙ w.if-is_assumed.false))
    ]
    )

pub returns : goal.returns
returns g c =
    let test = is_assumed c.args.findings.now c.args.opening.now in
    c.loop-entity.invariant ∙ ap (numbers_below test) (omega (arith, c.loop-entity-test.false, c.loop-entity.auto.entity-end))
    ∙ sym (all_numbers c.args.findings.now c.args.opening.now)
