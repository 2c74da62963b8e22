use Rattle.std.proofs.Common.{refl, ap, ◌+◌, ◌∙◌}
use Rattle.std.specs.Prelude.{false, replicate}
use Rattle.siman_exercise_commands.specs.declared.assumed.Decision.TheVariants.{Open}
use Rattle.siman_exercise_commands.proofs.Decided.{none_decided}
use Rattle.siman_exercise_commands.proofs.assumed.Decisions.none.Goals as goal

pub returns : goal.returns
returns c = λ r.
    none_decided r (record { table = c.in_ok-vec.field-0; all_removed = false })
    (c.in_ok-vec.ensures.items_if_clones_equal (λ y same. same) ∙ ap (λ n. replicate (n + 1) Open) c.from.ensures) refl
