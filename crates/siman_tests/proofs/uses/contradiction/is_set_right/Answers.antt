use Rattle.std.proofs.Common.{Option, Some, refl, subst, sym, ℕ, ◌∙◌, ◌≡◌}
use Rattle.std.specs.Prelude.{⊤}
use Rattle.exercise_conflict.specs.declared.clash.Clash.{Clash}
use Rattle.exercise_conflict.specs.declared.clash.Clash.TheVariants as clashes
use Rattle.exercise_model.specs.Recording.{PlainRecording}
use Rattle.exercise_review.specs.Life.{state_before}
use Rattle.siman_tests.proofs.uses.contradiction.is_set_right.Goals as goal

-- the state that a clash names is the one that the entity has
abbrev names_the_state : PlainRecording → ℕ → Option Clash → Type 0
names_the_state r j (Some (clashes.WrongState s n state change)) = state_before r s n j ≡ state
names_the_state r j clash = ⊤

pub returns-clause-there : goal.returns-clause-there
returns-clause-there g c = λ wrong.
    let told = (c.clashes_are_the_conflict.ensures.state c.args.findings.now c.args.entry wrong).told in
    rw (c.clash_of.ensures ∙ told) refl

pub returns-clause-right : goal.returns-clause-right
returns-clause-right g c = λ wrong s n state change is.
    let w = c.clashes_are_the_conflict.ensures.state c.args.findings.now c.args.entry wrong in
    subst (names_the_state c.args.findings.now c.args.entry) (sym w.told ∙ (sym c.clash_of.ensures ∙ is)) w.has
