-- Nothing is missing of a station that is not closed, and it passes over nothing that does not want for memory.
use Rattle.std.proofs.Common.{[], false, inl, inr, true, ◌∷◌, ◌≡◌, ◌⊎◌}
use Rattle.exercise_model.specs.History.{Get}
use Rattle.siman_application.specs.Distinct.{with_request}
use Rattle.siman_application.specs.OwnLog.{sent_after}
use Rattle.siman_application.specs.Play.{reply_after}
use Rattle.siman_manager.specs.Answers.{taken}
use Rattle.siman_tests.proofs.uses.station.answers_rightly.Goals as goal

not_so : false ≡ true → ⊥
not_so e = absurd cc

either : {P Q : Type 0} → P ⊎ Q → (Q → ⊥) → P
either (inl p) none = p
either (inr q) none = absurd (none q)

pub returns : goal.returns
returns c = λ s b q stamp unordered ranges address read small.
    let a = c.args.node.now.application.outfit in
    let k = c.args.node.now.manager in
    let begun = c.halves_follow_logs.ensures.begun false s a k false unordered ranges in
    let took = c.halves_follow_logs.ensures.takes false s a [] k [] false b q stamp begun (either begun.missing not_so) read small in
    c.deeds_have_no_cause.ensures.deeds false s a (with_request a [] q) (taken k q) (sent_after s (reply_after a [] q stamp) (Get s b ∷ [])) false took address
    (inl (either took.passed not_so))
