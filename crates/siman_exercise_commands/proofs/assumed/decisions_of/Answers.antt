use Rattle.std.proofs.Common.{suc, sym, subst, ◌∙◌}
use Rattle.std.proofs.Math.Numerals.{add-one}
use Rattle.siman_exercise_commands.specs.Assumed.{AreDecisions}
use Rattle.siman_exercise_commands.proofs.Decided.{decided_next, decided_past}
use Rattle.siman_exercise_commands.proofs.assumed.decisions_of.Goals.{in-Some, in_default}
use Rattle.siman_exercise_commands.proofs.assumed.decisions_of.Goals as goal

pub loop-entry-preserved : goal.loop-entry-preserved
loop-entry-preserved g c =
    subst (λ n. AreDecisions c.args.findings.now n c.match-change.decisions) (sym (add-one c.loop-entry.entry)) (
    elim c.match-change.branch [
      | in-Some w ↦ subst (AreDecisions c.args.findings.now (suc c.loop-entry.entry)) (sym w.decisions-is)
          (decided_next c.args.findings.now c.loop-entry.entry c.loop-entry.decisions w.decide.new.self w.in-Some.change c.loop-entry.invariant w.decide.ensures (sym c.change.ensures ∙ w.in-Some.is))
      | in_default w ↦ subst (AreDecisions c.args.findings.now (suc c.loop-entry.entry)) (sym w.decisions-is)
          (decided_past c.args.findings.now c.loop-entry.entry c.loop-entry.decisions c.loop-entry.invariant (sym c.change.ensures ∙ w.in_default.is))
    ]
    )
