use Rattle.std.proofs.Common.{◌≡◌, ◌≢◌, List, [], length, sym, ap, ◌∙◌, subst, arith}
use Rattle.std.specs.Prelude.{◌==◌}
use Rattle.std.proofs.lemmas.Bool.{eqb-true, eq-eqb}
use Rattle.std.proofs.lemmas.List.{nil_from_length}
use Rattle.exercise_check.specs.declared.certificate.Step.{Step}
use Rattle.exercise_audit.specs.declared.blocks.Block.{Block}
use Rattle.exercise_audit.specs.Audit.{IsAuditOf}
use Rattle.exercise_audit.specs.Longest.{IsLongest}
use Rattle.exercise_audit.proofs.searched.audit_found.Goals as goal
use Rattle.exercise_audit.proofs.searched.audit_found.Goals.{then-is_empty, else-is_empty}

pub returns-clause-audit : goal.returns-clause-audit
returns-clause-audit g c =
    let blocks : List Block = c.in_ok-run.field-0.run.blocks.items in
    let steps : List Step = c.in_ok-run.field-0.run.certificate.steps.items in
    let longest : IsLongest c.args.findings steps blocks = c.in_ok-run.ensures.run in
    let count : length blocks ≡ c.in_ok-run.field-0.run.blocks.len = omega (arith, c.in_ok-run.field-0.run.blocks.ok.0) in
    let is : c.is_empty.result ≡ (c.in_ok-run.field-0.run.blocks.len == 0) = c.is_empty.ensures in
    elim c.if-is_empty.branch [
      | then-is_empty w ↦
          let none : blocks ≡ [] = nil_from_length blocks (count ∙ eqb-true c.in_ok-run.field-0.run.blocks.len 0 (sym is ∙ w.if-is_empty.true)) in
          subst (IsAuditOf c.args.findings) (sym w.audit-is) (longest.explains none, longest.timely)
      | else-is_empty w ↦
          let some : blocks ≢ [] = λ none.
          let empty = eq-eqb c.in_ok-run.field-0.run.blocks.len 0 (sym count ∙ ap length none) in
          absurd (cc (empty, is, w.if-is_empty.false)) in
          subst (IsAuditOf c.args.findings) (sym w.audit-is) (longest.blocked some)
    ]
