use Rattle.std.proofs.Common.{◌≡◌, map, length}
use Rattle.siman_plans.specs.SourceForms.{seen, rules_refusal}
use Rattle.siman_plans.proofs.source_form.rules_refusal.Given as goal

-- the words that are left are refused as all are
abbrev pub invariant-loop-rest : goal.invariant-loop-rest
invariant-loop-rest l = rules_refusal (map seen l.rest) ≡ rules_refusal (map seen l.words)

abbrev pub decreases-loop-rest : goal.decreases-loop-rest
decreases-loop-rest l = length l.rest
