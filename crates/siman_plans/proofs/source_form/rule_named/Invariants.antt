use Rattle.std.proofs.Common.{◌≡◌, map, drop}
use Rattle.std.specs.List.{find}
use Rattle.siman_plans.specs.SourceForms.{seen, gives_rule}
use Rattle.siman_plans.proofs.source_form.rule_named.Given as goal

abbrev pub invariant-loop-placed : goal.invariant-loop-placed
invariant-loop-placed l = find (gives_rule l.name) (map seen (drop l.placed-index l.words)) ≡ find (gives_rule l.name) (map seen l.words)
