use Rattle.std.proofs.Common.{◌≡◌, ◌++◌, map, drop}
use Rattle.siman_plans.specs.SourceForms.{seen, texts}
use Rattle.siman_plans.proofs.source_form.texts.Given as goal

-- the words so far and those that are left are all
abbrev pub invariant-loop-placed : goal.invariant-loop-placed
invariant-loop-placed l = map (λ w. w.now) l.all.items ++ texts (map seen (drop l.placed-index l.words)) ≡ texts (map seen l.words)
