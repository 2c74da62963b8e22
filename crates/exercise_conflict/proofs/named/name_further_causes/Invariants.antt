use Rattle.std.proofs.Common.{◌≡◌, ◌++◌, take, map}
use Rattle.exercise_conflict.specs.declared.way.Also.{Also}
use Rattle.exercise_conflict.proofs.named.name_further_causes.Given as goal

-- The entries that are named so far.
abbrev pub invariant-loop-also : goal.invariant-loop-also
invariant-loop-also l = l.entries.items ≡ l.initial.entries.items ++ map (λ (a : Also). a.entry) (take l.also-index l.all)
