use Rattle.std.proofs.Common.{◌≡◌, ◌+◌, ◌≤◌, length, map, drop}
use Rattle.siman_scripts.proofs.Placed.{width}
use Rattle.siman_plans.specs.SourceWords.{unprintable_from, unprintable_in}
use Rattle.siman_plans.proofs.source_word.unprintable_in.Given as goal

-- the parts that are left tell what all do, and take what is left of the line
abbrev pub invariant-loop-part : goal.invariant-loop-part
invariant-loop-part l = record {
  told : unprintable_from l.column (map (λ w. w.now) (drop l.part-index l.part-items)) ≡ unprintable_in l.line;
  within : l.column + width (map (λ w. w.now) (drop l.part-index l.part-items)) ≤ length l.line + 2;
}
