use Rattle.std.proofs.Common.{◌≡◌, ◌+◌, ◌≤◌, length, map, drop}
use Rattle.siman_scripts.proofs.Placed.{width}
use Rattle.siman_plans.specs.SourceWords.{end_from, words_end}
use Rattle.siman_plans.proofs.source_word.words_end.Given as goal

-- the parts that are left end as all do, and take what is left of the line
abbrev pub invariant-loop-part : goal.invariant-loop-part
invariant-loop-part l = record {
  told : end_from l.last l.column (map (λ w. w.now) (drop l.part-index l.part-items)) ≡ words_end l.line;
  within : l.column + width (map (λ w. w.now) (drop l.part-index l.part-items)) ≤ length l.line + 2;
}
