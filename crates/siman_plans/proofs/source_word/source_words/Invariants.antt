use Rattle.std.proofs.Common.{◌≡◌, ◌+◌, ◌++◌, ◌≤◌, length, map, drop}
use Rattle.siman_scripts.proofs.Placed.{width}
use Rattle.siman_plans.specs.SourceWords.{words_from, source_words}
use Rattle.siman_plans.proofs.source_word.source_words.Given as goal

-- the words that are placed and those of the parts that are left are those of the line, and take what is left of it
abbrev pub invariant-loop-part : goal.invariant-loop-part
invariant-loop-part l = record {
  words : map (λ p. (p.column, p.word.now)) l.placed.items ++ words_from l.column (map (λ w. w.now) (drop l.part-index l.part-items)) ≡ source_words l.line;
  within : l.column + width (map (λ w. w.now) (drop l.part-index l.part-items)) ≤ length l.line + 2;
}
