use Rattle.std.proofs.Common.{◌≡◌, ◌+◌, ◌++◌, length, map, drop}
use Rattle.siman_scripts.specs.Words.{placed_from, placed_words_of}
use Rattle.siman_scripts.proofs.Placed.{width}
use Rattle.siman_scripts.proofs.placed_word.placed_words.Given as goal

-- the words that are placed and those that are left are those of the line, and take what is left of it
abbrev pub invariant-loop-word : goal.invariant-loop-word
invariant-loop-word l = record {
  words : map (λ p. (p.column, p.word.now)) l.placed.items ++ placed_from l.column (map (λ w. w.now) (drop l.word-index l.word-items)) ≡ placed_words_of l.line;
  within : l.column + width (map (λ w. w.now) (drop l.word-index l.word-items)) ≡ length l.line + 2;
}
