use Rattle.std.proofs.Common.{◌≡◌, ◌++◌, map, drop}
use Rattle.std.specs.Option.{option_map}
use Rattle.siman_scripts.specs.Statement.{numbers_of}
use Rattle.siman_scripts.proofs.moves.numbers_of.Given as goal

-- the numbers so far and those of the words that are left are those of all
abbrev pub invariant-loop-word : goal.invariant-loop-word
invariant-loop-word l =
    option_map (λ ns. l.numbers.items ++ ns) (numbers_of (map (λ w. w.now) (drop l.word-index l.words))) ≡ numbers_of (map (λ w. w.now) l.words)
