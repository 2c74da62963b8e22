-- The letters so far.
use Rattle.std.proofs.Common.{◌≡◌, take}
use Rattle.siman_cases.specs.Done.{letters_of}
use Rattle.siman_cases.proofs.done.letters.Given as goal

abbrev pub invariant-loop-letter : goal.invariant-loop-letter
invariant-loop-letter l = letters_of l.letters ≡ take l.letter-index l.letter-items
