-- What is asked of all words is asked of those that are left.
use Rattle.std.proofs.Common.{◌≡◌, length, map}
use Rattle.siman_outside.specs.Words.{are_names}
use Rattle.siman_outside.proofs.asking.are_names.Given as goal

abbrev pub invariant-loop-others : goal.invariant-loop-others
invariant-loop-others g l = are_names (map g.S.AsStr.text l.others) ≡ are_names (map g.S.AsStr.text l.words)

abbrev pub decreases-loop-others : goal.decreases-loop-others
decreases-loop-others g l = length l.others
