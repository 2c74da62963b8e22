-- What is asked of all words is asked of those that are left.
use Rattle.std.proofs.Common.{◌≡◌, length, map}
use Rattle.siman_outside.specs.Words.{has_option}
use Rattle.siman_outside.proofs.asking.has_option.Given as goal

abbrev pub invariant-loop-others : goal.invariant-loop-others
invariant-loop-others g l = has_option (map g.S.AsStr.text l.others) ≡ has_option (map g.S.AsStr.text l.words)

abbrev pub decreases-loop-others : goal.decreases-loop-others
decreases-loop-others g l = length l.others
