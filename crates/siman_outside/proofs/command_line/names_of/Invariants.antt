-- The names so far, and those among the words that are left, are all names.
use Rattle.std.proofs.Common.{◌≡◌, ◌++◌, length, map}
use Rattle.siman_outside.specs.Words.{names_in}
use Rattle.siman_outside.proofs.command_line.names_of.Given as goal

abbrev pub invariant-loop-others : goal.invariant-loop-others
invariant-loop-others g l = map (λ name. name.now) l.names.items ++ names_in (map g.S.AsStr.text l.others) ≡ names_in (map g.S.AsStr.text l.words)

abbrev pub decreases-loop-others : goal.decreases-loop-others
decreases-loop-others g l = length l.others
