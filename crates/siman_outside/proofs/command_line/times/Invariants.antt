-- What was counted, and how often the word stands among the words that are left, is how often it stands among all.
use Rattle.std.proofs.Common.{◌≡◌, ◌+◌, ◌≤◌, length, map}
use Rattle.siman_outside.specs.Words.{times}
use Rattle.siman_outside.proofs.command_line.times.Given as goal

abbrev pub invariant-loop-others : goal.invariant-loop-others
invariant-loop-others g l = record {
  count : l.count + times l.wanted (map g.S.AsStr.text l.others) ≡ times l.wanted (map g.S.AsStr.text l.words);
  within : l.count + length l.others ≤ length l.words;
}

abbrev pub decreases-loop-others : goal.decreases-loop-others
decreases-loop-others g l = length l.others
