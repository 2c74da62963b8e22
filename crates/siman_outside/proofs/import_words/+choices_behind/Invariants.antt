use Rattle.std.proofs.Common.{length}
use Rattle.siman_outside.proofs.import_words.+choices_behind.Given as goal

-- the words that are left
abbrev pub decreases-choices_behind : goal.decreases-choices_behind
decreases-choices_behind g l = length l.words.now
