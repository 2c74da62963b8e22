-- The first such word of all is that of those that are left.
use Rattle.std.proofs.Common.{◌≡◌, length, map}
use Rattle.siman_analysis_commands.specs.ChartWords.{past_of}
use Rattle.siman_analysis_commands.proofs.chart_words.past_of.Given as goal

abbrev pub invariant-loop-others : goal.invariant-loop-others
invariant-loop-others l = past_of l.steps (map (λ word. word.now) l.others) ≡ past_of l.steps (map (λ word. word.now) l.words)

abbrev pub decreases-loop-others : goal.decreases-loop-others
decreases-loop-others l = length l.others
