-- The words that are left say behind what was said what all words say.
use Rattle.std.proofs.Common.{◌≡◌, length, map}
use Rattle.siman_analysis_commands.specs.ChartWords.{window_by, window_of}
use Rattle.siman_analysis_commands.proofs.chart_words.window_of.Given as goal

abbrev pub invariant-loop-others : goal.invariant-loop-others
invariant-loop-others l = window_by l.window (map (λ word. word.now) l.others) ≡ window_of (map (λ word. word.now) l.words)

abbrev pub decreases-loop-others : goal.decreases-loop-others
decreases-loop-others l = length l.others
