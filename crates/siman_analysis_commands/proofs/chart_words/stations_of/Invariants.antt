-- With the stations of the words that are left, all that are kept stand there.
use Rattle.std.proofs.Common.{◌≡◌, ◌++◌, length, map}
use Rattle.siman_analysis_commands.specs.ChartWords.{stations_of}
use Rattle.siman_analysis_commands.proofs.chart_words.stations_of.Given as goal

abbrev pub invariant-loop-others : goal.invariant-loop-others
invariant-loop-others l = l.stations.items ++ stations_of (map (λ word. word.now) l.others) ≡ stations_of (map (λ word. word.now) l.words)

abbrev pub decreases-loop-others : goal.decreases-loop-others
decreases-loop-others l = length l.others
