-- The first such word of all is that of those that are left.
use Rattle.std.proofs.Common.{◌≡◌, length, map}
use Rattle.siman_analysis_commands.specs.ChartWords.{unknown_of}
use Rattle.siman_analysis_commands.proofs.chart_words.unknown_of.Given as goal

abbrev pub invariant-loop-others : goal.invariant-loop-others
invariant-loop-others g l =
    unknown_of (g.L.ExerciseLog.recording l.log) (map (λ word. word.now) l.others) ≡ unknown_of (g.L.ExerciseLog.recording l.log) (map (λ word. word.now) l.words)

abbrev pub decreases-loop-others : goal.decreases-loop-others
decreases-loop-others g l = length l.others
