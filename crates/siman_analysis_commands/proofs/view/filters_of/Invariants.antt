-- The filters so far are those of the words so far.
use Rattle.std.proofs.Common.{◌≡◌, take, map, Some}
use Rattle.siman_analysis_commands.specs.FilterWords.{filter_of}
use Rattle.siman_analysis_commands.proofs.view.filters_of.Given as goal

abbrev pub invariant-loop-word : goal.invariant-loop-word
invariant-loop-word g l = map (filter_of l.view) (map g.S.AsStr.text (take l.word-index l.words)) ≡ map Some l.filters.items
