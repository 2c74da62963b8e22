use Rattle.std.proofs.Common.{sym, ◌∙◌}
use Rattle.exercise_review.proofs.Sourced.{all_told}
use Rattle.exercise_review.proofs.sources.are_whole.Goals as goal

pub returns-then-sources : goal.returns-then-sources
returns-then-sources g c all = all_told c.args.findings.now c.args.sources.now (c.requires.sources c.if-sources.true) (sym c.are_all_received.ensures ∙ all)
