use Rattle.std.proofs.Common.{sym}
use Rattle.siman_tests.proofs.uses.report.says_the_same_of_the_archive.Goals as goal

pub returns : goal.returns
returns c = λ first filters. sym (c.conversion_keeps_lines.ensures.kept c.args.recording.now filters first)
