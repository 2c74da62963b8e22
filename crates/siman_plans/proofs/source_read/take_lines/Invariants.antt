use Rattle.std.proofs.Common.{◌≡◌, ◌+◌, ◌≤◌, length}
use Rattle.byte_files.specs.Text.{lines_of}
use Rattle.siman_plans.specs.Source.{nothing_read, lines_after}
use Rattle.siman_plans.proofs.source_read.take_lines.Given as goal

-- what the lines that are left add to those so far is what all add to nothing
abbrev pub invariant-loop-rest : goal.invariant-loop-rest
invariant-loop-rest l = record {
  lines : lines_after l.reading l.count (lines_of l.rest) ≡ lines_after nothing_read 0 (lines_of l.text);
  count : l.count + length (lines_of l.rest) ≡ length (lines_of l.text);
  within : l.count + length l.rest ≤ length l.text;
}

abbrev pub decreases-loop-rest : goal.decreases-loop-rest
decreases-loop-rest l = length l.rest
