use Rattle.std.proofs.Common.{◌≡◌, ◌+◌, ◌≤◌, length}
use Rattle.byte_files.specs.Text.{lines_of}
use Rattle.siman_scripts.specs.Draft.{blank}
use Rattle.siman_scripts.specs.Script.{lines_after}
use Rattle.siman_scripts.proofs.script.take_lines.Given as goal

-- what the lines that are left make of the draft is what all make of nothing
abbrev pub invariant-loop-rest : goal.invariant-loop-rest
invariant-loop-rest l = record {
  lines : lines_after l.draft l.count (lines_of l.rest) ≡ lines_after blank 0 (lines_of l.text);
  count : l.count + length (lines_of l.rest) ≡ length (lines_of l.text);
  within : l.count + length l.rest ≤ length l.text;
}

abbrev pub decreases-loop-rest : goal.decreases-loop-rest
decreases-loop-rest l = length l.rest
