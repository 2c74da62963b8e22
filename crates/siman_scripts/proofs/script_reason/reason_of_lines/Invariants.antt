use Rattle.std.proofs.Common.{◌≡◌, ◌+◌, ◌≤◌, length}
use Rattle.byte_files.specs.Text.{lines_of}
use Rattle.siman_scripts.specs.Draft.{blank}
use Rattle.siman_scripts.specs.Reason.{lines_reason}
use Rattle.siman_scripts.proofs.script_reason.reason_of_lines.Given as goal

-- the lines that are left have the first reason that all have
abbrev pub invariant-loop-rest : goal.invariant-loop-rest
invariant-loop-rest l = record {
  told : lines_reason l.draft l.count (lines_of l.rest) ≡ lines_reason blank 0 (lines_of l.text);
  within : l.count + length l.rest ≤ length l.text;
}

abbrev pub decreases-loop-rest : goal.decreases-loop-rest
decreases-loop-rest l = length l.rest
