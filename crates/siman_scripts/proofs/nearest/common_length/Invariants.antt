use Rattle.std.proofs.Common.{◌≡◌, ◌+◌, ◌-◌, ◌≤◌, length, drop}
use Rattle.siman_scripts.specs.Nearest.{common_length}
use Rattle.siman_scripts.proofs.nearest.common_length.Given as goal

-- what is left of the words begins alike as far as the words do, but for the bytes so far
abbrev pub invariant-loop-count : goal.invariant-loop-count
invariant-loop-count l = record {
  alike : l.count + common_length (drop l.count l.a) (drop l.count l.b) ≡ common_length l.a l.b;
  within : l.count ≤ length l.a;
  both : l.count ≤ length l.b;
}

abbrev pub decreases-loop-count : goal.decreases-loop-count
decreases-loop-count l = length l.a - l.count
