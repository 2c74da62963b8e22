-- The bytes so far; all of them are ASCII.
use Rattle.std.proofs.Common.{◌≡◌, ◌++◌, take}
use Rattle.siman_plans.proofs.label_name.add_label.Given as goal

abbrev pub invariant-loop-byte : goal.invariant-loop-byte
invariant-loop-byte l = l.line.bytes ≡ l.initial.line.bytes ++ take l.byte-index l.label
