use Rattle.std.proofs.Common.{◌≡◌, ◌++◌, take}
use Rattle.std.specs.Prelude.{string_bytes}
use Rattle.exercise_conflict.specs.Blocked.{rule_lines}
use Rattle.siman_print.specs.Spelled.{lines_spelled}
use Rattle.exercise_conflict.proofs.blocked.put_rules.Given as goal

-- The rules of the causes so far.
abbrev pub invariant-loop-cause : goal.invariant-loop-cause
invariant-loop-cause l = string_bytes l.text ≡ string_bytes l.initial.text ++ lines_spelled l.spelling (rule_lines l.blocks (take l.cause-index l.causes))
