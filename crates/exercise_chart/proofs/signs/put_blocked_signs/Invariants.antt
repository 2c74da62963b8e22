-- The signs of the blocked rows so far.
use Rattle.std.proofs.Common.{◌≡◌, ◌++◌, string_bytes}
use Rattle.siman_print.specs.Below.{texts_below}
use Rattle.exercise_chart.specs.Signs.{blocked_sign_at}
use Rattle.exercise_chart.proofs.signs.put_blocked_signs.Given as goal

abbrev pub invariant-loop-number : goal.invariant-loop-number
invariant-loop-number l = string_bytes l.text ≡ string_bytes l.initial.text ++ texts_below (blocked_sign_at l.frame l.blocked) l.number
