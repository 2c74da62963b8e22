-- The sheets so far.
use Rattle.std.proofs.Common.{◌≡◌, ◌++◌, string_bytes}
use Rattle.siman_print.specs.Below.{texts_below}
use Rattle.exercise_chart.specs.Sheets.{sheet_text}
use Rattle.exercise_chart.proofs.sheets.put_sheets.Given as goal

abbrev pub invariant-loop-number : goal.invariant-loop-number
invariant-loop-number l = string_bytes l.text ≡ string_bytes l.initial.text ++ texts_below (sheet_text l.frame) l.number
