use Rattle.std.proofs.Common.{◌≡◌, ◌++◌}
use Rattle.std.specs.Prelude.{string_bytes}
use Rattle.siman_print.specs.declared.spelling.Spelling.TheVariants.{Text}
use Rattle.siman_print.specs.Spelled.{lines_spelled}
use Rattle.siman_operator.specs.Notes.{rows_below, at_place, standing_row}
use Rattle.siman_operator.proofs.notes.put_standing.Given as goal

-- The rows so far.
abbrev pub invariant-loop-place : goal.invariant-loop-place
invariant-loop-place l = string_bytes l.text ≡ string_bytes l.initial.text ++ lines_spelled Text (rows_below (at_place (standing_row l.manager l.now) l.manager) l.place)
