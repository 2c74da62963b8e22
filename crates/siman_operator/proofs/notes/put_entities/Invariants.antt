use Rattle.std.proofs.Common.{◌≡◌, ◌++◌}
use Rattle.std.specs.Prelude.{string_bytes}
use Rattle.siman_print.specs.declared.spelling.Spelling.TheVariants.{Text}
use Rattle.siman_application.specs.Application.{came}
use Rattle.siman_application.specs.Play.{state_over}
use Rattle.siman_print.specs.Spelled.{lines_spelled}
use Rattle.siman_operator.specs.Notes.{rows_below, entity_row}
use Rattle.siman_operator.proofs.notes.put_entities.Given as goal

-- The rows so far.
abbrev pub invariant-loop-number : goal.invariant-loop-number
invariant-loop-number l = string_bytes l.text ≡ string_bytes l.initial.text ++ lines_spelled Text (rows_below (λ e. entity_row l.address e (state_over l.application.outfit (came l.application) e)) l.number)
