-- The lines so far are those of the items so far.
use Rattle.std.proofs.Common.{◌≡◌, ◌++◌, take, string_bytes}
use Rattle.std.specs.List.{flat_map}
use Rattle.siman_print.specs.Spelled.{line_text}
use Rattle.exercise_check.specs.Report.{entity_line}
use Rattle.exercise_check.proofs.report.put_entities.Given as goal

abbrev pub invariant-loop-present : goal.invariant-loop-present
invariant-loop-present l = string_bytes l.text ≡ string_bytes l.initial.text ++ flat_map (λ present. line_text (entity_line l.address present)) (take l.present-index l.entities)
