use Rattle.std.proofs.Common.{◌≡◌, ◌++◌, take, string_bytes}
use Rattle.siman_exercise_commands.specs.Import.{assumed_lines}
use Rattle.siman_exercise_commands.proofs.imported_file.put_assumed.Given as goal

abbrev pub invariant-loop-entity : goal.invariant-loop-entity
invariant-loop-entity l = string_bytes l.text ≡ string_bytes l.initial.text ++ assumed_lines l.address (take l.entity-index l.entities)
