use Rattle.std.proofs.Common.{◌≡◌, ◌++◌, List}
use Rattle.std.specs.Prelude.{string_bytes}
use Rattle.siman_print.specs.declared.spelling.Spelling.TheVariants.{Text}
use Rattle.siman_print.specs.Line.{Line}
use Rattle.siman_print.specs.Spelled.{lines_spelled}
use Rattle.siman_operator.specs.Notes.{AreNotes}
use Rattle.siman_operator.proofs.session_notes.put_strangers.Given as goal

-- Some notes were put.
abbrev pub invariant-loop-place : goal.invariant-loop-place
invariant-loop-place g l = (rows : List Line) × AreNotes rows × (string_bytes l.text ≡ string_bytes l.initial.text ++ lines_spelled Text rows)
