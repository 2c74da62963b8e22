-- The fields so far.
use Rattle.std.proofs.Common.{◌≡◌, ◌++◌, take, string_bytes}
use Rattle.siman_print.specs.Spelled.{fields_spelled}
use Rattle.siman_print.specs.Lent.{fields_of}
use Rattle.siman_print.proofs.line.put_fields.Given as goal

abbrev pub invariant-loop-field : goal.invariant-loop-field
invariant-loop-field l = string_bytes l.text ≡ string_bytes l.initial.text ++ fields_spelled l.spelling (fields_of (take l.field-index l.fields))
