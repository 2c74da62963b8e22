-- Reports of a session, each behind the ones before, and those of its end (profile).
use Rattle.std.specs.Prelude.{◌≡◌, ℕ, List, [], ◌++◌, codes, Option, Result, Ok, Err}
use Rattle.std.specs.Io.KnownBytes.{Keeps}
use Rattle.byte_files.specs.Writing.{Writes}
use Rattle.byte_files.specs.declared.output.WriteFailed.{WriteFailed}
use Rattle.siman_print.specs.Records.{line_end}
use Rattle.siman_operator.specs.declared.printing.PrintFault.{PrintFault}
use Rattle.siman_operator.specs.declared.printing.PrintFault.TheVariants as prints

-- whether all reports were written
abbrev pub Wrote : Type 0
Wrote = Result (Unit {0}) WriteFailed

-- a report is written behind the ones before, or a prefix of it; nothing, if an earlier one was not written whole
abbrev pub WritesMore : (before after : Wrote) → (old new : Option (List ℕ)) → List ℕ → Type 0
WritesMore (Ok x) after old new text = Writes after old new text
WritesMore (Err failed) after old new text = (after ≡ Err failed) × Keeps old new

-- the report that the text of the lines was not read to its end
abbrev pub unread_text : List ℕ
unread_text = codes "file: -" ++ line_end

-- The end.

-- the report that the recording has no end, or that its counts were not printed whole
abbrev pub closed_text : Result (Unit {0}) PrintFault → List ℕ
closed_text (Ok x) = []
closed_text (Err prints.Write) = codes "output: write" ++ line_end
closed_text (Err prints.Memory) = codes "memory" ++ line_end

-- the exit status of the end
abbrev pub closed_status : Result (Unit {0}) PrintFault → ℕ
closed_status (Ok x) = 0
closed_status (Err prints.Write) = 2
closed_status (Err prints.Memory) = 3
