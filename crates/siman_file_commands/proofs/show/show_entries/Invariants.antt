-- What is out and what is held are the lines so far.
use Rattle.std.proofs.Common.{◌++◌, string_bytes}
use Rattle.siman_print.specs.Below.{texts_below}
use Rattle.siman_outside.specs.Passing.{IsPassedOn}
use Rattle.siman_print.specs.EntryLines.{entry_shown}
use Rattle.siman_file_commands.proofs.show.show_entries.Given as goal

abbrev pub invariant-loop-index : goal.invariant-loop-index
invariant-loop-index g l =
    IsPassedOn (g.W.Write.contents l.initial.out) (g.W.Write.contents l.out) (string_bytes l.lines)
    (string_bytes l.initial.lines ++ texts_below (entry_shown (g.L.ExerciseLog.recording l.log)) l.index)
