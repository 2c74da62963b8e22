-- The lines that a session takes (profile).
use Rattle.std.specs.Prelude.{ℕ, List, [], length, nat_le, codes, bytes_eq, Option, None, if◌then◌else◌}
use Rattle.siman_scripts.specs.declared.command.Command.{Command}
use Rattle.siman_scripts.specs.Command.{command_of}
use Rattle.siman_operator.specs.declared.reading.Question.{Question}
use Rattle.siman_operator.specs.declared.reading.Question.TheVariants as questions
use Rattle.siman_operator.specs.declared.reading.TheConstants.{LONGEST_LINE}

-- what a line asks of the session itself
abbrev pub question_of : List ℕ → Question
question_of line = if bytes_eq line (codes "help") then questions.Help else (if bytes_eq line (codes "status") then questions.Status else questions.Nothing)

-- the command of a line that asks this of the session: that of an empty line, if it asks anything
abbrev pub command_beside : Question → List ℕ → Option Command
command_beside questions.Help line = command_of []
command_beside questions.Status line = command_of []
command_beside questions.Nothing line = command_of line

-- THE COMMAND OF A LINE, if it is one; none, if the line is longer than LONGEST_LINE
abbrev pub said_by : List ℕ → Option Command
said_by line = if nat_le (length line) LONGEST_LINE then command_beside (question_of line) line else None
