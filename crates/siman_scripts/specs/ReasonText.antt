-- The text of a reason (profile).
use Rattle.std.specs.Prelude.{ℕ, ◌==◌, List, [], ◌++◌, codes, decimal, Option, Some, None, if◌then◌else◌}
use Rattle.byte_files.specs.Pieces.{five}
use Rattle.siman_scripts.specs.declared.form.LineForm.{LineForm}
use Rattle.siman_scripts.specs.declared.form.LineForm.TheVariants as forms
use Rattle.siman_scripts.specs.declared.why.CommandReason.{CommandReason}
use Rattle.siman_scripts.specs.declared.why.CommandWhy.{CommandWhy}
use Rattle.siman_scripts.specs.declared.why.CommandWhy.TheVariants as commands
use Rattle.siman_scripts.specs.declared.why.LineReason.{LineReason}
use Rattle.siman_scripts.specs.declared.why.LineWhy.{LineWhy}
use Rattle.siman_scripts.specs.declared.why.LineWhy.TheVariants as lines
use Rattle.siman_scripts.specs.declared.why.Why.{Why}
use Rattle.siman_scripts.specs.declared.why.Why.TheVariants as whys
use Rattle.siman_scripts.specs.declared.word_kind.WordKind.{WordKind}
use Rattle.siman_scripts.specs.declared.word_kind.WordKind.TheVariants as kinds
use Rattle.siman_scripts.specs.Forms.{form_name}

-- What is expected.

-- the form of a line, as it is written
abbrev pub form_text : LineForm → List ℕ
form_text forms.Exercise = codes "exercise X"
form_text forms.Station = codes "station S:A, or station S:A first=F tries=T wait=W"
form_text forms.At = codes "at N"
form_text forms.Opening = codes "opening S:A E stopped|running"
form_text forms.Fixed = codes "fixed S:A ID VALUE"
form_text forms.Action = codes "action S:A ID"
form_text forms.Deliver = codes "deliver K S:A"
form_text forms.Tick = codes "tick S:A"
form_text forms.Tell = codes "tell S:A E"
form_text forms.Do = codes "do S:A S:A:E ACTION"
form_text forms.Query = codes "query S:A S:A:E ID .."
form_text forms.Set = codes "set S:A S:A:E ID VALUE"
form_text forms.Create = codes "create S:A S:A:E"
form_text forms.Remove = codes "remove S:A S:A:E"
form_text forms.Start = codes "start S:A S:A:E"
form_text forms.Stop = codes "stop S:A S:A:E"

-- what is expected instead of a word that is not of this kind; for a number the largest follows
abbrev pub kind_words : WordKind → List ℕ
kind_words (kinds.Number largest) = codes "a number is expected, from 0 to "
kind_words kinds.Address = codes "a station address S:A is expected, each from 1 to 65534"
kind_words kinds.Receiver = codes "an entity S:A:E is expected, each from 0 to 65535"
kind_words kinds.Entity = codes "an entity number is expected, from 1 to 65533"
kind_words kinds.State = codes "stopped or running is expected"
kind_words kinds.FirstId = codes "first=F is expected, F from 0 to 4294967295"
kind_words kinds.Tries = codes "tries=T is expected, T from 1 to 4294967295"
kind_words kinds.Wait = codes "wait=W is expected, W from 0 to 18446744073709551615"

abbrev pub kind_largest : WordKind → List ℕ
kind_largest (kinds.Number largest) = decimal largest
kind_largest _ = []

-- Why a line by itself is refused.

-- the fixed words of a reason; empty if the words vary
abbrev pub plain_line_text : LineWhy → List ℕ
plain_line_text lines.ByteOrderMark = codes "a byte order mark: save the file as plain ASCII, without one"
plain_line_text lines.NotAscii = codes "a character that is not ASCII: write plain letters, digits and signs"
plain_line_text lines.Tab = codes "a tab: write one blank between two words"
plain_line_text lines.CarriageReturn = codes "a carriage return inside the line: remove it"
plain_line_text lines.CarriageReturnAtEnd = codes "the line ends with a carriage return: save the file with Unix line ends"
plain_line_text lines.BlankAtBegin = codes "the line begins with a blank: remove it"
plain_line_text lines.BlankAtEnd = codes "the line ends with a blank: remove it"
plain_line_text lines.TwoBlanks = codes "two blanks in a row: write one"
plain_line_text (lines.Comment form) = codes "a comment behind a line: put it on a line of its own"
plain_line_text (lines.UnknownName near) = codes "no line begins with this word"
plain_line_text (lines.Missing form kind) = []
plain_line_text (lines.TooMany form) = []
plain_line_text (lines.Wrong form kind) = []

abbrev pub unknown_name_text : Option LineForm → List ℕ
unknown_name_text None = codes "no line begins with this word"
unknown_name_text (Some form) = five (codes "no line begins with this word: is ") (form_name form) (codes " meant?") [] []

abbrev pub line_text : LineWhy → List ℕ
line_text (lines.UnknownName near) = unknown_name_text near
line_text (lines.Missing form kind) = five (codes "the line ends, and ") (kind_words kind) (kind_largest kind) (codes ": ") (form_text form)
line_text (lines.TooMany form) = five (codes "a word too many: the line is ") (form_text form) [] [] []
line_text (lines.Wrong form kind) = five (kind_words kind) (kind_largest kind) [] [] []
line_text why = plain_line_text why

-- Why a line of a script is refused.

abbrev pub plain_text : Why → List ℕ
plain_text whys.SecondExercise = codes "a second exercise line: a script has one, the first"
plain_text whys.BeforeExercise = codes "the exercise line has to come before this one"
plain_text whys.LateStation = codes "a station line has to come before all lines of other kinds but the exercise line"
plain_text whys.LateOutfit = codes "opening, fixed and action lines have to come before all at lines and moves"
plain_text whys.TooManyStations = codes "a script has at most 256 stations"
plain_text whys.NoExercise = codes "the script ends without an exercise line"
plain_text whys.NoStation = codes "the script ends without a station line"
plain_text whys.TooLong = codes "the script has more than 1048576 bytes"
plain_text (whys.Line why) = []
plain_text (whys.StationNotAbove site application) = []
plain_text (whys.EntityNotAbove number) = []
plain_text (whys.UnknownStation site application) = []

abbrev pub why_text : Why → List ℕ
why_text (whys.Line why) = line_text why
why_text (whys.StationNotAbove site application) = five (codes "the address has to be above ") (decimal site) (codes ":") (decimal application) (codes ", that of the station before: sort the station lines")
why_text (whys.EntityNotAbove number) = five (codes "the entity has to be above ") (decimal number) (codes ", the one before at this station: sort the opening lines") [] []
why_text (whys.UnknownStation site application) = five (codes "no line says station ") (decimal site) (codes ":") (decimal application) (codes ": add one")
why_text why = plain_text why

-- the place; empty if the reason is about the whole text
abbrev pub place_text : ℕ → ℕ → List ℕ
place_text line column = if column == 0 then [] else five (codes "line ") (decimal line) (codes ", column ") (decimal column) (codes ": ")

-- THE TEXT OF A REASON, in one line
abbrev pub reason_text : LineReason → List ℕ
reason_text reason = place_text reason.line reason.column ++ why_text reason.why

-- A typed line.

abbrev pub command_why_text : CommandWhy → List ℕ
command_why_text (commands.Line why) = line_text why
command_why_text (commands.NotForStation form) = five (form_name form) (codes " is no order for a station") [] [] []

abbrev pub column_text : ℕ → List ℕ
column_text column = five (codes "column ") (decimal column) (codes ": ") [] []

abbrev pub command_text : CommandReason → List ℕ
command_text reason = column_text reason.column ++ command_why_text reason.why
