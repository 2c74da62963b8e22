-- Sources, the wider language of scripts: what one more line adds, or why it cannot be read (profile).
use Rattle.std.specs.Prelude.{ℕ, ◌+◌, not, nat_lt, List, [], ◌∷◌, ◌++◌, length, codes, Option, Some, None, Result, Ok, Err, is_some, if◌then◌else◌}
use Rattle.std.specs.Result.{result_err}
use Rattle.std.specs.Str.{is_utf8}
use Rattle.std.specs.Str.Lossy.{utf8_valid_len}
use Rattle.dis_records.specs.declared.address.SiteApplication.{SiteApplication}
use Rattle.byte_files.specs.Text.{lines_of, number_to}
use Rattle.siman_scripts.specs.declared.act.Act.{Act}
use Rattle.siman_scripts.specs.declared.act.Act.TheVariants as acts
use Rattle.siman_scripts.specs.declared.line_fault.ScriptLineFault.{ScriptLineFault}
use Rattle.siman_scripts.specs.declared.script.TheConstants.{LARGEST_SCRIPT}
use Rattle.siman_scripts.specs.declared.statement.Statement.{Statement}
use Rattle.siman_scripts.specs.declared.statement.Statement.TheVariants as says
use Rattle.siman_scripts.specs.declared.why.LineReason.{LineReason}
use Rattle.siman_scripts.specs.declared.why.Why.{Why}
use Rattle.siman_scripts.specs.declared.why.Why.TheVariants.{BeforeExercise, UnknownStation, TooLong}
use Rattle.siman_scripts.specs.Stations.{WorldStationData}
use Rattle.siman_scripts.specs.Statement.{address_of, statement_of}
use Rattle.siman_scripts.specs.Words.{placed_words_of}
use Rattle.siman_scripts.specs.Draft.{DraftData, blank, index_of, takes_moves, moving, after}
use Rattle.siman_scripts.specs.Reason.{draft_reason, end_reason}
use Rattle.siman_plans.specs.declared.source.Which.{Which}
use Rattle.siman_plans.specs.declared.source.Which.TheVariants.{Number, Labelled, Answer}
use Rattle.siman_plans.specs.declared.source.SourceLine.{SourceLine}
use Rattle.siman_plans.specs.declared.source.SourceMove.{SourceMove}
use Rattle.siman_plans.specs.declared.source.SourceMove.TheVariants as moves
use Rattle.siman_plans.specs.declared.source_fault.SourceFault.{SourceFault}
use Rattle.siman_plans.specs.declared.source_fault.SourceFault.TheVariants.{BadLine}
use Rattle.siman_plans.specs.declared.source_fault.SourceReason.{SourceReason}
use Rattle.siman_plans.specs.declared.source_fault.SourceWhy.TheVariants as whys
use Rattle.siman_plans.specs.SourceWords.{without_mark, source_words, words_end, unprintable_in, is_label, answer_name}
use Rattle.siman_plans.specs.SourceLabels.{label_at, is_given}
use Rattle.siman_plans.specs.SourceFault.{Refusal}
use Rattle.siman_plans.specs.SourceForms.{Placed, column_at, reads, with_receiver, may_be_labelled, without_label, label_of, end_of, statement_in, station_in}
use Rattle.siman_plans.specs.Plain.{setup_text}

-- what a second step makes of the value of the first
infixl 10 ◌>>=◌
abbrev pub ◌>>=◌ : {A B : Type 0} → Result A Refusal → (A → Result B Refusal) → Result B Refusal
(Ok x) >>= f = f x
(Err refusal) >>= f = Err refusal

-- a source, without its memory: the exercise and its stations, their plain lines, the lines behind theirs, and the
-- labels in the order of their lines
pub record SourceData : Type 0 where
  pub exercise : ℕ
  pub stations : List WorldStationData
  pub setup : List ℕ
  pub lines : List SourceLine
  pub labels : List (List ℕ)

-- THE LINES SO FAR: the draft of the exercise and its stations, without moves; their plain lines; the lines behind
-- theirs; and the labels
pub record ReadingData : Type 0 where
  pub draft : DraftData
  pub setup : List ℕ
  pub lines : List SourceLine
  pub labels : List (List ℕ)

-- before the first line
abbrev pub nothing_read : ReadingData
nothing_read = record { draft = blank; setup = []; lines = []; labels = [] }

-- Whose datagram.

abbrev pub found_or : Option ℕ → Refusal → Result ℕ Refusal
found_or None refusal = Err refusal
found_or (Some i) refusal = Ok i

-- the index of the label of a line before, in a word in this column
abbrev pub labelled_in : (labels : List (List ℕ)) → (column : ℕ) → (name : List ℕ) → Result ℕ Refusal
labelled_in labels column name = found_or (label_at labels name) (column, if is_label name then whys.UnknownLabel else whys.WhatExpected)

-- LABEL of `answer(LABEL)`, or else LABEL
abbrev pub named_in : (labels : List (List ℕ)) → Placed → (answer : Option (List ℕ)) → Result Which Refusal
named_in labels p (Some name) = do
  i ← labelled_in labels p.0 name
  Ok (Answer i)
named_in labels p None = do
  i ← labelled_in labels p.0 p.1
  Ok (Labelled i)

abbrev pub number_or : Option ℕ → Result Which Refusal → Result Which Refusal
number_or (Some k) else_named = Ok (Number k)
number_or None else_named = else_named

-- WHAT: a number, the label of a line before, or `answer(LABEL)`
abbrev pub which_of : (labels : List (List ℕ)) → Placed → Result Which Refusal
which_of labels p = number_or (number_to 4294967295 p.1) (named_in labels p (answer_name p.1))

-- the first word of the rest is WHAT; the line ends before this column
abbrev pub which_in : (labels : List (List ℕ)) → (end : ℕ) → List Placed → Result Which Refusal
which_in labels end [] = Err (end, whys.WhatExpected)
which_in labels end (p ∷ ps) = which_of labels p

-- Stations.

-- the index of the station that a word in this column names, if it has a line
abbrev pub known_at : DraftData → (column : ℕ) → SiteApplication → Result ℕ Refusal
known_at d column a = found_or (index_of a d.stations) (column, whys.Script (UnknownStation a.site a.application))

abbrev pub at_address : DraftData → (column : ℕ) → Option SiteApplication → Result (Option ℕ) Refusal
at_address d column None = Err (column, whys.PlaceExpected)
at_address d column (Some a) = do
  i ← known_at d column a
  Ok (Some i)

-- a station, or `again`, which is none
abbrev pub place_of : DraftData → Placed → Result (Option ℕ) Refusal
place_of d p = if reads (codes "again") p then Ok None else at_address d p.0 (address_of p.1)

-- the second word of the rest says where
abbrev pub place_in : DraftData → (end : ℕ) → List Placed → Result (Option ℕ) Refusal
place_in d end (what ∷ p ∷ ps) = place_of d p
place_in d end ps = Err (end, whys.PlaceExpected)

-- there are at most this many words
abbrev pub no_more : (most : ℕ) → List Placed → Result (Unit {0}) Refusal
no_more most ps = if nat_lt most (length ps) then Err (column_at ps most, whys.ExtraWord) else Ok tt

-- moves may follow the lines so far
abbrev pub may_move : DraftData → (column : ℕ) → Result (Unit {0}) Refusal
may_move d column = if takes_moves d.part then Ok tt else Err (column, whys.Script BeforeExercise)

-- One more line.

-- the lines with one more behind those of the exercise and its stations
abbrev pub with_line : ReadingData → (line : ℕ) → (column : ℕ) → SourceMove → ReadingData
with_line r n column does = record r { draft = moving r.draft; lines = r.lines ++ record { line = n; column = column; does = does } ∷ [] }

-- the labels with that of a line, which is new
abbrev pub labels_with : (labels : List (List ℕ)) → Option Placed → Result (List (List ℕ)) Refusal
labels_with labels None = Ok labels
labels_with labels (Some p) =
    if not (is_label p.1) then Err (p.0, whys.NotLabel)
    else if is_given labels p.1 then Err (p.0, whys.LabelTwice)
    else Ok (labels ++ p.1 ∷ [])

-- an act of the station that the second word names
abbrev pub acts_after : ReadingData → (line : ℕ) → List Placed → SiteApplication → Act → Option Placed → Result ReadingData Refusal
acts_after r n ps a act label = do
  may ← may_move r.draft (column_at ps 0)
  station ← known_at r.draft (column_at ps 1) a
  labels ← labels_with r.labels label
  Ok (with_line (record r { labels = labels }) n 1 (moves.Acts station act (is_some label)))

-- `deliver K S:A`
abbrev pub delivers_after : ReadingData → (line : ℕ) → List Placed → SiteApplication → ℕ → Result ReadingData Refusal
delivers_after r n ps a k = do
  may ← may_move r.draft (column_at ps 0)
  station ← known_at r.draft (column_at ps 2) a
  Ok (with_line r n (column_at ps 1) (moves.Brings (Number k) (Some station)))

-- `at N`
abbrev pub at_after : ReadingData → (line : ℕ) → List Placed → (now : ℕ) → Result ReadingData Refusal
at_after r n ps now = do
  may ← may_move r.draft (column_at ps 0)
  Ok (with_line r n 1 (moves.At now))

-- the refusal of a line of the exercise or a station; there is always a reason
abbrev pub setup_refusal : List Placed → Option (ℕ × Why) → Refusal
setup_refusal ps None = (column_at ps 0, whys.Script BeforeExercise)
setup_refusal ps (Some reason) = (column_at ps reason.0, whys.Script reason.1)

abbrev pub taken_or : ReadingData → Statement → Refusal → Result DraftData ScriptLineFault → Result ReadingData Refusal
taken_or r s refusal (Ok d) = Ok (record r { draft = d; setup = r.setup ++ setup_text s })
taken_or r s refusal (Err fault) = Err refusal

-- a line of the exercise or a station, which the draft takes or refuses
abbrev pub setup_after : ReadingData → List Placed → Statement → Result ReadingData Refusal
setup_after r ps s = taken_or r s (setup_refusal ps (draft_reason r.draft s)) (after r.draft s)

abbrev pub does_after : ReadingData → (line : ℕ) → List Placed → SiteApplication → Act → Option Placed → Result ReadingData Refusal
does_after r n ps a (acts.Deliver k) label = delivers_after r n ps a k
does_after r n ps a act label = acts_after r n ps a act label

-- A STATEMENT OF A SCRIPT in these words
abbrev pub statement_after : ReadingData → (line : ℕ) → List Placed → Statement → Option Placed → Result ReadingData Refusal
statement_after r n ps says.Nothing label = Ok r
statement_after r n ps (says.At now) label = at_after r n ps now
statement_after r n ps (says.Does a act) label = does_after r n ps a act label
statement_after r n ps s label = setup_after r ps s

-- `deliver WHAT S:A` and `deliver WHAT again`
abbrev pub deliver_after : ReadingData → (line : ℕ) → (end : ℕ) → (name : Placed) → List Placed → Result ReadingData Refusal
deliver_after r n end name ps = do
  may ← may_move r.draft name.0
  which ← which_in r.labels end ps
  to ← place_in r.draft end ps
  few ← no_more 2 ps
  Ok (with_line r n (column_at ps 0) (moves.Brings which to))

-- `lose WHAT`
abbrev pub lose_after : ReadingData → (line : ℕ) → (end : ℕ) → (name : Placed) → List Placed → Result ReadingData Refusal
lose_after r n end name ps = do
  may ← may_move r.draft name.0
  which ← which_in r.labels end ps
  few ← no_more 1 ps
  Ok (with_line r n (column_at ps 0) (moves.Loses which))

-- a line that may have a label
abbrev pub order_after : ReadingData → (line : ℕ) → (end : ℕ) → List Placed → Result ReadingData Refusal
order_after r n end ps = do
  s ← statement_in (end_of end ps) (with_receiver (without_label ps))
  statement_after r n ps s (label_of ps)

-- a line of another form, or of a station
abbrev pub other_after : ReadingData → (line : ℕ) → List Placed → Result Statement Refusal → Result ReadingData Refusal
other_after r n ps said = do
  s ← said
  statement_after r n ps s None

-- THE WIDER FORMS, by the words of a line; the line ends before this column
abbrev pub words_after : ReadingData → (line : ℕ) → (end : ℕ) → List Placed → Result ReadingData Refusal
words_after r n end [] = Ok r
words_after r n end (name ∷ ps) =
    if reads (codes "deliver") name then deliver_after r n end name ps
    else if reads (codes "lose") name then lose_after r n end name ps
    else if may_be_labelled name.1 then order_after r n end (name ∷ ps)
    else if reads (codes "station") name then other_after r n (name ∷ ps) (station_in end (name ∷ ps))
    else other_after r n (name ∷ ps) (statement_in end (name ∷ ps))

-- a line is UTF-8
abbrev pub utf8_of : List ℕ → Result (Unit {0}) Refusal
utf8_of line = if is_utf8 line then Ok tt else Err (utf8_valid_len line + 1, whys.NotUtf8)

abbrev pub none_at : Option ℕ → Result (Unit {0}) Refusal
none_at None = Ok tt
none_at (Some column) = Err (column, whys.NotPrintable)

-- outside of a comment a line is printable ASCII, blanks and tabs
abbrev pub printable_of : List ℕ → Result (Unit {0}) Refusal
printable_of line = none_at (unprintable_in line)

-- a line that has no form of scripts
abbrev pub wide_after : ReadingData → (line : ℕ) → List ℕ → Result ReadingData Refusal
wide_after r n line = do
  valid ← utf8_of line
  printable ← printable_of line
  words_after r n (words_end line) (source_words line)

abbrev pub said_after : ReadingData → (line : ℕ) → List ℕ → Option Statement → Result ReadingData Refusal
said_after r n line None = wide_after r n line
said_after r n line (Some s) = statement_after r n (placed_words_of line) s None

-- THE SOURCE AFTER ONE MORE LINE, or why this cannot be read. A line that has a form of scripts says what it says there.
abbrev pub line_after : ReadingData → (line : ℕ) → List ℕ → Result ReadingData Refusal
line_after r n line = said_after r n line (statement_of line)

-- Texts.

abbrev pub unless_refused : (line : ℕ) → Result ReadingData Refusal → (ReadingData → Result ReadingData SourceReason) → Result ReadingData SourceReason
unless_refused n (Ok r) next = next r
unless_refused n (Err refusal) next = Err (record { line = n; column = refusal.0; why = refusal.1 })

-- the source after more lines, behind n lines before them, or the first of them that cannot be read
abbrev pub lines_after : ReadingData → ℕ → List (List ℕ) → Result ReadingData SourceReason
lines_after r n [] = Ok r
lines_after r n (l ∷ ls) = unless_refused (n + 1) (line_after r (n + 1) l) (λ s. lines_after s (n + 1) ls)

abbrev pub source_of : ReadingData → SourceData
source_of r = record { exercise = r.draft.exercise; stations = r.draft.stations; setup = r.setup; lines = r.lines; labels = r.labels }

abbrev pub ended : ReadingData → Option LineReason → Result SourceData SourceReason
ended r None = Ok (source_of r)
ended r (Some reason) = Err (record { line = reason.line; column = reason.column; why = whys.Script reason.why })

-- the source after the last of n lines; there was an exercise line, and a station line
abbrev pub whole_after : ℕ → Result ReadingData SourceReason → Result SourceData SourceReason
whole_after n (Err reason) = Err reason
whole_after n (Ok r) = ended r (end_reason r.draft n)

abbrev pub too_long : SourceReason
too_long = record { line = 0; column = 0; why = whys.Script TooLong }

-- THE SOURCE THAT A TEXT SPELLS, or why it spells none: its first line that cannot be read, by the order of lines. A
-- text of more than 1,048,576 bytes has a bad line 0, before all else.
abbrev pub read_at : List ℕ → Result SourceData SourceReason
read_at text =
    if nat_lt LARGEST_SCRIPT (length text) then Err too_long
    else whole_after (length (lines_of (without_mark text))) (lines_after nothing_read 0 (lines_of (without_mark text)))

abbrev pub by_line : Result SourceData SourceReason → Result SourceData SourceFault
by_line (Ok source) = Ok source
by_line (Err reason) = Err (BadLine reason.line)

-- the source of a text, or its bad line
abbrev pub source_at : List ℕ → Result SourceData SourceFault
source_at text = by_line (read_at text)

-- why a text is no source
abbrev pub source_reason_at : List ℕ → Option SourceReason
source_reason_at text = result_err (read_at text)
