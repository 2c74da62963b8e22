-- The task that the words of a command line ask for (profile).
use Rattle.std.specs.Prelude.{ℕ, ◌+◌, Bool, true, false, not, List, [], ◌∷◌, length, map, nat_lt, nat_le, slice_index, ◌==◌, ◌&&◌, ◌||◌, codes, Option, Some, None, is_some, option_map, if◌then◌else◌}
use Rattle.std.specs.List.{starts_with}
use Rattle.std.specs.Str.{bytes_eq}
use Rattle.siman_print.specs.declared.spelling.Spelling.{Spelling}
use Rattle.siman_print.specs.declared.spelling.Spelling.TheVariants.{Text, Json}
use Rattle.siman_outside.specs.declared.commands.NoWord.{NoWord}
use Rattle.siman_outside.specs.declared.commands.NoWord.TheVariants.{Pdus}
use Rattle.siman_outside.specs.declared.commands.OneWord.{OneWord}
use Rattle.siman_outside.specs.declared.commands.OneWord.TheVariants.{Pdu, Show}
use Rattle.siman_outside.specs.declared.commands.TwoWords.{TwoWords}
use Rattle.siman_outside.specs.declared.commands.TwoWords.TheVariants.{Check, Audit, World, Live, Convert, Mend, Export}
use Rattle.siman_outside.specs.declared.commands.ViewWord.{ViewWord}
use Rattle.siman_outside.specs.declared.commands.ViewWord.TheVariants.{Review, Log, Count}
use Rattle.siman_outside.specs.declared.commands.JoinChoices.{JoinChoices}
use Rattle.siman_outside.specs.declared.commands.JoinForm.{JoinForm}
use Rattle.siman_outside.specs.declared.commands.JoinForm.TheVariants.{Open, Closed}
use Rattle.siman_outside.specs.declared.commands.ImportWords.{ImportWords}
use Rattle.siman_outside.specs.declared.commands.Listening.{Listening}
use Rattle.siman_outside.specs.declared.commands.Reading.{Reading}
use Rattle.siman_outside.specs.declared.commands.Reading.TheVariants.{Whole, Torn}
use Rattle.siman_outside.specs.declared.commands.StationChoices.{StationChoices}
use Rattle.siman_outside.specs.declared.commands.StationWords.{StationWords}
use Rattle.siman_outside.specs.declared.commands.Takes.{Takes}
use Rattle.siman_outside.specs.declared.commands.Takes.TheVariants as shapes
use Rattle.siman_outside.specs.declared.commands.Task.{Task}
use Rattle.siman_outside.specs.declared.commands.Task.TheVariants as tasks
use Rattle.siman_outside.specs.Options.{takes_json, takes_prose, takes_force, takes_torn, most}
use Rattle.siman_outside.specs.ImportWords.{Choices, choices_by, choices_of}

-- the words of a station: a script, the station's address, its recording, its socket and its peers,
-- and whom it hears, and what, and whether the clock is the system's
pub record StationAsked : Type 0 where
  pub setup : List ℕ
  pub address : List ℕ
  pub recording : List ℕ
  pub bind : List ℕ
  pub peers : List (List ℕ)
  pub listening : Listening
  pub by_system : Bool

-- the words of an import: a script, the station's address, that of its host, a capture, the recording to make, and
-- what the words behind it say
pub record ImportAsked : Type 0 where
  pub setup : List ℕ
  pub address : List ℕ
  pub host : List ℕ
  pub capture : List ℕ
  pub recording : List ℕ
  pub choices : Choices

-- a task: a command, and the words that it takes
pub data Asked : Type 0 where
  Trial : Asked
  Bare : NoWord → Asked
  -- a command, its word, and how it is read where it is a recording
  One : OneWord → (word : List ℕ) → Reading → Asked
  -- a command, its two words, whether an existing file with the second name is replaced, for a
  -- command that makes one, and how the first is read where it is a recording
  Two : TwoWords → (first second : List ℕ) → (force : Bool) → Reading → Asked
  -- the pieces of an exercise, the file to make, the form that it is to have, if the words give
  -- one, and whether an existing file is replaced
  Join : (pieces : List (List ℕ)) → (made : List ℕ) → JoinChoices → (force : Bool) → Asked
  -- the recording of a station out of a capture, and whether an existing file is replaced
  Import : ImportAsked → (force : Bool) → Asked
  -- a station that runs over the network
  Station : StationAsked → Asked
  -- a view of a recording, the words that choose among its rows, their spelling, and how the
  -- recording is read
  View : ViewWord → (recording : List ℕ) → (filters : List (List ℕ)) → Spelling → Reading → Asked
  -- the sentences of a review of a recording, the words that choose among its rows, and how the
  -- recording is read
  Prose : (recording : List ℕ) → (filters : List (List ℕ)) → Reading → Asked
  -- what contradicts what in a recording, or in a certificate of it, if the words name one, and
  -- how the recording is read
  Why : (recording : List ℕ) → (certificate : Option (List ℕ)) → Spelling → Reading → Asked
  -- what each line of a source does, the plain script to make, if the words name one, the spelling of the rows, and
  -- whether an existing file is replaced
  Plan : (source : List ℕ) → (script : Option (List ℕ)) → Spelling → (force : Bool) → Asked
  -- the picture of a recording in the sequence of a certificate, the file to make, the words that
  -- choose the shown steps, whether an existing file is replaced, and how the recording is read
  Chart : (recording certificate picture : List ℕ) → (steps : List (List ℕ)) → (force : Bool) → Reading → Asked

-- the task with its words as texts, given the text of each word
abbrev pub named_by : {S : Type 0} → (text : S → List ℕ) → StationWords S → StationAsked
named_by text words = record {
  setup = words.setup.now;
  address = words.address.now;
  recording = words.recording.now;
  bind = words.bind.now;
  peers = map text words.peers.now;
  listening = words.listening;
  by_system = words.by_system;
}

abbrev pub import_named : ImportWords → ImportAsked
import_named words = record {
  setup = words.setup.now;
  address = words.address.now;
  host = words.host.now;
  capture = words.capture.now;
  recording = words.recording.now;
  choices = choices_by words.choices;
}

abbrev pub asked_by : {S : Type 0} → (text : S → List ℕ) → Task S → Asked
asked_by text tasks.Trial = Trial
asked_by text (tasks.Bare command) = Bare command
asked_by text (tasks.One command word reading) = One command word.now reading
asked_by text (tasks.Two command first second force reading) = Two command first.now second.now force reading
asked_by text (tasks.Join pieces made choices force) = Join (map text pieces.now) made.now choices force
asked_by text (tasks.Import words force) = Import (import_named words) force
asked_by text (tasks.Station words) = Station (named_by text words)
asked_by text (tasks.View view recording filters spelling reading) = View view recording.now (map text filters.now) spelling reading
asked_by text (tasks.Prose recording filters reading) = Prose recording.now (map text filters.now) reading
asked_by text (tasks.Why recording certificate spelling reading) = Why recording.now (option_map (λ word. word.now) certificate) spelling reading
asked_by text (tasks.Plan source script spelling force) = Plan source.now (option_map (λ word. word.now) script) spelling force
asked_by text (tasks.Chart recording certificate picture steps force reading) = Chart recording.now certificate.now picture.now (map text steps.now) force reading

-- an option: a word that begins with a hyphen and is longer than one byte
abbrev pub is_option : List ℕ → Bool
is_option word = nat_lt 1 (length word) && (slice_index word 0 == 45)

-- how many times a word occurs among words
abbrev pub times : (wanted : List ℕ) → List (List ℕ) → ℕ
times wanted [] = 0
times wanted (word ∷ words) = if bytes_eq word wanted then times wanted words + 1 else times wanted words

-- an option that some commands take, anywhere after the command
abbrev pub is_choice : List ℕ → Bool
is_choice word = bytes_eq word (codes "--json") || (bytes_eq word (codes "--prose") || (bytes_eq word (codes "--force") || bytes_eq word (codes "--torn")))

-- the words after a command without these options
abbrev pub names_in : List (List ℕ) → List (List ℕ)
names_in [] = []
names_in (word ∷ words) = if is_choice word then names_in words else word ∷ names_in words

-- the names after a command, and how many times `--json`, `--prose`, `--force` and `--torn` occur among them
pub record Behind : Type 0 where
  pub names : List (List ℕ)
  pub json : ℕ
  pub prose : ℕ
  pub force : ℕ
  pub torn : ℕ

abbrev pub behind_of : List (List ℕ) → Behind
behind_of words = record { names = names_in words; json = times (codes "--json") words; prose = times (codes "--prose") words; force = times (codes "--force") words; torn = times (codes "--torn") words }

-- what the named command takes by a table, if it is in the table
abbrev pub takes_of : List (List ℕ × Takes) → (name : List ℕ) → Option Takes
takes_of [] name = None
takes_of (row ∷ rows) name = if bytes_eq row.0 name then Some row.1 else takes_of rows name

-- THE TABLE OF COMMANDS, in the order of the help: what the named command takes by its first rows
unfoldable pub takes_first : List ℕ → Option Takes
takes_first = takes_of (
    (codes "pdu", shapes.One Pdu) ∷ (codes "pdus", shapes.Nothing Pdus) ∷ (codes "show", shapes.One Show) ∷ (codes "check", shapes.Two Check)
    ∷ (codes "audit", shapes.Two Audit) ∷ (codes "world", shapes.Two World) ∷ (codes "plan", shapes.Source) ∷ (codes "live", shapes.Two Live) ∷ (codes "station", shapes.Station)
    ∷ [])

-- and by the rows behind them
unfoldable pub takes_further : List ℕ → Option Takes
takes_further = takes_of (
    (codes "convert", shapes.Two Convert) ∷ (codes "mend", shapes.Two Mend) ∷ (codes "join", shapes.Pieces) ∷ (codes "import", shapes.Capture)
    ∷ (codes "export", shapes.Two Export) ∷ (codes "review", shapes.View Review) ∷ (codes "log", shapes.View Log) ∷ (codes "count", shapes.View Count) ∷ (codes "why", shapes.PerhapsTwo)
    ∷ (codes "chart", shapes.Picture) ∷ [])

-- what the named command takes by the table
unfoldable pub takes_named : List ℕ → Option Takes
takes_named name = if is_some (takes_first name) then takes_first name else takes_further name

-- a task of a command: exactly the words that it takes, none of them an option
abbrev pub bare_asked : NoWord → List (List ℕ) → Option Asked
bare_asked command [] = Some (Bare command)
bare_asked command words = None

abbrev pub one_asked : OneWord → Reading → List (List ℕ) → Option Asked
one_asked command reading (word ∷ []) = if is_option word then None else Some (One command word reading)
one_asked command reading words = None

abbrev pub two_asked : TwoWords → (force : Bool) → Reading → List (List ℕ) → Option Asked
two_asked command force reading (first ∷ second ∷ []) =
    if is_option first || is_option second then None else Some (Two command first second force reading)
two_asked command force reading words = None

-- the split of a word and the words after it, given the split of those
abbrev pub before_last : List ℕ → Option (List (List ℕ) × List ℕ) → List (List ℕ) × List ℕ
before_last word None = ([], word)
before_last word (Some p) = (word ∷ p.0, p.1)

-- the words before the last one, and the last one
abbrev pub last_apart : List (List ℕ) → Option (List (List ℕ) × List ℕ)
last_apart [] = None
last_apart (word ∷ words) = Some (before_last word (last_apart words))

abbrev pub has_option : List (List ℕ) → Bool
has_option [] = false
has_option (word ∷ words) = is_option word || has_option words

-- a word that begins with `form=` or `parts=`
abbrev pub is_join_word : List ℕ → Bool
is_join_word word = starts_with (◌==◌) word (codes "form=") || starts_with (◌==◌) word (codes "parts=")

-- the form that a word names, if it names one
abbrev pub form_named : List ℕ → Option JoinForm
form_named word = if bytes_eq word (codes "form=open") then Some Open else if bytes_eq word (codes "form=closed") then Some Closed else None

abbrev pub form_behind : List (List ℕ) → Option (List (List ℕ) × List ℕ) → List (List ℕ) × Option JoinForm
form_behind words None = (words, None)
form_behind words (Some p) = if is_some (form_named p.1) then (p.0, form_named p.1) else (words, None)

-- the words without a form at the end, and that form
abbrev pub form_apart : List (List ℕ) → List (List ℕ) × Option JoinForm
form_apart words = form_behind words (last_apart words)

abbrev pub parts_behind : List (List ℕ) → Option (List (List ℕ) × List ℕ) → List (List ℕ) × Bool
parts_behind words None = (words, false)
parts_behind words (Some p) = if bytes_eq p.1 (codes "parts=yes") then (p.0, true) else (words, false)

-- the words without `parts=yes` at the end, and whether it was there
abbrev pub parts_apart : List (List ℕ) → List (List ℕ) × Bool
parts_apart words = parts_behind words (last_apart words)

-- the words before a form, or without one, and whether `parts=yes` is behind it or before it
abbrev pub choices_behind_form : (parts : Bool) → List (List ℕ) × Option JoinForm → List (List ℕ) × JoinChoices
choices_behind_form true p = (p.0, record { form = p.1; parts = true })
choices_behind_form false p = ((parts_apart p.0).0, record { form = p.1; parts = (parts_apart p.0).1 })

-- the words without a form and `parts=yes` at the end, in either order, and what these say
abbrev pub join_choices_apart : List (List ℕ) → List (List ℕ) × JoinChoices
join_choices_apart words = choices_behind_form (parts_apart words).1 (form_apart (parts_apart words).0)

-- words without an option, without `form=` and `parts=`
abbrev pub are_names : List (List ℕ) → Bool
are_names [] = true
are_names (word ∷ words) = not (is_option word || is_join_word word) && are_names words

-- the smallest number of pieces: two, or one if a form is given
abbrev pub fewest_pieces : Option JoinForm → ℕ
fewest_pieces None = 2
fewest_pieces (Some form) = 1

-- JOIN needs enough pieces before the file to make, and a form and `parts=yes` nowhere but at the end
abbrev pub pieces_asked : JoinChoices → (force : Bool) → Option (List (List ℕ) × List ℕ) → Option Asked
pieces_asked choices force None = None
pieces_asked choices force (Some p) = if nat_le (fewest_pieces choices.form) (length p.0) then Some (Join p.0 p.1 choices force) else None

abbrev pub join_asked : (force : Bool) → List (List ℕ) → Option Asked
join_asked force words = let p = join_choices_apart words in if are_names p.0 then pieces_asked p.1 force (last_apart p.0) else None

-- the import of these names, if the words behind them say how
abbrev pub import_of_words : (setup address host capture recording : List ℕ) → (force : Bool) → Option Choices → Option Asked
import_of_words setup address host capture recording force None = None
import_of_words setup address host capture recording force (Some choices) =
    Some (Import (record { setup = setup; address = address; host = host; capture = capture; recording = recording; choices = choices }) force)

-- IMPORT needs a script, an address, a host, a capture and the recording to make; the words behind say how the capture is
-- read
abbrev pub import_asked : (force : Bool) → List (List ℕ) → Option Asked
import_asked force (setup ∷ address ∷ host ∷ capture ∷ recording ∷ words) =
    if has_option (setup ∷ address ∷ host ∷ capture ∷ recording ∷ words) then None
    else import_of_words setup address host capture recording force (choices_of words)
import_asked force words = None

-- what no word behind the peers says: the station hears them alone, keeps one protocol family, and lines set its clock
abbrev pub no_choice : StationChoices
no_choice = record { listening = record { anyone = false; all = false }; by_system = false }

-- the choices with that of a word, if it is the word of one that they do not have
abbrev pub with_choice : StationChoices → (word : List ℕ) → Option StationChoices
with_choice choices word =
    if bytes_eq word (codes "from=any") && not choices.listening.anyone
    then Some (record { listening = record { anyone = true; all = choices.listening.all }; by_system = choices.by_system })
    else if bytes_eq word (codes "keep=all") && not choices.listening.all
    then Some (record { listening = record { anyone = choices.listening.anyone; all = true }; by_system = choices.by_system })
    else if bytes_eq word (codes "clock=system") && not choices.by_system then Some (record { listening = choices.listening; by_system = true })
    else None

-- words and choices, or, if the last word is that of one more choice, the words before it and the choices with it
abbrev pub choice_of_last : List (List ℕ) × StationChoices → (before : List (List ℕ)) → Option StationChoices → List (List ℕ) × StationChoices
choice_of_last p before None = p
choice_of_last p before (Some choices) = (before, choices)

abbrev pub choice_behind : List (List ℕ) × StationChoices → Option (List (List ℕ) × List ℕ) → List (List ℕ) × StationChoices
choice_behind p None = p
choice_behind p (Some q) = choice_of_last p q.0 (with_choice p.1 q.1)

-- one step: the words without the last one, and the choices with that of this word, if it is the word of one that they do
-- not have; else both as they are
unfoldable pub choice_apart : List (List ℕ) × StationChoices → List (List ℕ) × StationChoices
choice_apart p = choice_behind p (last_apart p.0)

-- the words without `from=any`, `keep=all` and `clock=system` at the end, in any order, each once, and what these say
abbrev pub choices_apart : List (List ℕ) → List (List ℕ) × StationChoices
choices_apart words = choice_apart (choice_apart (choice_apart (words, no_choice)))

-- the station of these names, if they include a peer
abbrev pub station_named : StationChoices → List (List ℕ) → Option Asked
station_named choices (setup ∷ address ∷ recording ∷ bind ∷ peers) =
    if length peers == 0 then None
    else Some (Station (record { setup = setup; address = address; recording = recording; bind = bind; peers = peers; listening = choices.listening; by_system = choices.by_system }))
station_named choices words = None

-- STATION needs a script, an address, a recording, a socket's address and at least one peer;
-- `from=any`, `keep=all` and `clock=system` are allowed at the end, each once
abbrev pub station_asked : List (List ℕ) → Option Asked
station_asked words = let p = choices_apart words in if has_option p.0 then None else station_named p.1 p.0

-- the spelling of rows, given how many times `--json` occurs
abbrev pub spelling_by : (json : ℕ) → Spelling
spelling_by json = if json == 0 then Text else Json

-- how a recording is read, given how many times `--torn` occurs
abbrev pub reading_by : (torn : ℕ) → Reading
reading_by torn = if torn == 0 then Whole else Torn

-- A VIEW needs a recording; the words after it choose among the rows
abbrev pub view_asked : ViewWord → Spelling → Reading → List (List ℕ) → Option Asked
view_asked view spelling reading [] = None
view_asked view spelling reading (recording ∷ filters) =
    if is_option recording || has_option filters then None else Some (View view recording filters spelling reading)

-- THE SENTENCES OF A REVIEW need a recording; the words after it choose among the rows
abbrev pub prose_asked : Reading → List (List ℕ) → Option Asked
prose_asked reading [] = None
prose_asked reading (recording ∷ filters) =
    if is_option recording || has_option filters then None else Some (Prose recording filters reading)

-- WHY needs a recording, and takes a certificate
abbrev pub why_asked : Spelling → Reading → List (List ℕ) → Option Asked
why_asked spelling reading (recording ∷ []) = if is_option recording then None else Some (Why recording None spelling reading)
why_asked spelling reading (recording ∷ certificate ∷ []) =
    if is_option recording || is_option certificate then None else Some (Why recording (Some certificate) spelling reading)
why_asked spelling reading words = None

-- PLAN needs a source, and takes the plain script to make, which alone may replace an existing file
abbrev pub plan_asked : Spelling → (force : Bool) → List (List ℕ) → Option Asked
plan_asked spelling force (source ∷ []) = if force || is_option source then None else Some (Plan source None spelling false)
plan_asked spelling force (source ∷ script ∷ []) =
    if is_option source || is_option script then None else Some (Plan source (Some script) spelling force)
plan_asked spelling force words = None

-- CHART needs a recording, its certificate and the file to make; the words after choose the shown
-- steps
abbrev pub chart_asked : (force : Bool) → Reading → List (List ℕ) → Option Asked
chart_asked force reading (recording ∷ certificate ∷ picture ∷ steps) =
    if has_option (recording ∷ certificate ∷ picture ∷ steps) then None else Some (Chart recording certificate picture steps force reading)
chart_asked force reading words = None

-- A WORD `-` IS STANDARD INPUT, which is read once; a station reads its lines there
abbrev pub reads_lines : Takes → Bool
reads_lines shapes.Station = true
reads_lines takes = false

-- `--json` and `--prose` occur at most once, if the command takes them, and not both
abbrev pub is_spelled_once : Takes → Behind → Bool
is_spelled_once takes b = nat_le b.json (most (takes_json takes)) && (nat_le b.prose (most (takes_prose takes)) && ((b.json == 0) || (b.prose == 0)))

-- each option occurs at most once, if the command takes it, and standard input is read at most once
abbrev pub are_taken : Takes → Behind → Bool
are_taken takes b =
    is_spelled_once takes b
    && (nat_le b.force (most (takes_force takes)) && (nat_le b.torn (most (takes_torn takes)) && nat_le (times (codes "-") b.names) (most (not (reads_lines takes)))))

abbrev pub taken : Takes → Spelling → (force : Bool) → Reading → List (List ℕ) → Option Asked
taken (shapes.Nothing command) spelling force reading names = bare_asked command names
taken (shapes.One command) spelling force reading names = one_asked command reading names
taken (shapes.Two command) spelling force reading names = two_asked command force reading names
taken shapes.Pieces spelling force reading names = join_asked force names
taken shapes.Capture spelling force reading names = import_asked force names
taken shapes.Station spelling force reading names = station_asked names
taken (shapes.View view) spelling force reading names = view_asked view spelling reading names
taken shapes.PerhapsTwo spelling force reading names = why_asked spelling reading names
taken shapes.Source spelling force reading names = plan_asked spelling force names
taken shapes.Picture spelling force reading names = chart_asked force reading names

-- the task of words with allowed options; the one command that takes `--prose` is `review`
abbrev pub asked_in : Takes → Behind → Option Asked
asked_in takes b = if b.prose == 0 then taken takes (spelling_by b.json) (not (b.force == 0)) (reading_by b.torn) b.names else prose_asked (reading_by b.torn) b.names

-- the task of the words after a command
abbrev pub asked_behind : Option Takes → Behind → Option Asked
asked_behind None b = None
asked_behind (Some takes) b = if are_taken takes b then asked_in takes b else None

-- a command line: its command, if it names one, and the words after it
pub record CommandLine : Type 0 where
  pub command : Option (List ℕ)
  pub behind : Behind

-- the command line of words; the first is the program's name
abbrev pub line_of : List (List ℕ) → CommandLine
line_of (program ∷ name ∷ words) = record { command = Some name; behind = behind_of words }
line_of words = record { command = None; behind = behind_of [] }

abbrev pub asked_by_name : Option (List ℕ) → Behind → Option Asked
asked_by_name None b = Some Trial
asked_by_name (Some name) b = asked_behind (takes_named name) b

-- THE TASK OF WORDS, the program's name first; other words ask for help, or are a fault of usage
abbrev pub asked : List (List ℕ) → Option Asked
asked words = let line = line_of words in asked_by_name line.command line.behind
