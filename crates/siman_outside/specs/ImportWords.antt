-- The words of `import` behind the recording that it makes: how the capture is read, and how the station opens (profile).
use Rattle.std.specs.Prelude.{ℕ, Bool, true, false, ◌==◌, length, List, [], ◌∷◌, codes, Option, Some, None, is_some, option_map, if◌then◌else◌}
use Rattle.std.specs.Str.{bytes_eq}
use Rattle.byte_files.specs.Text.{cut_at, ◌>>=◌}
use Rattle.siman_outside.specs.Endpoints.{port_of}
use Rattle.siman_outside.specs.declared.import_words.ImportChoices.{ImportChoices}
use Rattle.siman_outside.specs.declared.import_words.ImportOpening.{ImportOpening}
use Rattle.siman_outside.specs.declared.import_words.ImportOpening.TheVariants.{Nothing, Assumed}
use Rattle.siman_outside.specs.declared.import_words.ImportWord.{ImportWord}
use Rattle.siman_outside.specs.declared.import_words.ImportWord.TheVariants as words

-- ---- one word

-- what a word says: the UDP port to which datagrams of the exercise go; the name of the interface whose packets alone
-- are looked at; that packets which the capture cut are left out; that other stations send from the host, too; that the
-- station hears what its own host sends for all; how it opens
pub data Choice : Type 0 where
  Port : ℕ → Choice
  Interface : (name : List ℕ) → Choice
  Cut : Choice
  Shared : Choice
  Echo : Choice
  Opening : ImportOpening → Choice

abbrev pub choice_by : ImportWord → Choice
choice_by (words.Port port) = Port port
choice_by (words.Interface name) = Interface name.now
choice_by words.Cut = Cut
choice_by words.Shared = Shared
choice_by words.Echo = Echo
choice_by (words.Opening opening) = Opening opening

abbrev pub opening_of : List ℕ → Option ImportOpening
opening_of word = if bytes_eq word (codes "none") then Some Nothing else if bytes_eq word (codes "assumed") then Some Assumed else None

-- the name of an interface has at least one byte
abbrev pub interface_of : List ℕ → Option Choice
interface_of name = if length name == 0 then None else Some (Interface name)

-- of a word `KEY=VALUE`
abbrev pub choice_keyed : (key value : List ℕ) → Option Choice
choice_keyed key value =
    if bytes_eq key (codes "port") then option_map Port (port_of value)
    else if bytes_eq key (codes "on") then interface_of value
    else if bytes_eq key (codes "cut") then (if bytes_eq value (codes "keep") then Some Cut else None)
    else if bytes_eq key (codes "opening") then option_map Opening (opening_of value)
    else None

abbrev pub choice_with_key : List ℕ → Option Choice
choice_with_key word = do
  p ← cut_at 61 word
  choice_keyed p.0 p.1

-- WHAT A WORD SAYS: `port=N`, `on=NAME`, `cut=keep`, `shared`, `echo`, `opening=none` or `opening=assumed`
abbrev pub choice_of : List ℕ → Option Choice
choice_of word =
    if bytes_eq word (codes "shared") then Some Shared
    else if bytes_eq word (codes "echo") then Some Echo
    else choice_with_key word

-- ---- all words

-- what words say together; where a word is missing, nothing
pub record Choices : Type 0 where
  pub port : Option ℕ
  pub interface : Option (List ℕ)
  pub keeps_cut : Bool
  pub is_shared : Bool
  pub hears_itself : Bool
  pub opening : Option ImportOpening

abbrev pub choices_by : ImportChoices → Choices
choices_by c = record {
  port = c.port;
  interface = option_map (λ name. name.now) c.interface;
  keeps_cut = c.keeps_cut;
  is_shared = c.is_shared;
  hears_itself = c.hears_itself;
  opening = c.opening;
}

abbrev pub no_choices : Choices
no_choices = record { port = None; interface = None; keeps_cut = false; is_shared = false; hears_itself = false; opening = None }

-- WITH ONE MORE WORD: none where a word of its key came before
abbrev pub with_choice : Choices → Choice → Option Choices
with_choice c (Port port) = if is_some c.port then None else Some (record { port = Some port; interface = c.interface; keeps_cut = c.keeps_cut; is_shared = c.is_shared; hears_itself = c.hears_itself; opening = c.opening })
with_choice c (Interface name) = if is_some c.interface then None else Some (record { port = c.port; interface = Some name; keeps_cut = c.keeps_cut; is_shared = c.is_shared; hears_itself = c.hears_itself; opening = c.opening })
with_choice c Cut = if c.keeps_cut then None else Some (record { port = c.port; interface = c.interface; keeps_cut = true; is_shared = c.is_shared; hears_itself = c.hears_itself; opening = c.opening })
with_choice c Shared = if c.is_shared then None else Some (record { port = c.port; interface = c.interface; keeps_cut = c.keeps_cut; is_shared = true; hears_itself = c.hears_itself; opening = c.opening })
with_choice c Echo = if c.hears_itself then None else Some (record { port = c.port; interface = c.interface; keeps_cut = c.keeps_cut; is_shared = c.is_shared; hears_itself = true; opening = c.opening })
with_choice c (Opening opening) = if is_some c.opening then None else Some (record { port = c.port; interface = c.interface; keeps_cut = c.keeps_cut; is_shared = c.is_shared; hears_itself = c.hears_itself; opening = Some opening })

abbrev pub with_word : Choices → List ℕ → Option Choices
with_word c word = do
  choice ← choice_of word
  with_choice c choice

abbrev pub choices_behind : Choices → List (List ℕ) → Option Choices
choices_behind c [] = Some c
choices_behind c (word ∷ words) = do
  next ← with_word c word
  choices_behind next words

-- WHAT WORDS SAY, in any order, each key at most once; none where one says nothing
abbrev pub choices_of : List (List ℕ) → Option Choices
choices_of words = choices_behind no_choices words
