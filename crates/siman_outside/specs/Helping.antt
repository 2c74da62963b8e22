-- Which words that ask for no task ask for help (profile).
use Rattle.std.specs.Prelude.{ℕ, ◌-◌, Bool, true, false, List, [], ◌∷◌, length, nat_lt, slice_index, ◌==◌, ◌&&◌, ◌||◌, codes, Option, Some, None, is_some, if◌then◌else◌}
use Rattle.std.specs.Str.{bytes_eq}
use Rattle.siman_outside.specs.declared.commands.Takes.{Takes}
use Rattle.siman_outside.specs.declared.commands.Takes.TheVariants as shapes
use Rattle.siman_outside.specs.Options.{most, takes_json, takes_prose, takes_force, takes_torn}
use Rattle.siman_outside.specs.Words.{is_option, is_choice, takes_named}

-- `--help`, or `-h` and more; `--version`, or `-V` and more
abbrev pub is_short : (letter : ℕ) → List ℕ → Bool
is_short letter word = nat_lt 1 (length word) && ((slice_index word 0 == 45) && (slice_index word 1 == letter))

abbrev pub is_help : List ℕ → Bool
is_help word = bytes_eq word (codes "--help") || is_short 104 word

abbrev pub is_version : List ℕ → Bool
is_version word = bytes_eq word (codes "--version") || is_short 86 word

-- how many times an option is still allowed after this word
abbrev pub left_of : (option word : List ℕ) → (left : ℕ) → ℕ
left_of option word left = if bytes_eq word option then left - 1 else left

-- a refused word: an option that is not allowed any more or not taken, or one name too many
abbrev pub is_refused : (names json prose force torn : ℕ) → List ℕ → Bool
is_refused names json prose force torn word =
    if bytes_eq word (codes "--json") then json == 0
    else if bytes_eq word (codes "--prose") then prose == 0
    else if bytes_eq word (codes "--force") then force == 0
    else if bytes_eq word (codes "--torn") then torn == 0
    else (names == 0) || is_option word

-- words after a command ask for its help, before any word that it refuses
abbrev pub helps_behind : (names json prose force torn : ℕ) → List (List ℕ) → Bool
helps_behind names json prose force torn [] = false
helps_behind names json prose force torn (word ∷ words) =
    is_help word
    || (if is_refused names json prose force torn word then false
    else helps_behind (if is_choice word then names else names - 1) (left_of (codes "--json") word json) (left_of (codes "--prose") word prose) (left_of (codes "--force") word force)
    (left_of (codes "--torn") word torn) words)

-- the largest number of names that a command takes, of so many words
abbrev pub most_names : Takes → (words : ℕ) → ℕ
most_names (shapes.Nothing command) words = 0
most_names (shapes.One command) words = 1
most_names (shapes.Two command) words = 2
most_names shapes.PerhapsTwo words = 2
most_names shapes.Source words = 2
most_names takes words = words

abbrev pub helps : Option Takes → List (List ℕ) → Bool
helps None words = false
helps (Some takes) words = helps_behind (most_names takes (length words)) (most (takes_json takes)) (most (takes_prose takes)) (most (takes_force takes)) (most (takes_torn takes)) words

-- `help` alone, or before the name of a command or itself
abbrev pub is_topic : List (List ℕ) → Bool
is_topic [] = true
is_topic (name ∷ []) = bytes_eq name (codes "help") || is_some (takes_named name)
is_topic words = false

-- WHICH WORDS that ask for no task ASK FOR HELP; the others are a fault of usage
abbrev pub asks_help : List (List ℕ) → Bool
asks_help (program ∷ first ∷ rest) = is_help first || (is_version first || ((bytes_eq first (codes "help") && is_topic rest) || helps (takes_named first) rest))
asks_help words = false
