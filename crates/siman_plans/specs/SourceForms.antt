-- The wider forms of lines, in the words of scripts (profile).
use Rattle.std.specs.Prelude.{ℕ, ◌-◌, Bool, ◌||◌, ◌&&◌, nat_le, List, [], ◌∷◌, ◌++◌, map, find, length, take, drop, codes, slice_get, Option, Some, None, Result, Ok, Err, is_some, unwrap_or, if◌then◌else◌}
use Rattle.std.specs.Option.{option_map, option_or}
use Rattle.std.specs.Str.{bytes_eq}
use Rattle.siman_scripts.specs.declared.placed_word.PlacedWord.{PlacedWord}
use Rattle.siman_scripts.specs.declared.statement.Statement.{Statement}
use Rattle.siman_scripts.specs.declared.why.LineWhy.{LineWhy}
use Rattle.siman_scripts.specs.declared.why.LineWhy.TheVariants.{UnknownName}
use Rattle.siman_scripts.specs.declared.why.Why.TheVariants.{Line}
use Rattle.siman_scripts.specs.Statement.{value_of, form_of}
use Rattle.siman_scripts.specs.LineReason.{form_reason}
use Rattle.siman_plans.specs.declared.source_fault.SourceWhy.TheVariants as whys
use Rattle.siman_plans.specs.SourceFault.{Refusal, unless}

-- a word with its column, which is counted in bytes from 1
abbrev pub Placed : Type 0
Placed = ℕ × List ℕ

-- a word in memory as it is seen in contracts
abbrev pub seen : PlacedWord → Placed
seen p = (p.column, p.word.now)

-- the words without their columns
abbrev pub texts : List Placed → List (List ℕ)
texts ps = map (λ p. p.1) ps

-- the column of a word, which is counted from 0; 1 if there is none
abbrev pub column_at : List Placed → ℕ → ℕ
column_at ps place = unwrap_or (option_map (λ p. p.0) (slice_get ps place)) 1

-- the word is this one
abbrev pub reads : List ℕ → Placed → Bool
reads text p = bytes_eq p.1 text

-- Receivers.

-- the bytes before `:all`, if a word ends so
abbrev pub before_all : List ℕ → Option (List ℕ)
before_all word = if bytes_eq (drop (length word - 4) word) (codes ":all") then Some (take (length word - 4) word) else None

-- `all` (65535:65535:65535) and `S:A:all` (S:A:65535) as scripts write them; any other word as it is
abbrev pub plain_receiver : List ℕ → List ℕ
plain_receiver word =
    if bytes_eq word (codes "all") then codes "65535:65535:65535"
    else unwrap_or (option_map (λ station. station ++ codes ":65535") (before_all word)) word

-- the name of an order
abbrev pub is_order : List ℕ → Bool
is_order name =
    bytes_eq name (codes "do") || (bytes_eq name (codes "query") || (bytes_eq name (codes "set") || (bytes_eq name (codes "create") || (bytes_eq name (codes "remove") || (bytes_eq name (codes "start") || bytes_eq name (codes "stop"))))))

-- the words of a line with its receiver as scripts write it, which is the third word of an order
abbrev pub with_receiver : List Placed → List Placed
with_receiver (name ∷ station ∷ to ∷ ps) =
    if is_order name.1 then name ∷ station ∷ (to.0, plain_receiver to.1) ∷ ps else name ∷ station ∷ to ∷ ps
with_receiver ps = ps

-- Rules of a station.

-- a word gives the rule of this name
abbrev pub gives_rule : (name : List ℕ) → Placed → Bool
gives_rule name p = is_some (value_of name p.1)

-- the word that gives the rule of this name, or else this one
abbrev pub rule_in : (name : List ℕ) → (word : List ℕ) → List Placed → Placed
rule_in name word ps = unwrap_or (find (gives_rule name) ps) (1, word)

-- the words of a station's line, and the rules as scripts write them: 1, 3 and 10 without
abbrev pub with_rules : List Placed → List Placed
with_rules (name ∷ station ∷ ps) =
    name ∷ station ∷ rule_in (codes "first") (codes "first=1") ps ∷ rule_in (codes "tries") (codes "tries=3") ps ∷ rule_in (codes "wait") (codes "wait=10") ps ∷ []
with_rules ps = ps

-- a second word that gives the same rule
abbrev pub twice : (name : List ℕ) → List Placed → Option Refusal
twice name ps = option_map (λ p. (p.0, whys.RuleTwice)) (find (gives_rule name) ps)

-- why a word gives no rule, or which of the words behind it gives the same rule
abbrev pub rule_refusal : Placed → List Placed → Option Refusal
rule_refusal p ps =
    if gives_rule (codes "first") p then twice (codes "first") ps
    else if gives_rule (codes "tries") p then twice (codes "tries") ps
    else if gives_rule (codes "wait") p then twice (codes "wait") ps
    else Some (p.0, whys.RuleExpected)

-- why words are no rules, each at most once
abbrev pub rules_refusal : List Placed → Option Refusal
rules_refusal [] = None
rules_refusal (p ∷ ps) = option_or (rule_refusal p ps) (rules_refusal ps)

-- Labels.

-- an order or `tick`
abbrev pub may_be_labelled : (name : List ℕ) → Bool
may_be_labelled name = bytes_eq name (codes "tick") || is_order name

-- the last word but one is `as`
abbrev pub has_label : List Placed → Bool
has_label ps = nat_le 2 (length ps) && bytes_eq (unwrap_or (option_map (λ p. p.1) (slice_get ps (length ps - 2))) []) (codes "as")

-- the words without `as LABEL`, if these are the last two
abbrev pub without_label : List Placed → List Placed
without_label ps = if has_label ps then take (length ps - 2) ps else ps

-- the word behind `as`
abbrev pub label_of : List Placed → Option Placed
label_of ps = if has_label ps then slice_get ps (length ps - 1) else None

-- the column in which the words without a label end
abbrev pub end_of : (end : ℕ) → List Placed → ℕ
end_of end ps = if has_label ps then column_at ps (length ps - 2) else end

-- Statements.

-- the refusal of words that have no form of scripts
abbrev pub form_refusal : Option (ℕ × LineWhy) → Refusal
form_refusal None = (1, whys.Script (Line (UnknownName None)))
form_refusal (Some reason) = (reason.0, whys.Script (Line reason.1))

abbrev pub said_or : Option Statement → Refusal → Result Statement Refusal
said_or None refusal = Err refusal
said_or (Some s) refusal = Ok s

-- what words say in a form of scripts, or why they have none; the line ends before this column
abbrev pub statement_in : (end : ℕ) → List Placed → Result Statement Refusal
statement_in end ps = said_or (form_of (texts ps)) (form_refusal (form_reason end ps))

-- what the words of a station's line say
abbrev pub station_in : (end : ℕ) → List Placed → Result Statement Refusal
station_in end ps = unless (rules_refusal (drop 2 ps)) (statement_in end (with_rules ps))
