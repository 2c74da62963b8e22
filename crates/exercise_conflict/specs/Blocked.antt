-- The blocked list, and the rules that its causes break.
use Rattle.std.specs.Prelude.{ℕ, List, [], ◌∷◌, map, length, codes, Bool, ◌==◌}
use Rattle.std.specs.List.{filter, list_any}
use Rattle.dis_records.specs.declared.address.SiteApplication.{SiteApplication}
use Rattle.exercise_model.specs.declared.cause.Cause.{Cause}
use Rattle.exercise_model.specs.Numbers.{cause_number, cause_text}
use Rattle.exercise_model.specs.Recording.{PlainRecording}
use Rattle.exercise_model.specs.History.{station_at}
use Rattle.exercise_audit.specs.declared.blocks.Block.{Block}
use Rattle.siman_print.specs.Line.{Number, Word, Bare, Keyed, Line, named_line}
use Rattle.siman_print.specs.Spelled.{address_text}
use Rattle.siman_print.specs.CountLine.{counted}
use Rattle.exercise_conflict.specs.Lines.{rule_line}

-- blocked stations=N
abbrev pub blocked_line : ℕ → Line
blocked_line count = counted (codes "blocked") (codes "stations") count

-- blocked SITE:APPLICATION record=N cause=N NAME
abbrev pub block_at : SiteApplication → Block → Line
block_at address b =
    named_line (codes "blocked") (Bare (codes "address") (Word (address_text address)) ∷ Keyed (codes "record") (Number b.entry)
    ∷ Keyed (codes "cause") (Number (cause_number b.cause)) ∷ Bare (codes "name") (Word (cause_text b.cause)) ∷ [])

-- the row of a block, with the address of its station
abbrev pub block_line : PlainRecording → Block → Line
block_line r b = block_at (station_at r b.station).address b

-- THE BLOCKED LIST: blocked stations=N, and a row for each block, in their order
abbrev pub blocked_lines : PlainRecording → List Block → List Line
blocked_lines r blocks = blocked_line (length blocks) ∷ map (block_line r) blocks

-- explained steps=N
abbrev pub explained_line : ℕ → Line
explained_line steps = counted (codes "explained") (codes "steps") steps

-- some block has this cause
abbrev pub has_cause : List Block → Cause → Bool
has_cause blocks cause = list_any (λ (b : Block). cause_number b.cause == cause_number cause) blocks

-- THE RULES that the causes of a blocked list break, of these causes, each once, in their order
abbrev pub rule_lines : List Block → List Cause → List Line
rule_lines blocks causes = map rule_line (filter (has_cause blocks) causes)
