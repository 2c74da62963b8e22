-- The report of `check` for a recording that a certificate explains, and the row of the first bad
-- step.
use Rattle.std.specs.Prelude.{ℕ, zero, suc, List, [], ◌∷◌, ◌++◌, length, codes, Option, Some, None}
use Rattle.std.specs.List.{flat_map}
use Rattle.dis_records.specs.declared.address.SiteApplication.{SiteApplication}
use Rattle.dis_records.specs.declared.entity_state.EntityState.{EntityState}
use Rattle.dis_records.specs.declared.entity.EntityId.{EntityId}
use Rattle.dis_records.specs.Texts.{entity_text, state_text}
use Rattle.exercise_model.specs.declared.cause.Cause.{Cause}
use Rattle.exercise_model.specs.Recording.{PlainRecording}
use Rattle.exercise_model.specs.History.{station_at}
use Rattle.exercise_model.specs.Numbers.{cause_number, cause_text}
use Rattle.exercise_model.specs.Account.{pair_of, change_behind, others_of, entities_of}
use Rattle.siman_print.specs.Line.{Number, Word, Bare, Keyed, Spelt, Line, named_line}
use Rattle.siman_print.specs.Spelled.{line_text}
use Rattle.siman_print.specs.Below.{texts_below}
use Rattle.dis_records.specs.Entity.{entity_of}

-- answer ENTRY request ENTRY
abbrev pub answer_line : ℕ → ℕ → Line
answer_line entry request = named_line (codes "answer") (Bare (codes "entry") (Number entry) ∷ Spelt (codes "request") (Number request) ∷ [])

-- known ENTRY change ENTRY
abbrev pub known_line : ℕ → ℕ → Line
known_line entry change = named_line (codes "known") (Bare (codes "entry") (Number entry) ∷ Spelt (codes "change") (Number change) ∷ [])

-- entity SITE:APPLICATION:ENTITY STATE
abbrev pub entity_line : SiteApplication → ℕ × EntityState → Line
entity_line address present =
    named_line (codes "entity") (Bare (codes "entity") (Word (entity_text (entity_of address present.0))) ∷ Bare (codes "state") (Word (state_text present.1)) ∷ [])

-- the row of an entry with another that belongs to it, or nothing
abbrev pub line_with : (ℕ → ℕ → Line) → ℕ → Option ℕ → List ℕ
line_with line entry None = []
line_with line entry (Some other) = line_text (line entry other)

-- the rows of an entry that is an answer, of a received Able Acknowledge with a change behind it,
-- and of a station's entities
abbrev pub answer_at : PlainRecording → ℕ → List ℕ
answer_at r i = line_with answer_line i (pair_of r i)

abbrev pub known_at : PlainRecording → ℕ → List ℕ
known_at r i = line_with known_line i (change_behind r i)

abbrev pub entities_at : PlainRecording → ℕ → List ℕ
entities_at r s = flat_map (λ present. line_text (entity_line (station_at r s).address present)) (entities_of r s)

-- a row of two entries, by its name and the key of the other entry
abbrev pub pair_line : (name key : List ℕ) → ℕ → ℕ → Line
pair_line name key entry other = named_line name (Bare (codes "entry") (Number entry) ∷ Spelt key (Number other) ∷ [])

-- yes records=N others=N
abbrev pub yes_line : ℕ → ℕ → Line
yes_line records others = named_line (codes "yes") (Keyed (codes "records") (Number records) ∷ Keyed (codes "others") (Number others) ∷ [])

-- THE REPORT: its first row; in rising order the request of each answer; in rising order the change
-- behind each received Able Acknowledge; by station and in rising order the entities that are not
-- Absent at the end
abbrev pub report_text : PlainRecording → List ℕ
report_text r =
    line_text (yes_line (length r.entries) (others_of r)) ++ texts_below (answer_at r) (length r.entries) ++ texts_below (known_at r) (length r.entries)
    ++ texts_below (entities_at r) (length r.setting.stations)

-- no step=N cause=N NAME
abbrev pub no_line : ℕ → Cause → Line
no_line step cause =
    named_line (codes "no") (Keyed (codes "step") (Number step) ∷ Keyed (codes "cause") (Number (cause_number cause)) ∷ Bare (codes "name") (Word (cause_text cause)) ∷ [])

abbrev pub no_text : ℕ → Cause → List ℕ
no_text step cause = line_text (no_line step cause)
