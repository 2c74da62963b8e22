-- What a station did, in words, with the names that a log uses (profile).
use Rattle.std.specs.Prelude.{ℕ, List, [], ◌∷◌, ◌++◌, codes, Option, Some, None}
use Rattle.dis_records.specs.declared.address.SiteApplication.{SiteApplication}
use Rattle.dis_records.specs.Texts.{entity_text, kind_text, state_text}
use Rattle.dis_records.specs.declared.entity_state.EntityState.{EntityState}
use Rattle.exercise_review.specs.declared.word.Word.{Word as Said}
use Rattle.exercise_review.specs.declared.word.Word.TheVariants as words
use Rattle.exercise_review.specs.Word.{word_text}
use Rattle.exercise_chart.specs.declared.row.Repetition.{Repetition}
use Rattle.exercise_chart.specs.declared.row.Repetition.TheVariants as agains
use Rattle.exercise_chart.specs.declared.row.Activity.{Activity}
use Rattle.exercise_chart.specs.declared.row.Activity.TheVariants as deeds
use Rattle.exercise_chart.specs.declared.saying.Saying.{Saying}
use Rattle.siman_print.specs.declared.spelling.Spelling.TheVariants.{Text}
use Rattle.siman_print.specs.Line.{Number, Word, Bare, Keyed}
use Rattle.siman_print.specs.Spelled.{fields_spelled}
use Rattle.dis_records.specs.Entity.{entity_of}

-- what an answer says; a Data needs no word, its kind says it
abbrev pub answer_words : Option Said → List ℕ
answer_words None = []
answer_words (Some words.Data) = []
answer_words (Some word) = codes " " ++ word_text word

-- the kind of a PDU, and what an answer says
abbrev pub kind_words : Saying → List ℕ
kind_words said = fields_spelled Text (Bare (codes "kind") (Word (kind_text said.kind)) ∷ []) ++ answer_words said.word

abbrev pub request_words : Option ℕ → List ℕ
request_words (Some n) = fields_spelled Text (Keyed (codes "request") (Number n) ∷ [])
request_words None = []

abbrev pub repetition_words : Repetition → List ℕ
repetition_words agains.No = []
repetition_words agains.Repeated = codes " (repeat)"
repetition_words agains.SameBytes = codes " (same bytes again)"

-- sent KIND WORD to=ID request=N
abbrev pub sent_words : Saying → Repetition → List ℕ
sent_words said again =
    codes " sent" ++ kind_words said ++ fields_spelled Text (Keyed (codes "to") (Word (entity_text said.target)) ∷ []) ++ request_words said.request
    ++ repetition_words again

-- received KIND WORD from=ID request=N
abbrev pub received_words : Saying → List ℕ
received_words said =
    codes " received" ++ kind_words said ++ fields_spelled Text (Keyed (codes "from") (Word (entity_text said.origin)) ∷ []) ++ request_words said.request

-- sent other bytes=N, or received other bytes=N
abbrev pub other_words : (did : List ℕ) → (bytes : ℕ) → List ℕ
other_words did bytes =
    fields_spelled Text (Bare (codes "did") (Word did) ∷ Bare (codes "kind") (Word (codes "other")) ∷ Keyed (codes "bytes") (Number bytes) ∷ [])

-- told entity=ID state=STATE
abbrev pub told_words : SiteApplication → (entity : ℕ) → EntityState → List ℕ
told_words address e y =
    fields_spelled Text (Bare (codes "did") (Word (codes "told")) ∷ Keyed (codes "entity") (Word (entity_text (entity_of address e)))
    ∷ Keyed (codes "state") (Word (state_text y)) ∷ [])

-- WHAT THE STATION WITH AN ADDRESS DID
unfoldable pub activity_words : SiteApplication → Activity → List ℕ
activity_words address (deeds.Sent said again) = sent_words said again
activity_words address (deeds.Received said) = received_words said
activity_words address (deeds.SentOther bytes) = other_words (codes "sent") bytes
activity_words address (deeds.ReceivedOther bytes) = other_words (codes "received") bytes
activity_words address (deeds.Told e y) = told_words address e y
