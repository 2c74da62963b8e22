-- The words of answers, and which of several answers counts (SISO-REF-010: response flag of an Acknowledge, request
-- status of an Action Response).
use Rattle.std.specs.Prelude.{ℕ, List, length, Bool, true, false, ◌&&◌, ◌==◌, decimal, Option, Some, None, option_and_then, if◌then◌else◌}
use Rattle.std.specs.Option.{option_or, option_map_or}
use Rattle.dis_records.specs.declared.kind.Kind.TheVariants as kinds
use Rattle.dis_records.specs.Texts.{kind_text}
use Rattle.siman_pdus.specs.declared.response_flag.ResponseFlag.TheVariants as responses
use Rattle.siman_pdus.specs.declared.request_status.RequestStatus.TheVariants as statuses
use Rattle.siman_pdus.specs.FieldNames.{response_text, status_text}
use Rattle.siman_pdus.specs.declared.pdu.Body.{Body}
use Rattle.siman_pdus.specs.declared.pdu.Body.TheVariants as bodies
use Rattle.exercise_model.specs.Recording.{PlainRecording}
use Rattle.exercise_model.specs.Place.{first_below}
use Rattle.exercise_review.specs.declared.word.Word.{Word}
use Rattle.exercise_review.specs.declared.word.Word.TheVariants as words
use Rattle.exercise_review.specs.Counted.{last_below}
use Rattle.exercise_review.specs.Entries.{pdu_at}

-- the word of an Acknowledge, by its response flag; a number without a name is its own word
abbrev pub response_word : ℕ → Word
response_word n =
    if n == 0 then words.Other
    else (if n == 1 then words.Able
    else (if n == 2 then words.Unable
    else (if n == 3 then words.Pending
    else words.Number n)))

-- the word of an Action Response, by its request status
abbrev pub status_word : ℕ → Word
status_word n =
    if n == 0 then words.Other
    else (if n == 1 then words.Pending
    else (if n == 2 then words.Executing
    else (if n == 3 then words.PartiallyComplete
    else (if n == 4 then words.Complete
    else (if n == 5 then words.Rejected
    else words.Number n)))))

-- THE WORD OF AN ANSWER; the other kinds have none
abbrev pub word_of : Body → Option Word
word_of (bodies.Acknowledge flag response request) = Some (response_word response)
word_of (bodies.ActionResponse request status datums) = Some (status_word status)
word_of (bodies.DataPdu request datums) = Some words.Data
word_of body = None

-- AN ANSWER SETTLES ITS ORDER: an Acknowledge with the response able (1) or unable (2), an Action Response with a request status other than
-- pending (1), executing (2) and partially complete (3), a Data always
abbrev pub settles : Body → Bool
settles (bodies.Acknowledge flag response request) = if response == 1 then true else (response == 2)
settles (bodies.ActionResponse request status datums) = if status == 1 then false else (if status == 2 then false else (if status == 3 then false else true))
settles (bodies.DataPdu request datums) = true
settles body = false

-- the word of the PDU that entry i sends or receives
unfoldable pub word_at : PlainRecording → ℕ → Option Word
word_at r i = option_and_then (λ p. word_of p.body) (pdu_at r i)

-- the PDU that entry i sends or receives settles its order
unfoldable pub settles_at : PlainRecording → ℕ → Bool
settles_at r i = option_map_or (λ p. settles p.body) (pdu_at r i) false

-- entry i passes, and settles
abbrev pub is_settling : PlainRecording → (ℕ → Bool) → ℕ → Bool
is_settling r test i = test i && settles_at r i

-- the first entry that passes and settles
unfoldable pub first_settling : PlainRecording → (ℕ → Bool) → Option ℕ
first_settling r test = first_below (is_settling r test) (length r.entries)

-- THE ENTRY WHOSE WORD COUNTS among those that pass: the first that settles, else the last
unfoldable pub decisive_entry : PlainRecording → (ℕ → Bool) → Option ℕ
decisive_entry r test = option_or (first_settling r test) (last_below test (length r.entries))

-- THE WORD THAT COUNTS among those that pass
abbrev pub decisive_word : PlainRecording → (ℕ → Bool) → Option Word
decisive_word r test = option_and_then (word_at r) (decisive_entry r test)

-- the spelling of a word
abbrev pub word_text : Word → List ℕ
word_text words.Other = response_text responses.Other
word_text words.Able = response_text responses.Able
word_text words.Unable = response_text responses.Unable
word_text words.Pending = response_text responses.Pending
word_text words.Executing = status_text statuses.Executing
word_text words.PartiallyComplete = status_text statuses.PartiallyComplete
word_text words.Complete = status_text statuses.Complete
word_text words.Rejected = status_text statuses.Rejected
word_text words.Data = kind_text kinds.DataPdu
word_text (words.Number n) = decimal n
