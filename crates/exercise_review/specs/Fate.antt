-- The fate of an order at one of its parties, by the logs of its maker and of that party (profile).
use Rattle.std.specs.Prelude.{ℕ, List, [], ◌∷◌, length, Bool, true, false, ◌&&◌, not, codes, Option, Some, None, is_some, option_and_then, if◌then◌else◌}
use Rattle.exercise_model.specs.Recording.{PlainRecording}
use Rattle.exercise_model.specs.Place.{first_below}
use Rattle.exercise_review.specs.declared.fate.Fate.{Fate}
use Rattle.exercise_review.specs.declared.fate.Fate.TheVariants as fates
use Rattle.exercise_review.specs.declared.fate.Traces.{Traces}
use Rattle.exercise_review.specs.declared.party.Party.{Party}
use Rattle.exercise_review.specs.declared.party.Party.TheVariants as parties
use Rattle.exercise_review.specs.declared.word.Word.{Word}
use Rattle.exercise_review.specs.declared.word.Word.TheVariants as words
use Rattle.exercise_review.specs.Order.{OrderData}
use Rattle.exercise_review.specs.Party.{first_copy}
use Rattle.exercise_review.specs.Reply.{is_reply, is_news}
use Rattle.exercise_review.specs.Word.{word_at, first_settling}

-- the fate of an order whose maker heard this word in an answer that settles
abbrev pub fate_heard : Word → Fate
fate_heard words.Able = fates.Done
fate_heard words.Complete = fates.Done
fate_heard words.Data = fates.Done
fate_heard words.Unable = fates.Refused
fate_heard words.Rejected = fates.Refused
fate_heard word = fates.Answered

abbrev pub fate_of_heard : Option Word → Fate
fate_of_heard None = fates.Answered
fate_of_heard (Some word) = fate_heard word

-- the fate of the first row that holds; unknown if none does
abbrev pub first_fate : List (Bool × Fate) → Fate
first_fate [] = fates.Unknown
first_fate (row ∷ rows) = if row.0 then row.1 else first_fate rows

-- THE ROWS OF FATES at a recorded party: a row applies only if every log that it needs is recorded, the maker's only if
-- the maker is
abbrev pub fate_rows : Traces → List (Bool × Fate)
fate_rows t =
    (t.made && is_some t.heard, fate_of_heard t.heard)
    ∷ (t.made && t.settled, fates.Unheard)
    ∷ (t.replied && not t.settled, fates.Pending)
    ∷ (t.got && not t.replied, fates.Unanswered)
    ∷ (not t.got, fates.Lost)
    ∷ []

abbrev pub fate_of_traces : Traces → Fate
fate_of_traces t = first_fate (fate_rows t)

-- the word of the first answer of station t that settles the order and that the maker heard
abbrev pub word_heard : PlainRecording → OrderData → ℕ → Option Word
word_heard r o t = option_and_then (word_at r) (first_settling r (is_news r o t))

-- station t replied to the order
abbrev pub has_replied : PlainRecording → OrderData → ℕ → Bool
has_replied r o t = is_some (first_below (is_reply r o t) (length r.entries))

-- THE TRACES OF AN ORDER at station t: whether its maker is recorded; the word of the first answer of t that settles
-- and that the maker heard; and whether t sent a reply that settles, sent any reply, and received a copy
unfoldable pub traces_of : PlainRecording → OrderData → ℕ → Traces
traces_of r o t =
    record {
      made = is_some o.maker;
      heard = word_heard r o t;
      settled = is_some (first_settling r (is_reply r o t));
      replied = has_replied r o t;
      got = is_some (first_copy r o t);
    }

-- THE FATE OF AN ORDER at a party: unknown at an address of no recorded station
unfoldable pub fate_of : PlainRecording → OrderData → Party → Fate
fate_of r o (parties.Station t) = fate_of_traces (traces_of r o t)
fate_of r o (parties.Outside a) = fates.Unknown

-- the fate needs the log of the maker and the log of the party
abbrev pub needs_both_logs : Fate → Bool
needs_both_logs fates.Done = true
needs_both_logs fates.Refused = true
needs_both_logs fates.Answered = true
needs_both_logs fates.Unheard = true
needs_both_logs fate = false

-- the spelling of a fate
abbrev pub fate_text : Fate → List ℕ
fate_text fates.Done = codes "done"
fate_text fates.Answered = codes "answered"
fate_text fates.Refused = codes "refused"
fate_text fates.Pending = codes "pending"
fate_text fates.Unheard = codes "unheard"
fate_text fates.Unanswered = codes "unanswered"
fate_text fates.Lost = codes "lost"
fate_text fates.Unknown = codes "unknown"
fate_text fates.Nobody = codes "nobody"
