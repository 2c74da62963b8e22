-- Compact rows of orders at their parties: fields that can be read from the log are left out (profile).
use Rattle.std.specs.Prelude.{◌≡◌, ◌==◌, ℕ, ◌+◌, ◌<◌, ◌≤◌, List, ◌++◌, length, map, Option, Some, None, IfSome, option_map, option_and_then, unwrap_or, Result, Ok, Err, if◌then◌else◌}
use Rattle.std.specs.Option.{option_or}
use Rattle.exercise_model.specs.Recording.{PlainRecording}
use Rattle.exercise_findings.specs.Number.{entry_of}
use Rattle.exercise_review.specs.declared.fault.ReviewFault.{ReviewFault}
use Rattle.exercise_review.specs.declared.fault.ReviewFault.TheVariants.{OverLimit, Memory}
use Rattle.exercise_review.specs.declared.outcome.Outcome.{Outcome}
use Rattle.exercise_review.specs.declared.party.Party.{Party}
use Rattle.exercise_review.specs.declared.party.Party.TheVariants as parties
use Rattle.exercise_review.specs.declared.row.OrderRow.{OrderRow}
use Rattle.exercise_review.specs.declared.told.OrderAt.{OrderAt}
use Rattle.exercise_review.specs.declared.word.Word.{Word}
use Rattle.exercise_review.specs.declared.word.Word.TheVariants as words
use Rattle.exercise_review.specs.Order.{OrderData, order_at}
use Rattle.exercise_review.specs.Outcome.{took, known_sends}
use Rattle.exercise_review.specs.Told.{order_at_party}
use Rattle.exercise_review.specs.Word.{word_at}

-- how often an order was sent, if its maker is recorded
abbrev pub row_sends : (maker : Option ℕ) → ℕ → Option ℕ
row_sends maker count = option_map (λ s. count) maker

-- how often a recorded station received an order; none for other parties
abbrev pub row_receipts : Option Party → ℕ → Option ℕ
row_receipts None count = None
row_receipts (Some (parties.Station s)) count = Some count
row_receipts (Some (parties.Outside a)) count = None

-- the word with this number, if any
abbrev pub word_numbered : ℕ → Option Word
word_numbered n =
    if n == 1 then Some words.Other
    else (if n == 2 then Some words.Able
    else (if n == 3 then Some words.Unable
    else (if n == 4 then Some words.Pending
    else (if n == 5 then Some words.Executing
    else (if n == 6 then Some words.PartiallyComplete
    else (if n == 7 then Some words.Complete
    else (if n == 8 then Some words.Rejected
    else (if n == 9 then Some words.Data
    else None))))))))

-- the word with this number, or else the word of an optional entry
abbrev pub row_word : PlainRecording → ℕ → Option ℕ → Option Word
row_word r n entry = option_or (word_numbered n) (option_and_then (word_at r) entry)

-- the outcome in a row, with the words and the time read from the log where needed
abbrev pub row_outcome : PlainRecording → OrderData → OrderRow → Outcome
row_outcome r o x = record {
  party = x.party;
  sends = row_sends o.maker x.sends;
  receipts = row_receipts x.party x.receipts;
  got = entry_of x.got;
  said = row_word r x.said (entry_of x.answer);
  answer = entry_of x.answer;
  heard = row_word r x.heard (entry_of x.news);
  news = entry_of x.news;
  took = took r o (entry_of x.news);
  change = entry_of x.change;
  fate = x.fate;
}

-- THE CONTENTS OF A ROW: the order at its head, at its party
unfoldable pub row_order : PlainRecording → OrderRow → Option OrderAt
row_order r x = option_map (λ o. order_at_party r o (row_outcome r o x)) (order_at r x.head)

-- THE ROWS have these orders at their parties as their contents
abbrev pub AreRows : PlainRecording → List OrderRow → List OrderAt → Type 0
AreRows r rows told = map (row_order r) rows ≡ map Some told

-- ROWS OF THESE ORDERS appended to the rows, at most `most` in all; OverLimit means that these would be more; Memory
-- says nothing
abbrev pub AddsRows : PlainRecording → (most : ℕ) → (old : List OrderRow) → (added : List OrderAt) → Result (Unit {0}) ReviewFault → (new : List OrderRow) → Type 0
AddsRows r most old added (Ok x) new = (map (row_order r) new ≡ map (row_order r) old ++ map Some added) × (length new ≤ most)
AddsRows r most old added (Err OverLimit) new = most < length old + length added
AddsRows r most old added (Err Memory) new = Unit {0}

-- ---- outcomes that a row can represent

-- an entry of the recording, if there is one
abbrev pub IsAmong : PlainRecording → Option ℕ → Type 0
IsAmong r entry = IfSome entry (λ i. i < length r.entries)

-- A ROW CAN REPRESENT AN OUTCOME: its entries are in the recording, and its other fields follow from them
pub record IsKept (r : PlainRecording) (o : OrderData) (x : Outcome) : Type 0 where
  pub sends : x.sends ≡ known_sends r o
  pub receipts : x.receipts ≡ row_receipts x.party (unwrap_or x.receipts 0)
  pub count : IfSome x.receipts (λ n. n ≤ length r.entries)
  pub said : x.said ≡ option_and_then (word_at r) x.answer
  pub heard : x.heard ≡ option_and_then (word_at r) x.news
  pub took : x.took ≡ took r o x.news
  pub got : IsAmong r x.got
  pub answer : IsAmong r x.answer
  pub news : IsAmong r x.news
  pub change : IsAmong r x.change
