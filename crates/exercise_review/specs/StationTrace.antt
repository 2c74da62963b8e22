-- Everything the logs of an order's maker and of one station hold about the order, collected from the last entry to the
-- first (profile).
use Rattle.std.specs.Prelude.{◌≡◌, ℕ, List, length, Bool, false, Option, option_and_then, IfSome}
use Rattle.std.specs.Option.{option_map_or}
use Rattle.exercise_model.specs.Recording.{PlainRecording}
use Rattle.exercise_model.specs.Place.{first_below}
use Rattle.exercise_model.specs.Meaning.{meaning}
use Rattle.exercise_review.specs.declared.station_trace.StationTrace.{StationTrace}
use Rattle.exercise_review.specs.declared.reply.Reply.{Reply}
use Rattle.exercise_review.specs.declared.answered.Replied.{Replied}
use Rattle.exercise_review.specs.declared.news.HeardReplies.{HeardReplies}
use Rattle.exercise_review.specs.declared.word.EntryWord.{EntryWord}
use Rattle.exercise_review.specs.declared.word.Word.{Word}
use Rattle.exercise_review.specs.Counted.{count_below, last_below}
use Rattle.exercise_review.specs.Heard.{gets_in}
use Rattle.exercise_review.specs.Order.{OrderData, sends_order}
use Rattle.exercise_review.specs.Outcome.{receipts_of}
use Rattle.exercise_review.specs.Party.{first_copy}
use Rattle.exercise_review.specs.Reply.{is_reply, is_news, change_of_order}
use Rattle.exercise_review.specs.Word.{word_of, word_at, first_settling}

-- the reply exists and settles
abbrev pub settles_in : Option Reply → Bool
settles_in reply = option_map_or (λ (x : Reply). x.settles) reply false

-- the first entry at which an optional maker receives an optional reply
abbrev pub first_news : PlainRecording → (maker : Option ℕ) → Option Reply → Option ℕ
first_news r maker reply = option_and_then (λ s. option_and_then (λ (x : Reply). first_below (gets_in r s x.bytes.now) (length r.entries)) reply) maker

-- the last entry at which it does
abbrev pub last_news : PlainRecording → (maker : Option ℕ) → Option Reply → Option ℕ
last_news r maker reply = option_and_then (λ s. option_and_then (λ (x : Reply). last_below (gets_in r s x.bytes.now) (length r.entries)) reply) maker

-- the word of these bytes
abbrev pub word_in : PlainRecording → List ℕ → Option Word
word_in r b = option_and_then (λ p. word_of p.body) (meaning r.setting.exercise b)

-- the word is that of the entry
abbrev pub IsEntryWord : PlainRecording → EntryWord → Type 0
IsEntryWord r x = x.word ≡ option_and_then (word_at r) x.entry

-- the words of the replies, and of those that the maker heard, are those of their entries
pub record AreEntryWords (r : PlainRecording) (replied : Replied) (news : HeardReplies) : Type 0 where
  pub settled : IsEntryWord r replied.settled
  pub last : IsEntryWord r replied.last
  pub heard : IsEntryWord r news.settled
  pub heard_last : IsEntryWord r news.last

-- EVERYTHING ABOUT AN ORDER at station t: its sends and its copies there, the replies of the station, and those that
-- the maker heard
pub record IsStationTrace (r : PlainRecording) (o : OrderData) (t : ℕ) (x : StationTrace) : Type 0 where
  pub sends : x.sends ≡ count_below (sends_order r t o.request) (length r.entries)
  pub count : x.copies.count ≡ receipts_of r o t
  pub first : x.copies.first ≡ first_copy r o t
  pub settled : x.replied.settled.entry ≡ first_settling r (is_reply r o t)
  pub last : x.replied.last.entry ≡ last_below (is_reply r o t) (length r.entries)
  pub change : x.replied.change ≡ change_of_order r o t
  pub heard : x.news.settled.entry ≡ first_settling r (is_news r o t)
  pub news : x.news.last.entry ≡ last_below (is_news r o t) (length r.entries)
  pub words : AreEntryWords r x.replied x.news

-- everything about an order at its maker, if that was collected
abbrev pub IsOwn : PlainRecording → OrderData → Option StationTrace → Type 0
IsOwn r o own = IfSome own (λ (x : StationTrace). IfSome o.maker (λ s. IsStationTrace r o s x))
