-- What each fate says of the traces that it is told by.
use Rattle.std.proofs.Common.{◌≡◌, Bool, true, false, Option, Some, None, refl}
use Rattle.exercise_review.specs.declared.fate.Fate.{Fate}
use Rattle.exercise_review.specs.declared.fate.Fate.TheVariants as fates
use Rattle.exercise_review.specs.declared.fate.Traces.{Traces}
use Rattle.exercise_review.specs.declared.word.Word.{Word}
use Rattle.exercise_review.specs.declared.word.Word.TheVariants as words
use Rattle.exercise_review.specs.Fate.{fate_heard, fate_of_traces}

-- a word was heard that gives this fate
pub record SaysWord (heard : Option Word) (fate : Fate) : Type 0 where
  pub word : Word
  pub there : heard ≡ Some word
  pub gives : fate_heard word ≡ fate

pub record SaysUnheard (heard : Option Word) (settled : Bool) : Type 0 where
  pub none : heard ≡ None
  pub settles : settled ≡ true

pub record SaysPending (settled replied : Bool) : Type 0 where
  pub unsettled : settled ≡ false
  pub replies : replied ≡ true

pub record SaysUnanswered (replied got : Bool) : Type 0 where
  pub silent : replied ≡ false
  pub copies : got ≡ true

-- what a fate says, where the maker is recorded
abbrev pub Says : Fate → Option Word → Bool → Bool → Bool → Type 0
Says fates.Done heard settled replied got = SaysWord heard fates.Done
Says fates.Answered heard settled replied got = SaysWord heard fates.Answered
Says fates.Refused heard settled replied got = SaysWord heard fates.Refused
Says fates.Pending heard settled replied got = SaysPending settled replied
Says fates.Unheard heard settled replied got = SaysUnheard heard settled
Says fates.Unanswered heard settled replied got = SaysUnanswered replied got
Says fates.Lost heard settled replied got = got ≡ false
Says fates.Unknown heard settled replied got = ⊥
Says fates.Nobody heard settled replied got = ⊥

word_says : (word : Word) (settled replied got : Bool) → Says (fate_heard word) (Some word) settled replied got
word_says words.Other settled replied got = record { word = words.Other; there = refl; gives = refl }
word_says words.Able settled replied got = record { word = words.Able; there = refl; gives = refl }
word_says words.Unable settled replied got = record { word = words.Unable; there = refl; gives = refl }
word_says words.Pending settled replied got = record { word = words.Pending; there = refl; gives = refl }
word_says words.Executing settled replied got = record { word = words.Executing; there = refl; gives = refl }
word_says words.PartiallyComplete settled replied got = record { word = words.PartiallyComplete; there = refl; gives = refl }
word_says words.Complete settled replied got = record { word = words.Complete; there = refl; gives = refl }
word_says words.Rejected settled replied got = record { word = words.Rejected; there = refl; gives = refl }
word_says words.Data settled replied got = record { word = words.Data; there = refl; gives = refl }
word_says (words.Number n) settled replied got = record { word = words.Number n; there = refl; gives = refl }

-- WHAT THE FATE SAYS of traces whose maker is recorded
pub fate_says : (heard : Option Word) (settled replied got : Bool)
    → (let t : Traces = record { made = true; heard = heard; settled = settled; replied = replied; got = got } in Says (fate_of_traces t) heard settled replied got)
fate_says (Some word) settled replied got = word_says word settled replied got
fate_says None true replied got = record { none = refl; settles = refl }
fate_says None false true got = record { unsettled = refl; replies = refl }
fate_says None false false true = record { silent = refl; copies = refl }
fate_says None false false false = refl
