-- Colour and arrow head of a datagram (profile).
use Rattle.std.specs.Prelude.{ℕ, List, codes, Option, Some, None}
use Rattle.exercise_review.specs.declared.word.Word.{Word}
use Rattle.exercise_review.specs.declared.word.Word.TheVariants as words
use Rattle.exercise_chart.specs.declared.saying.Saying.{Saying}
use Rattle.exercise_chart.specs.declared.tone.Tone.{Tone}
use Rattle.exercise_chart.specs.declared.tone.Tone.TheVariants as tones

abbrev pub word_tone : Word → Tone
word_tone words.Able = tones.Able
word_tone words.Complete = tones.Able
word_tone words.Data = tones.Able
word_tone words.Unable = tones.Unable
word_tone words.Rejected = tones.Unable
word_tone word = tones.Other

abbrev pub request_tone : Option ℕ → Tone
request_tone (Some n) = tones.Request
request_tone None = tones.Notice

abbrev pub said_tone : Option Word → Option ℕ → Tone
said_tone (Some word) request = word_tone word
said_tone None request = request_tone request

-- THE TONE OF A PDU: of an answer by what it says, of all else by whether it has a request
-- identifier
unfoldable pub tone_of : Saying → Tone
tone_of said = said_tone said.word said.request

-- the tone of a PDU, or that of other answers for a datagram that means nothing
unfoldable pub tone_if : Option Saying → Tone
tone_if (Some said) = tone_of said
tone_if None = tones.Other

unfoldable pub colour_of : Tone → List ℕ
colour_of tones.Request = codes "#1d4ed8"
colour_of tones.Able = codes "#15803d"
colour_of tones.Unable = codes "#c2410c"
colour_of tones.Other = codes "#475569"
colour_of tones.Notice = codes "#7c3aed"

-- the arrow heads; Heading defines them
unfoldable pub head_of : Tone → List ℕ
head_of tones.Request = codes "url(#to-request)"
head_of tones.Able = codes "url(#to-able)"
head_of tones.Unable = codes "url(#to-unable)"
head_of tones.Other = codes "url(#to-other)"
head_of tones.Notice = codes "url(#to-notice)"
