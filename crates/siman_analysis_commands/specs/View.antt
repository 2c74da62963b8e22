-- The views of a recording, and the words that select among their rows (profile).
use Rattle.std.specs.Prelude.{◌≡◌, ◌⊎◌, ℕ, List, [], ◌∷◌, ◌++◌, map, codes, Some, None, Result, Ok, Err, Vec}
use Rattle.std.specs.declared.alloc.Global.{Global}
use Rattle.std.specs.Io.KnownBytes.{Keeps}
use Rattle.exercise_model.specs.Recording.{PlainRecording}
use Rattle.exercise_review.specs.declared.filter.Filter.{Filter}
use Rattle.exercise_log.specs.Count.{count_rows}
use Rattle.exercise_log.specs.Log.{kept_at, log_text}
use Rattle.siman_print.specs.declared.spelling.Spelling.{Spelling}
use Rattle.siman_print.specs.Spelled.{lines_spelled}
use Rattle.siman_outside.specs.declared.commands.Reading.{Reading}
use Rattle.siman_outside.specs.declared.commands.ViewWord.{ViewWord}
use Rattle.siman_outside.specs.declared.commands.ViewWord.TheVariants.{Review, Log, Count}
use Rattle.siman_outside.specs.declared.fault.Fault.{Fault}
use Rattle.siman_outside.specs.declared.fault.Fault.TheVariants.{Memory}
use Rattle.siman_outside.specs.AnswerText.{Answers}
use Rattle.siman_outside.specs.Ending.{fault_text}
use Rattle.siman_outside.specs.Making.{Answered}
use Rattle.siman_outside.specs.Outside.{Stream, Deed}
use Rattle.siman_outside.specs.Passing.{PrintsText}
use Rattle.siman_outside.specs.Recorded.{SaysOfBytes}
use Rattle.siman_outside.specs.Saying.{SaysOfFile}
use Rattle.siman_analysis_commands.specs.declared.view.Prose.{Prose}
use Rattle.siman_analysis_commands.specs.declared.view.View.{View}
use Rattle.siman_analysis_commands.specs.FilterWords.{filter_of}
use Rattle.siman_analysis_commands.specs.declared.review.ReviewText.TheVariants.{Rows, Sentences}
use Rattle.siman_analysis_commands.specs.Review.{PrintsReview}

-- ---- filters as words

-- WORDS ARE FILTERS of a view, one each
abbrev pub AskFor : ViewWord → (words : List (List ℕ)) → List Filter → Type 0
AskFor view words filters = map (filter_of view) words ≡ map Some filters

-- THE FIRST OF SOME WORDS that is no filter of a view
pub record IsFirstBad (view : ViewWord) (words : List (List ℕ)) (word : List ℕ) : Type 0 where
  pub before : List (List ℕ)
  pub behind : List (List ℕ)
  pub stands : words ≡ before ++ word ∷ behind
  pub filters : List Filter
  pub first : AskFor view before filters
  pub bad : filter_of view word ≡ None

-- Its fault is `filter: WORD`, with the word as it was given.
abbrev pub IsBadFilter : ViewWord → (words : List (List ℕ)) → Fault → Type 0
IsBadFilter view words fault = (word : List ℕ) × IsFirstBad view words word × (fault_text fault ≡ codes "filter: " ++ word)

-- the filters that words are, or the fault
abbrev pub Asks : ViewWord → (words : List (List ℕ)) → Result (Vec Filter Global) Fault → Type 0
Asks view words (Ok filters) = AskFor view words filters.items
Asks view words (Err fault) = IsBadFilter view words fault ⊎ (fault ≡ Memory)

-- the view that words ask for, or the fault
abbrev pub IsAsked : ViewWord → (words : List (List ℕ)) → Spelling → Result View Fault → Type 0
IsAsked view words spelling (Ok v) = (v.view ≡ view) × AskFor view words v.filters.items × (v.spelling ≡ spelling)
IsAsked view words spelling (Err fault) = IsBadFilter view words fault ⊎ (fault ≡ Memory)

-- the sentences that words ask for, or the fault
abbrev pub IsProseAsked : (words : List (List ℕ)) → Result Prose Fault → Type 0
IsProseAsked words (Ok p) = AskFor Review words p.filters.items
IsProseAsked words (Err fault) = IsBadFilter Review words fault ⊎ (fault ≡ Memory)

-- ---- the rows

-- the text of an entry, by its number
abbrev pub entry_said : Spelling → List Filter → PlainRecording → ℕ → List ℕ
entry_said spelling filters r i = lines_spelled spelling (kept_at r filters i)

-- the text of the counts, with status 0
abbrev pub SaysCounts : Spelling → List Filter → PlainRecording → (text : List ℕ) → (status : ℕ) → Type 0
SaysCounts spelling filters r text status = (text ≡ lines_spelled spelling (count_rows r filters)) × (status ≡ 0)

-- THE ANSWER OF A VIEW for a recording, under filters
abbrev pub PrintsView : ViewWord → Spelling → List Filter → PlainRecording → Answered → (out : Stream) → Type 0
PrintsView Review spelling filters r = PrintsReview (Rows spelling) filters r
PrintsView Log spelling filters r = PrintsText (log_text spelling r filters)
PrintsView Count spelling filters r = Answers (SaysCounts spelling filters r)

-- THE FILTERS ARE JUDGED FIRST: the first word that is none is reported, with nothing opened; otherwise the recording of the file, as it is read, is answered for under the filters
abbrev pub SaysNamed : ViewWord → Reading → (List Filter → PlainRecording → Answered → (out : Stream) → Type 0) → (name : List ℕ) → (words : List (List ℕ)) → List Deed → Answered → (out : Stream) → Type 0
SaysNamed view reading says name words deeds answered out =
    ((fault : Fault) × (IsBadFilter view words fault ⊎ (fault ≡ Memory)) × (deeds ≡ []) × (answered ≡ Err fault) × Keeps out.old out.new)
    ⊎ ((filters : List Filter) × AskFor view words filters × SaysOfFile (SaysOfBytes reading (says filters)) name deeds answered out)

-- the answer of a view
abbrev pub ViewsNamed : ViewWord → Spelling → Reading → (name : List ℕ) → (words : List (List ℕ)) → List Deed → Answered → (out : Stream) → Type 0
ViewsNamed view spelling reading = SaysNamed view reading (PrintsView view spelling)

-- the answer of `review` in sentences
abbrev pub ProseNamed : Reading → (name : List ℕ) → (words : List (List ℕ)) → List Deed → Answered → (out : Stream) → Type 0
ProseNamed reading = SaysNamed Review reading (PrintsReview Sentences)
