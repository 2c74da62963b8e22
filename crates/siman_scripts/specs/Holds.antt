-- The meaning of a reason for its line (profile).
use Rattle.std.specs.Prelude.{◌≡◌, ◌⊎◌, ℕ, ◌+◌, ◌-◌, ◌≤◌, true, false, List, length, drop, slice_get, Some, None}
use Rattle.std.specs.Option.{option_map}
use Rattle.siman_scripts.specs.declared.form.LineForm.{LineForm}
use Rattle.siman_scripts.specs.declared.form.Next.{Next}
use Rattle.siman_scripts.specs.declared.form.Next.TheVariants.{Needed, Optional, End}
use Rattle.siman_scripts.specs.declared.why.LineWhy.{LineWhy}
use Rattle.siman_scripts.specs.declared.why.LineWhy.TheVariants as whys
use Rattle.siman_scripts.specs.declared.word_kind.WordKind.{WordKind}
use Rattle.siman_scripts.specs.Words.{placed_words_of}
use Rattle.siman_scripts.specs.Forms.{fits, form_named, next_word}
use Rattle.siman_scripts.specs.Nearest.{nearest}
use Rattle.siman_scripts.specs.LineReason.{is_mark, is_comment}

-- this byte is in this column
abbrev pub ByteAt : List ℕ → ℕ → ℕ → Type 0
ByteAt line column b = slice_get line (column - 1) ≡ Some b

-- the first of the words names this form
abbrev pub Begins : List (ℕ × List ℕ) → LineForm → Type 0
Begins words form = option_map (λ p. form_named p.1) (slice_get words 0) ≡ Some (Some form)

-- this word is at a place behind the name of this form, in this column
abbrev pub IsPlacedBehind : List (ℕ × List ℕ) → LineForm → ℕ → ℕ × List ℕ → Type 0
IsPlacedBehind words form place p = Begins words form × (slice_get words (place + 1) ≡ Some p)

-- a word of this kind may follow there
abbrev pub Asks : Next → WordKind → Type 0
Asks next kind = (next ≡ Needed kind) ⊎ (next ≡ Optional kind)

-- a reason is true of a line with these words
abbrev pub IsSo : List ℕ → List (ℕ × List ℕ) → ℕ → LineWhy → Type 0
IsSo line words column whys.ByteOrderMark = is_mark (drop (column - 1) line) ≡ true
IsSo line words column whys.NotAscii = (b : ℕ) × ByteAt line column b × (128 ≤ b)
IsSo line words column whys.Tab = ByteAt line column 9
IsSo line words column whys.CarriageReturn = ByteAt line column 13
IsSo line words column whys.CarriageReturnAtEnd = ByteAt line column 13 × (column ≡ length line)
IsSo line words column whys.BlankAtBegin = ByteAt line column 32 × (column ≡ 1)
IsSo line words column whys.BlankAtEnd = ByteAt line column 32 × (column ≡ length line)
IsSo line words column whys.TwoBlanks = ByteAt line column 32 × ByteAt line (column - 1) 32
IsSo line words column (whys.Comment form) = (i : ℕ) × (w : List ℕ) × IsPlacedBehind words form i (column, w) × (is_comment w ≡ true)
IsSo line words column (whys.UnknownName near) = (w : List ℕ) × (slice_get words 0 ≡ Some (column, w)) × (form_named w ≡ None) × (near ≡ nearest w)
IsSo line words column (whys.Missing form kind) = Begins words form × (column ≡ length line + 1) × (next_word form (length words - 1) ≡ Needed kind)
IsSo line words column (whys.TooMany form) = (i : ℕ) × (w : List ℕ) × IsPlacedBehind words form i (column, w) × (next_word form i ≡ End)
IsSo line words column (whys.Wrong form kind) = (i : ℕ) × (w : List ℕ) × IsPlacedBehind words form i (column, w) × (fits kind w ≡ false) × Asks (next_word form i) kind

-- THE REASON OF A LINE IS TRUE
abbrev pub Holds : List ℕ → ℕ × LineWhy → Type 0
Holds line reason = IsSo line (placed_words_of line) reason.0 reason.1
