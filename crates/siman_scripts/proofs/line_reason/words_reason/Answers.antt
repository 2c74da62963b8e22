use Rattle.std.proofs.Common.{◌≡◌, ℕ, List, [], ◌∷◌, length, map, drop, arith, length-drop}
use Rattle.std.proofs.lemmas.List.{length-map}
use Rattle.siman_scripts.specs.declared.form.LineForm.{LineForm}
use Rattle.siman_scripts.specs.Forms.{next_word}
use Rattle.siman_scripts.specs.LineReason.{end_reason, words_reason}
use Rattle.siman_scripts.proofs.line_reason.words_reason.Goals as goal

-- with no words left the end of the line tells
ended : (f : LineForm) (column place : ℕ) (left all : List (ℕ × List ℕ)) → length left ≡ 0 → words_reason f place column left ≡ words_reason f 0 column all
    → end_reason f (next_word f place) column ≡ words_reason f 0 column all
ended f column place [] all n h = h
ended f column place (p ∷ ps) all n h = absurd (omega arith)

pub returns : goal.returns
returns c =
    let place = c.loop-place.place in
    let words = c.args.words.now in
    let whole : place ≡ length words = omega arith in
    let left : List (ℕ × List ℕ) = map (λ p. (p.column, p.word.now)) (drop place words) in
    let all : List (ℕ × List ℕ) = map (λ p. (p.column, p.word.now)) words in
    let none : length left ≡ 0 = simp (length-map, length-drop) (omega arith) in
    let told : end_reason c.args.form (next_word c.args.form place) c.args.column ≡ words_reason c.args.form 0 c.args.column all =
    ended c.args.form c.args.column place left all none c.loop-place.invariant in
    cc
