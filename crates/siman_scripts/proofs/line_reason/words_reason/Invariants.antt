use Rattle.std.proofs.Common.{◌≡◌, map, drop}
use Rattle.siman_scripts.specs.LineReason.{words_reason}
use Rattle.siman_scripts.proofs.line_reason.words_reason.Given as goal

-- the words that are left tell of the line what all tell
abbrev pub invariant-loop-place : goal.invariant-loop-place
invariant-loop-place l =
    words_reason l.form l.place l.column (map (λ p. (p.column, p.word.now)) (drop l.place l.words)) ≡ words_reason l.form 0 l.column (map (λ p. (p.column, p.word.now)) l.words)
