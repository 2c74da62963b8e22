-- The reasons of a line, of which as much is held as may be.
use Rattle.std.proofs.Common.{◌≡◌, ℕ, ◌+◌, ◌<◌, List, length, take, sym, ap, ◌∙◌, inl, inr, arith, subst, length-take-le, take_all}
use Rattle.std.specs.Prelude.{Option, Some, Result, Ok, Err}
use Rattle.std.proofs.lemmas.Bool.{cases_lt}
use Rattle.std.proofs.lemmas.Bool.Decides.{nat_tests}
use Rattle.siman_operator.specs.declared.obeying.Rejection.{Rejection}
use Rattle.siman_operator.specs.declared.obeying.Rejection.TheVariants as undone
use Rattle.siman_operator.specs.declared.reading.TheConstants.{LONGEST_LINE}
use Rattle.siman_operator.specs.declared.reason.BadReason.{BadReason}
use Rattle.siman_operator.specs.declared.reason.BadReason.TheVariants as reasons
use Rattle.byte_files.specs.Lines.{HoldsLine}
use Rattle.siman_operator.specs.Reason.{bad_reason, IsReason, Reasons}

bad_reason-long : (line : List ℕ) → LONGEST_LINE < length line → bad_reason line ≡ Some reasons.TooLong
bad_reason-long line long = grind (arith, nat_tests)

-- of a longer line it is that it is too long
reason_long : (front line : List ℕ) (reason : Option BadReason) → LONGEST_LINE < length front → LONGEST_LINE < length line → IsReason front reason → IsReason line reason
reason_long front line reason held long told = elim told [
  | inl is ↦ inl (is ∙ bad_reason-long front held ∙ sym (bad_reason-long line long))
  | inr none ↦ let short = none.1 in absurd (omega arith)
]

reasons_long : (front line : List ℕ) (done : Result (Unit {0}) Rejection) (reason : Option BadReason) → LONGEST_LINE < length front → LONGEST_LINE < length line
    → Reasons front done reason → Reasons line done reason
reasons_long front line (Ok x) reason held long told = told
reasons_long front line (Err undone.BadLine) reason held long told = reason_long front line reason held long told
reasons_long front line (Err undone.UnknownStation) reason held long told = told
reasons_long front line (Err undone.SystemClock) reason held long told = told
reasons_long front line (Err (undone.Station fault)) reason held long told = told
reasons_long front line (Err undone.Line) reason held long told = told
reasons_long front line (Err undone.Record) reason held long told = told
reasons_long front line (Err undone.Memory) reason held long told = told

reasons_cut : (line : List ℕ) (done : Result (Unit {0}) Rejection) (reason : Option BadReason) → Reasons (take (LONGEST_LINE + 1) line) done reason → Reasons line done reason
reasons_cut line done reason told = elim (cases_lt (length line) (LONGEST_LINE + 1)) [
  | inl short ↦ subst (λ (l : List ℕ). Reasons l done reason) (take_all (LONGEST_LINE + 1) line (omega arith)) told
  | inr long ↦
      let size = length-take-le (LONGEST_LINE + 1) line long in
      reasons_long (take (LONGEST_LINE + 1) line) line done reason (omega arith) (omega arith) told
]

-- The reasons of what is held are those of the line.
pub reasons_held : {b c : Option (List ℕ)} {buffer : List ℕ} {held : ℕ} (done : Result (Unit {0}) Rejection) (reason : Option BadReason)
    → length buffer ≡ LONGEST_LINE + 1 → (holds : HoldsLine b c buffer held) → Reasons (take held buffer) done reason → Reasons holds.line done reason
reasons_held {buffer = buffer} done reason size holds told =
    reasons_cut holds.line done reason
    (subst (λ (l : List ℕ). Reasons l done reason) (holds.front ∙ ap (λ (n : ℕ). take n holds.line) size) told)
