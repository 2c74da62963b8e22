-- What was fetched of a source: what a plan says of it depends on no more.
use Rattle.std.proofs.Common.{◌≡◌, ℕ, ◌+◌, ◌<◌, List, Option, Some, None, Err, length, IfSome, arith, refl, sym, ap, subst, ◌∙◌, inl, inr, take_all}
use Rattle.std.proofs.lemmas.Bool.{cases_lt}
use Rattle.std.proofs.lemmas.List.{length-take-le}
use Rattle.siman_scripts.specs.declared.script.TheConstants.{LARGEST_SCRIPT}
use Rattle.byte_files.specs.Fetching.{fetched}
use Rattle.siman_print.specs.declared.spelling.Spelling.{Spelling}
use Rattle.siman_plans.specs.PlanText.{said_by, said_at}
use Rattle.siman_plans.specs.Source.{too_long, read_at}
use Rattle.siman_outside.proofs.Offered.{over}
use Rattle.siman_outside.proofs.Offered as offered
use Rattle.siman_exercise_commands.specs.Plan.{Said}

-- what is read of too long a text
too_large : (text : List ℕ) → LARGEST_SCRIPT < length text → read_at text ≡ Err too_long
too_large text long = over LARGEST_SCRIPT (length text) (Err too_long) _ long

-- The same is read of what was fetched.
read_at-fetched : (text : List ℕ) → read_at (fetched LARGEST_SCRIPT text) ≡ read_at text
read_at-fetched text = elim (cases_lt (length text) (LARGEST_SCRIPT + 1)) [
  | inl h ↦ ap read_at (take_all (LARGEST_SCRIPT + 1) text (omega arith))
  | inr h ↦ let long = length-take-le (LARGEST_SCRIPT + 1) text h in too_large (fetched LARGEST_SCRIPT text) (omega arith) ∙ sym (too_large text (omega arith))
]

pub of_source : (spelling : Spelling) (P : Said → Type 0) (known : Option (List ℕ)) (text : List ℕ)
    → IfSome known (λ bytes. text ≡ fetched LARGEST_SCRIPT bytes) → P (said_at spelling text) → offered.Said (λ bytes. P (said_at spelling bytes)) known
of_source spelling P None text whole said = (text, tt, said)
of_source spelling P (Some bytes) text whole said = (bytes, refl, subst P (ap (said_at spelling) whole ∙ ap (said_by spelling) (read_at-fetched bytes)) said)
