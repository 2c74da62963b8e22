-- What was fetched of a script: what is made of it depends on no more.
use Rattle.std.proofs.Common.{◌≡◌, ℕ, ◌+◌, ◌<◌, ◌≤◌, List, [], Bool, true, Option, Some, None, Result, Err, nat_lt, length, IfSome, if◌then◌else◌, arith, refl, sym, ap, subst, ◌∙◌, inl, inr, take_all}
use Rattle.std.proofs.lemmas.Bool.{cases_lt}
use Rattle.std.proofs.lemmas.Bool.Decides.{nat_tests}
use Rattle.std.proofs.lemmas.List.{length-take-le}
use Rattle.siman_scripts.specs.declared.script.TheConstants.{LARGEST_SCRIPT}
use Rattle.siman_scripts.specs.declared.script_fault.ScriptFault.TheVariants.{BadLine}
use Rattle.siman_scripts.specs.declared.why.LineReason.{LineReason}
use Rattle.siman_scripts.specs.declared.why.Why.TheVariants.{TooLong}
use Rattle.byte_files.specs.Fetching.{fetched}
use Rattle.siman_outside.proofs.Offered.{Said}
use Rattle.std.specs.Result.{result_err}
use Rattle.siman_plans.specs.declared.source_fault.SourceReason.{SourceReason}
use Rattle.siman_plans.specs.Source.{SourceData}
use Rattle.siman_plans.specs.Source as sources
use Rattle.siman_exercise_commands.specs.Explained.{Scripted, TextRead, text_read, lines_if, hint_by, told_by}

-- what is read of too long a text
too_long : TextRead
too_long = record { scripted = Err (BadLine 0); reason = told_by [] (Some (record { line = 0; column = 0; why = TooLong })); lines = [] }

read_if : (long : Bool) (scripted : Scripted) (reason : Option LineReason) (source : Result SourceData SourceReason) (text : List ℕ) → TextRead
read_if long scripted reason source text =
    let read : Scripted = if long then Err (BadLine 0) else scripted in
    record {
      scripted = read;
      reason = told_by (hint_by (result_err (if long then Err sources.too_long else source))) (if long then Some (record { line = 0; column = 0; why = TooLong }) else reason);
      lines = lines_if read text;
    }

at_length : (long : Bool) (scripted : Scripted) (reason : Option LineReason) (source : Result SourceData SourceReason) (text : List ℕ) → long ≡ true
    → read_if long scripted reason source text ≡ too_long
unfolding read_if too_long
at_length long scripted reason source text is = rw is refl

is_longer : (n : ℕ) → LARGEST_SCRIPT < n → nat_lt LARGEST_SCRIPT n ≡ true
is_longer n h = grind (arith, nat_tests)

too_large : (text : List ℕ) → LARGEST_SCRIPT < length text → text_read text ≡ too_long
unfolding read_if
too_large text h = at_length (nat_lt LARGEST_SCRIPT (length text)) _ _ _ text (is_longer (length text) h)

-- The same is read of what was fetched.
text_read-fetched : (text : List ℕ) → text_read (fetched LARGEST_SCRIPT text) ≡ text_read text
text_read-fetched text = elim (cases_lt (length text) (LARGEST_SCRIPT + 1)) [
  | inl h ↦ ap text_read (take_all (LARGEST_SCRIPT + 1) text (omega arith))
  | inr h ↦ let long = length-take-le (LARGEST_SCRIPT + 1) text h in too_large (fetched LARGEST_SCRIPT text) (omega arith) ∙ sym (too_large text (omega arith))
]

pub of_text : (P : TextRead → Type 0) (known : Option (List ℕ)) (text : List ℕ)
    → IfSome known (λ bytes. text ≡ fetched LARGEST_SCRIPT bytes) → P (text_read text) → Said (λ bytes. P (text_read bytes)) known
of_text P None text whole said = (text, tt, said)
of_text P (Some bytes) text whole said = (bytes, refl, subst P (ap text_read whole ∙ text_read-fetched bytes) said)

-- what was read, with the piece that was fetched
pub of_piece : (P : TextRead → List ℕ → Type 0) (known : Option (List ℕ)) (text : List ℕ) → IfSome known (λ bytes. text ≡ fetched LARGEST_SCRIPT bytes)
    → length text ≤ LARGEST_SCRIPT + 1 → P (text_read text) text → Said (λ bytes. P (text_read bytes) (fetched LARGEST_SCRIPT bytes)) known
of_piece P None text whole few said =
    (text, tt, subst (P (text_read text)) (sym (take_all (LARGEST_SCRIPT + 1) text few)) said)
of_piece P (Some bytes) text whole few said =
    (bytes, refl, subst (λ (t : TextRead). P t (fetched LARGEST_SCRIPT bytes)) (ap text_read whole ∙ text_read-fetched bytes) (subst (P (text_read text)) whole said))

pub of_script : (P : Scripted → Type 0) (known : Option (List ℕ)) (text : List ℕ)
    → IfSome known (λ bytes. text ≡ fetched LARGEST_SCRIPT bytes) → P (text_read text).scripted → Said (λ bytes. P (text_read bytes).scripted) known
of_script P known text whole said = of_text (λ t. P t.scripted) known text whole said
