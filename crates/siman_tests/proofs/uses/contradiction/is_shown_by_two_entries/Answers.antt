use Rattle.std.proofs.Common.{IfSome, Option, Some, is_some, refl, subst, sym, true, ℕ, ◌∙◌, ◌≡◌}
use Rattle.byte_files.specs.Fields.{same}
use Rattle.siman_tests.proofs.uses.contradiction.is_shown_by_two_entries.Goals as goal

shown : {P : ℕ → Type 0} (o p : Option ℕ) → o ≡ p → (k : ℕ) × (p ≡ Some k) × P k → IfSome o P
shown {P} o p same (k, there, holds) = subst (λ (x : Option ℕ). IfSome x P) (sym (same ∙ there)) holds

some : (o p : Option ℕ) (P : ℕ → Type 0) → o ≡ p → (k : ℕ) × (p ≡ Some k) × P k → is_some o ≡ true
some o p P same (k, there, holds) = rw (same ∙ there) refl

pub returns-clause-shown : goal.returns-clause-shown
returns-clause-shown g c = λ reused. shown _ _ c.earlier_of.ensures (c.earlier_is_the_conflict.ensures.reused c.args.findings.now c.args.entry reused)

pub returns-clause-there : goal.returns-clause-there
returns-clause-there g c = λ reused. some _ _ _ c.earlier_of.ensures (c.earlier_is_the_conflict.ensures.reused c.args.findings.now c.args.entry reused)
