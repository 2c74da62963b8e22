use Rattle.std.proofs.Common.{IfSome, Option, Some, None, subst, ◌≡◌}
use Rattle.siman_scripts.specs.HoldsAfter.{IsSoAfter}
use Rattle.siman_scripts.specs.Statement.{statement_of}
use Rattle.siman_tests.proofs.uses.reason.is_true_of_the_lines_before.Goals as goal

-- what holds of each value holds of one that may be missing
each : {A : Type 0} (P : A → Type 0) → ((a : A) → P a) → (o : Option A) → IfSome o P
each P all None = tt
each P all (Some a) = all a

-- what holds of a value that may be missing holds of what is equal to it
held : {A : Type 0} (P : A → Type 0) (o p : Option A) → o ≡ p → IfSome o P → IfSome p P
held P o p same so = subst (λ q. IfSome q P) same so

pub returns-clause-unknown : goal.returns-clause-unknown
returns-clause-unknown c = λ d line place site application.
    each _ (λ s same. held (λ r. IsSoAfter d s r.1) _ _ same (c.reasons_hold_of_the_lines_before.ensures d s)) (statement_of line)

pub returns-clause-second : goal.returns-clause-second
returns-clause-second c = λ d line place.
    each _ (λ s same. held (λ r. IsSoAfter d s r.1) _ _ same (c.reasons_hold_of_the_lines_before.ensures d s)) (statement_of line)
