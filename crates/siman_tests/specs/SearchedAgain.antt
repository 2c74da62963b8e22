-- What a second search finds (profile).
use Rattle.std.specs.Prelude.{◌≡◌, List}
use Rattle.exercise_check.specs.declared.certificate.Step.{Step}
use Rattle.exercise_audit.specs.declared.blocks.Audit.{Audit}
use Rattle.exercise_audit.specs.declared.blocks.Audit.TheVariants.{Explained, Blocked}

-- the search finds these steps
abbrev pub IsFoundAgain : List Step → Audit → Type 0
IsFoundAgain steps (Explained certificate) = certificate.steps.items ≡ steps
IsFoundAgain steps (Blocked blocks) = ⊥
