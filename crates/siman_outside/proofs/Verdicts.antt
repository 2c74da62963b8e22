-- What is refused is not good.
use Rattle.std.proofs.Common.{ℕ, List, inl, inr}
use Rattle.exercise_model.specs.declared.cause.Cause.{Cause}
use Rattle.exercise_model.specs.Recording.{PlainRecording}
use Rattle.exercise_check.specs.declared.certificate.Step.{Step}
use Rattle.exercise_check.specs.declared.checker.CheckFault.TheVariants.{Bad}
use Rattle.exercise_check.specs.Goodness.{IsGood, Refuses}

-- what is refused is not good
pub not_good : (r : PlainRecording) (steps : List Step) (k : ℕ) (cause : Cause) → Refuses r steps (Bad k cause) → ¬ IsGood r steps
not_good r steps k cause (inl wrong) good = wrong.count good.count
not_good r steps k cause (inr first) good = let none = good.good k first.within in let some = first.here in absurd cc
