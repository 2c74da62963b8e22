-- All contradictions of a recording, and the verdict on a certificate (profile).
use Rattle.std.specs.Prelude.{◌≡◌, ℕ, List, map}
use Rattle.exercise_model.specs.Recording.{PlainRecording}
use Rattle.exercise_model.specs.History.{History}
use Rattle.exercise_model.specs.Run.{Explains}
use Rattle.exercise_findings.specs.Account.{IsAccount}
use Rattle.exercise_check.specs.declared.certificate.Step.{Step}
use Rattle.exercise_check.specs.declared.checker.CheckFault.TheVariants.{Bad as BadStep}
use Rattle.exercise_check.specs.Goodness.{IsGood, Refuses}
use Rattle.exercise_audit.specs.Audit.{IsBlocked}
use Rattle.exercise_conflict.specs.declared.blame.Blame.TheVariants.{Certificate as OfCertificate, Recording as OfRecording}
use Rattle.exercise_conflict.specs.declared.conflict.Conflict.{Conflict}
use Rattle.exercise_conflict.specs.declared.conflict.ConflictSearch.{ConflictSearch}
use Rattle.exercise_conflict.specs.declared.conflict.ConflictSearch.TheVariants.{Explained, Contradicted}
use Rattle.exercise_conflict.specs.declared.verdict.Refusal.{Refusal}
use Rattle.exercise_conflict.specs.declared.verdict.Verdict.{Verdict}
use Rattle.exercise_conflict.specs.declared.verdict.Verdict.TheVariants.{Good, Bad}
use Rattle.exercise_conflict.specs.StepClash.{step_clash_of}
use Rattle.exercise_conflict.specs.Lacks.{missing_sends}
use Rattle.exercise_conflict.specs.Ways.{ways_of, stations_in, cycles_of, further_causes}
use Rattle.exercise_conflict.specs.Repair.{IsRepairOf}

-- ---- a recording alone

-- THE CONFLICT OF A RECORDING that no run explains: the way of each blocked station, the cycles, the further causes, the missing sends, and whether adding these is enough
pub record IsConflictOf (r : PlainRecording) (c : Conflict) : Type 0 where
  pub blocked : IsBlocked r c.blocks.items
  pub ways : c.ways.items ≡ ways_of r c.blocks.items
  pub cycles : map stations_in c.cycles.items ≡ cycles_of r c.blocks.items
  pub also : c.also.items ≡ further_causes r c.blocks.items
  pub lacks : c.lacks.items ≡ missing_sends r
  pub repair : IsRepairOf r c.repair

abbrev pub IsExplanationOf : PlainRecording → ConflictSearch → Type 0
IsExplanationOf r (Explained certificate) = IsGood r certificate.steps.items
IsExplanationOf r (Contradicted c) = IsConflictOf r c

-- ---- a recording with a certificate

-- WHY A CERTIFICATE IS REFUSED: its first bad step, its contradiction, and whether some run explains the recording after all
pub record IsRefusalOf (r : PlainRecording) (steps : List Step) (refusal : Refusal) : Type 0 where
  pub refused : Refuses r steps (BadStep refusal.step refusal.cause)
  pub clash : refusal.clash ≡ step_clash_of r steps refusal.step refusal.cause
  pub certificate : refusal.fault ≡ OfCertificate → (h : History) × Explains r h
  pub recording : refusal.fault ≡ OfRecording → (h : History) → Explains r h → ⊥

abbrev pub IsVerdictOf : PlainRecording → List Step → Verdict → Type 0
IsVerdictOf r steps (Good account) = IsGood r steps × IsAccount r account
IsVerdictOf r steps (Bad refusal) = IsRefusalOf r steps refusal
