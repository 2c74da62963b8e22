-- The links of good certificates, read from the logs alone (profile).
use Rattle.std.specs.Prelude.{◌≡◌, ◌<◌, ℕ, List, length, slice_index_or, Option}
use Rattle.std.specs.Option.{option_or}
use Rattle.exercise_model.specs.Recording.{PlainRecording}
use Rattle.exercise_model.specs.Account.{pair_of}
use Rattle.exercise_findings.specs.Source.{source_of}
use Rattle.exercise_check.specs.declared.certificate.Step.{Step}
use Rattle.exercise_check.specs.Goodness.{no_step}

-- THE LINK OF ENTRY i BY THE LOGS: of a sent answer its pair, of a receipt its source; no entry has both
abbrev pub log_link : PlainRecording → ℕ → Option ℕ
log_link r i = option_or (pair_of r i) (source_of r i)

-- the k-th step, from 0
abbrev pub step_at : List Step → ℕ → Step
step_at steps k = slice_index_or steps k no_step

-- EXACTLY ONE STEP HAS THE ENTRY
pub record IsNamedOnce (steps : List Step) (i : ℕ) : Type 0 where
  pub at : ℕ
  pub within : at < length steps
  pub names : (step_at steps at).place ≡ i
  pub only : (k : ℕ) → k < length steps → (step_at steps k).place ≡ i → k ≡ at

-- STEPS DIFFER ONLY IN THEIR SEQUENCE from others, and their numbers are equal: each step of the one list is at
-- exactly one index of the other
pub record DifferInSequence (steps other : List Step) : Type 0 where
  pub count : length steps ≡ length other
  pub there : (k : ℕ) → k < length steps → (j : ℕ) × (j < length other) × (step_at other j ≡ step_at steps k)
  pub once : (j k : ℕ) → j < length other → k < length other → (step_at other j).place ≡ (step_at other k).place → j ≡ k
