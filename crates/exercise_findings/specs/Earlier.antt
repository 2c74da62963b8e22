-- Back-references in one column of numbers (profile): from a sent answer to the request that it takes up, from a receipt to its source.
use Rattle.std.specs.Prelude.{◌≡◌, ◌≢◌, ◌-◌, ℕ, Option, Some, None, nat_lt, if◌then◌else◌}
use Rattle.exercise_model.specs.Recording.{PlainRecording}
use Rattle.exercise_model.specs.Account.{pair_of}
use Rattle.exercise_findings.specs.Source.{source_of}

-- the request that a number encodes: the number itself, below 2^31
abbrev pub request_in : ℕ → Option ℕ
request_in number = if nat_lt number 0x80000000 then Some number else None

-- the source that a number encodes: 2^31 more than the source, except the last two numbers, which mark a source that is not looked up yet and no entry
abbrev pub source_in : ℕ → Option ℕ
source_in number = if nat_lt number 0x80000000 then None else (if nat_lt number 0xFFFFFFFE then Some (number - 0x80000000) else None)

-- The number encodes the back-reference of entry j.
pub record IsBackReference (r : PlainRecording) (j number : ℕ) : Type 0 where
  pub pair : request_in number ≡ pair_of r j
  pub source : source_in number ≡ source_of r j

-- The number encodes the back-reference of entry j as known during the pass: a source may be open.
pub record IsBackReferenceSoFar (r : PlainRecording) (j number : ℕ) : Type 0 where
  pub pair : request_in number ≡ pair_of r j
  pub source : number ≢ 0xFFFFFFFE → source_in number ≡ source_of r j
