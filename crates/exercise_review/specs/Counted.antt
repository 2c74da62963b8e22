-- Numbers that pass a test: the last of them below a bound, and how many there are; the first is defined in
-- exercise_model (profile).
use Rattle.std.specs.Prelude.{ℕ, zero, suc, ◌+◌, Bool, Option, Some, None, if◌then◌else◌}
use Rattle.siman_pdus.specs.Answers.{same_id}

-- the last number below n that passes
unfoldable pub last_below : (ℕ → Bool) → ℕ → Option ℕ
last_below test zero = None
last_below test (suc n) = if test n then Some n else last_below test n

-- how many numbers below n pass
unfoldable pub count_below : (ℕ → Bool) → ℕ → ℕ
count_below test zero = 0
count_below test (suc n) = count_below test n + (if test n then 1 else 0)

-- how many numbers below n are assigned to place k
unfoldable pub count_at : (ℕ → Option ℕ) → (k n : ℕ) → ℕ
count_at place k n = count_below (λ i. same_id (place i) (Some k)) n
