-- Columns: one value for each place (profile).
use Rattle.std.specs.Prelude.{◌≡◌, ◌<◌, ◌≤◌, ℕ, List, length, slice_index_or}

-- A column with one value for each place below n, each of which satisfies P for its place.
pub record IsColumn {X : Type 0} (d : X) (P : ℕ → X → Type 0) (n : ℕ) (xs : List X) : Type 0 where
  pub count : length xs ≡ n
  pub each : (j : ℕ) → j < n → P j (slice_index_or xs j d)

-- A column that may end before n: places past its end have the default d.
pub record IsShortColumn {X : Type 0} (d : X) (P : ℕ → X → Type 0) (n : ℕ) (xs : List X) : Type 0 where
  pub each : (j : ℕ) → j < n → P j (slice_index_or xs j d)
  pub rest : (j : ℕ) → n ≤ j → slice_index_or xs j d ≡ d
