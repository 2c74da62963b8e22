-- Steps made one after the other, each by its number, from 0.
use Rattle.std.specs.Prelude.{◌≡◌, ◌<◌, ℕ, zero, suc}

-- so many steps were made, from the first state to the second
abbrev pub Each : {S : Type 0} (Step : ℕ → S → S → Type 0) → (count : ℕ) → S → S → Type 0
Each {S} Step zero old new = new ≡ old
Each {S} Step (suc n) old new = (mid : S) × Each Step n old mid × Step n mid new

-- ONE OF SO MANY STEPS failed, with its own effect; those before it were made
pub record Stops {S : Type 0} (Step Fails : ℕ → S → S → Type 0) (count : ℕ) (old new : S) : Type 0 where
  pub number : ℕ
  pub within : number < count
  pub mid : S
  pub made : Each Step number old mid
  pub fails : Fails number mid new
