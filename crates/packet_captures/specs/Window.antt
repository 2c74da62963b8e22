-- A reader through a buffer: which bytes are held, and which are still to come.
use Rattle.std.specs.Prelude.{◌≡◌, ℕ, ◌+◌, ◌-◌, ◌^◌, ◌≤◌, ◌<◌, List, [], length, take, drop, Option, Some, IfSome}
use Rattle.std.specs.Io.KnownBytes.{prepend_known}

-- the bytes ahead: the offset of the first, those that are held, and those that the reader has, if they are known; and
-- the bytes that were kept when they were passed
pub record Ahead : Type 0 where
  pub at : ℕ
  pub held : List ℕ
  pub rest : Option (List ℕ)
  pub kept : List ℕ

-- all bytes ahead, if they are known
abbrev pub bytes_ahead : Ahead → Option (List ℕ)
bytes_ahead a = prepend_known a.held a.rest

-- the same bytes are ahead, from the same offset
pub record SameAhead (old new : Ahead) : Type 0 where
  pub at : new.at ≡ old.at
  pub bytes : IfSome (bytes_ahead old) (λ b. bytes_ahead new ≡ Some b)

-- all bytes ahead are held
abbrev pub IsAllHeld : Ahead → Type 0
IsAllHeld a = IfSome (bytes_ahead a) (λ b. b ≡ a.held)

-- the first n bytes are passed
abbrev pub passed : ℕ → Ahead → (kept : List ℕ) → Ahead
passed n a kept = record { at = a.at + n; held = drop n a.held; rest = a.rest; kept = kept }

-- n bytes were passed, all of which were there
pub record Passes (n : ℕ) (old new : Ahead) : Type 0 where
  pub at : new.at ≡ old.at + n
  pub there : IfSome (bytes_ahead old) (λ b. n ≤ length b)
  pub bytes : IfSome (bytes_ahead old) (λ b. bytes_ahead new ≡ Some (drop n b))

-- all bytes were passed, and they were fewer than n
pub record PassesAll (n : ℕ) (old new : Ahead) : Type 0 where
  pub at : IfSome (bytes_ahead old) (λ b. new.at ≡ old.at + length b)
  pub fewer : IfSome (bytes_ahead old) (λ b. length b < n)
  pub held : new.held ≡ []

-- the part of a buffer from one index to another
abbrev pub held_in : (start end : ℕ) → List ℕ → List ℕ
held_in start end buffer = take (end - start) (drop start buffer)

-- the bytes that are held, and those that were kept, are within a buffer of this size, and offsets have 64 bits
pub record IsPlaced (start end kept_start kept_end at size : ℕ) : Type 0 where
  pub held : start ≤ end
  pub within : end ≤ size
  pub kept : kept_start ≤ kept_end
  pub kept_within : kept_end ≤ size
  pub offsets : at + end < 2 ^ 64 + start
