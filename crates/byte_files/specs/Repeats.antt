-- Reading lists.
use Rattle.std.specs.Prelude.{ℕ, zero, suc, List, [], ◌∷◌, Option, Result, Ok}
use Rattle.std.specs.Option.{option_map_or}
use Rattle.byte_files.specs.Fields.{Input, ◌>>=◌}

-- reading `left` values in order; each is read with the state that `handed` makes of the previous value, the first
-- with s
unfoldable pub times_at : {S X F : Type 0} → (X → S) → (S → Input → Result (X × Input) F) → (left : ℕ) → S → Input → Result (List X × Input) F
times_at handed one zero s i = Ok ([], i)
times_at handed one (suc left) s i = do
  x ← one s i
  xs ← times_at handed one left (handed x.0) x.1
  Ok (x.0 ∷ xs.0, xs.1)

-- reading `left` values, each independently of the others
abbrev pub many_at : {X F : Type 0} → (Input → Result (X × Input) F) → (left : ℕ) → Input → Result (List X × Input) F
many_at one left i = times_at {S = Unit {0}} (λ x. tt) (λ u. one) left tt i

-- the state that `handed` makes of the last value of a list, or s for the empty list
abbrev pub handed_on : {S X : Type 0} → (X → S) → S → List X → S
handed_on handed s [] = s
handed_on handed s (x ∷ xs) = handed_on handed (handed x) xs

-- reading at most `left` values, up to the mark of the end; after `left` values only the mark may follow
unfoldable pub until_at : {X F : Type 0} → (next : Input → Result (Option X × Input) F) → (last : Input → Result Input F) → (left : ℕ) → Input
    → Result (List X × Input) F
until_at next last zero i = do
  rest ← last i
  Ok ([], rest)
until_at next last (suc left) i = do
  n ← next i
  option_map_or (λ x. until_at next last left n.1 >>= λ xs. Ok (x ∷ xs.0, xs.1)) n.0 (Ok ([], n.1))
