-- Words in memory as contracts see them.
use Rattle.std.proofs.Common.{◌≡◌, ℕ, ◌<◌, List, [], ◌∷◌, length, map, refl, arith}
use Rattle.siman_scripts.specs.declared.placed_word.PlacedWord.{PlacedWord}
use Rattle.siman_plans.specs.SourceForms.{seen, with_receiver, statement_in, station_in}

-- words with no rule say what they say as they are
pub station_short : (end : ℕ) (ws : List PlacedWord) → length ws < 2 → station_in end (map seen ws) ≡ statement_in end (map seen ws)
station_short end [] h = refl
station_short end (w ∷ []) h = refl
station_short end (w ∷ v ∷ vs) h = absurd (omega arith)

-- words with no receiver are as they are
pub order_short : (ws : List PlacedWord) → length ws < 3 → with_receiver (map seen ws) ≡ map seen ws
order_short [] h = refl
order_short (w ∷ []) h = refl
order_short (w ∷ v ∷ []) h = refl
order_short (w ∷ v ∷ u ∷ us) h = absurd (omega arith)
