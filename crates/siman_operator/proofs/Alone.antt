-- A station by itself.
use Rattle.std.proofs.Common.{◌≡◌, ℕ, List, [], ◌∷◌, ◌++◌, subst}
use Rattle.siman_scripts.specs.Stations.{WorldStationData}
use Rattle.siman_stations.specs.declared.turn.Node.{Node}
use Rattle.siman_stations.specs.Holds.{IsNewNode, AreNewNodes}

-- the halves of the only station
pub only_node : (x : ℕ) (s : WorldStationData) (ns before : List Node) (n : Node) → AreNewNodes x (s ∷ []) ns → ns ≡ before ++ n ∷ [] → IsNewNode x s n
only_node x s [] before n are is = absurd are
only_node x s (m ∷ []) [] n are is = let same : m ≡ n = cc in subst (IsNewNode x s) same are.0
only_node x s (m ∷ []) (k ∷ []) n are is = absurd cc
only_node x s (m ∷ []) (k ∷ l ∷ ls) n are is = absurd cc
only_node x s (m ∷ k ∷ ns) before n are is = absurd are.1
