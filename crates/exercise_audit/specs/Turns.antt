-- Turns of the stations: when the next entry of each may happen, and which is first (profile).
use Rattle.std.specs.Prelude.{◌≡◌, ◌≢◌, ◌<◌, ◌≤◌, ◌+◌, ◌*◌, ◌==◌, ◌&&◌, ◌||◌, ℕ, List, length, Bool, nat_lt, Option, Some, None, is_some, option_map, if◌then◌else◌, slice_index_or}
use Rattle.std.specs.List.{sum_by}
use Rattle.exercise_audit.specs.declared.turns.Moment.{Moment}
use Rattle.exercise_audit.specs.declared.turns.Turn.{Turn}

-- the turn of a station, if it has one
abbrev pub turn_of : List (Option Moment) → ℕ → Option Moment
turn_of turns s = slice_index_or turns s None

-- a moment is not after another: its stamp is no greater, and where the stamps are equal its entry is no greater
abbrev pub IsNotAfter : Moment → Moment → Type 0
IsNotAfter m o = (m.stamp ≤ o.stamp) × (m.stamp ≡ o.stamp → m.entry ≤ o.entry)

-- a moment is before another: by the stamp, and where the stamps are equal by the entry
abbrev pub is_before : Moment → Moment → Bool
is_before m o = nat_lt m.stamp o.stamp || ((m.stamp == o.stamp) && nat_lt m.entry o.entry)

-- the earlier of two turns, the first one if neither is before the other
abbrev pub earlier_of : Option Turn → Option Turn → Option Turn
earlier_of first None = first
earlier_of None (Some other) = Some other
earlier_of (Some first) (Some other) = if is_before other.moment first.moment then Some other else Some first

-- a station that has a turn at this moment, which none of the stations from `start` to `end` has before
pub record IsFirstOf (turns : List (Option Moment)) (start end : ℕ) (first : Turn) : Type 0 where
  pub at : turn_of turns first.station ≡ Some first.moment
  pub within : first.station < length turns
  pub least : (s : ℕ) (m : Moment) → start ≤ s → s < end → turn_of turns s ≡ Some m → IsNotAfter first.moment m

-- THE FIRST TURN of the stations from `start` to `end`: none if none of them has a turn
abbrev pub IsFirstTurn : List (Option Moment) → ℕ → ℕ → Option Turn → Type 0
IsFirstTurn turns start end (Some first) = IsFirstOf turns start end first
IsFirstTurn turns start end None = (s : ℕ) → start ≤ s → s < end → turn_of turns s ≡ None

-- the leaf of a station: its turn, if it has one
abbrev pub leaf_of : List (Option Moment) → ℕ → Option Turn
leaf_of turns s = option_map (λ m. record { station = s; moment = m }) (turn_of turns s)

-- a node of the tree of turns
abbrev pub node_at : List (Option Turn) → ℕ → Option Turn
node_at nodes k = slice_index_or nodes k None

-- the nodes 2k and 2k + 1 stand below node k, which has the earlier of their turns
abbrev pub IsInner : List (Option Turn) → ℕ → Type 0
IsInner nodes k = node_at nodes k ≡ earlier_of (node_at nodes (2 * k)) (node_at nodes (2 * k + 1))

-- so it is with all nodes above the leaves of n stations
abbrev pub AreInner : List (Option Turn) → ℕ → Type 0
AreInner nodes n = (k : ℕ) → 1 ≤ k → k < n → IsInner nodes k

-- but one
abbrev pub AreInnerBut : List (Option Turn) → ℕ → ℕ → Type 0
AreInnerBut nodes n but = (k : ℕ) → 1 ≤ k → k < n → k ≢ but → IsInner nodes k

-- THE TREE OF TURNS: the leaf of station s is node n + s, where n is the number of stations
pub record IsTree (turns : List (Option Moment)) (nodes : List (Option Turn)) : Type 0 where
  pub count : length nodes ≡ length turns + length turns
  pub leaves : (s : ℕ) → s < length turns → node_at nodes (length turns + s) ≡ leaf_of turns s
  pub inner : AreInner nodes (length turns)

-- the number of stations that have a turn
abbrev pub turn_count : List (Option Moment) → ℕ
turn_count turns = sum_by (λ o. if is_some o then 1 else 0) turns
