-- The slots of entities: where the bars of an entity stand, and what was told of it (profile).
use Rattle.std.specs.Prelude.{ℕ, List, [], ◌∷◌, Bool, false, ◌&&◌, ◌||◌, ◌==◌, Option, Some, None, if◌then◌else◌}
use Rattle.exercise_chart.specs.declared.bar.Bar.{Bar}
use Rattle.exercise_chart.specs.declared.bar.TheConstants.{MOST_ENTITIES}
use Rattle.exercise_chart.specs.Frame.{column_x, slot_x}

-- a bar is of entity e of station s
abbrev pub is_bar_of : (s e : ℕ) → Bar → Bool
is_bar_of s e b = (b.station == s) && (b.entity.entity == e)

-- THE SLOT of the bars of entity e of station s, if it has bars
abbrev pub slot_of : (s e : ℕ) → List Bar → Option ℕ
slot_of s e [] = None
slot_of s e (b ∷ bars) = if is_bar_of s e b then Some b.slot else slot_of s e bars

-- station s has bars
abbrev pub has_bars : (s : ℕ) → List Bar → Bool
has_bars s [] = false
has_bars s (b ∷ bars) = (b.station == s) || has_bars s bars

-- the middle of what was told of an entity without bars: to the right of the bars of its station, if it
-- has bars, else on the column
abbrev pub barless_x : (column : ℕ) → List Bar → (s : ℕ) → ℕ
barless_x c bars s = if has_bars s bars then slot_x c MOST_ENTITIES else column_x c

-- the middle of what was told of an entity with bars in this slot, or with none
abbrev pub slotted_x : (column : ℕ) → List Bar → (s : ℕ) → Option ℕ → ℕ
slotted_x c bars s (Some slot) = slot_x c slot
slotted_x c bars s None = barless_x c bars s

-- THE MIDDLE OF A TOLD STATE of entity e of station s in its column: that of its entity's bars, if it has
-- bars
unfoldable pub told_x : (column : ℕ) → List Bar → (s e : ℕ) → ℕ
told_x c bars s e = slotted_x c bars s (slot_of s e bars)
