-- The effect of a call on the datagrams that a link specifies: those that it returned, or those that it was passed;
-- the oldest first. A link specifies them in all states or in none.
use Rattle.std.specs.Prelude.{◌≡◌, ℕ, ◌≤◌, min, length, take, List, [], ◌∷◌, ◌++◌, Option, Some, None, ⊤, ◌⊎◌}

abbrev pub Datagrams : Type 0
Datagrams = List (List ℕ)

-- the datagrams are unchanged
abbrev pub Same : Option Datagrams → Option Datagrams → Type 0
Same None None = ⊤
Same None (Some ys) = ⊥
Same (Some xs) None = ⊥
Same (Some xs) (Some ys) = ys ≡ xs

-- some datagrams are added, in this order
abbrev pub GrowsAll : Option Datagrams → Option Datagrams → Datagrams → Type 0
GrowsAll None None ds = ⊤
GrowsAll None (Some ys) ds = ⊥
GrowsAll (Some xs) None ds = ⊥
GrowsAll (Some xs) (Some ys) ds = ys ≡ xs ++ ds

-- one datagram is added
abbrev pub Grows : Option Datagrams → Option Datagrams → List ℕ → Type 0
Grows old new d = GrowsAll old new (d ∷ [])

-- one datagram is added, or none
abbrev pub MayGrow : Option Datagrams → Option Datagrams → List ℕ → Type 0
MayGrow old new d = Grows old new d ⊎ Same old new

-- one datagram is added, whose first n bytes are at the front of the buffer; one longer than the buffer is cut
abbrev pub Hands : Option Datagrams → Option Datagrams → ℕ → List ℕ → Type 0
Hands old new n buffer = (d : List ℕ) × (n ≤ length buffer) × (n ≡ min (length d) (length buffer)) × (take n buffer ≡ take n d) × Grows old new d
