-- Parts of a datagram: which overlap, and which stand at their place.
use Rattle.std.specs.Prelude.{◌≡◌, ◌≢◌, ℕ, ◌-◌, ◌<◌, ◌≤◌, ◌⊎◌, false, List, [], ◌∷◌, length, take, drop, Option, Some, None, IfSome}
use Rattle.packet_captures.specs.declared.fragment.Key.{Key}
use Rattle.packet_captures.specs.declared.assembly.TheConstants.{LARGEST_COUNT}
use Rattle.packet_captures.specs.Pending.{PlainPart, PlainPending, end_of, is_complete}

-- Two parts overlap: each begins before the other ends.
abbrev pub Overlap : PlainPart → PlainPart → Type 0
Overlap p q = (p.offset < end_of q) × (q.offset < end_of p)

-- A part overlaps one of others.
abbrev pub OverlapsOne : PlainPart → List PlainPart → Type 0
OverlapsOne p [] = ⊥
OverlapsOne p (q ∷ qs) = Overlap p q ⊎ OverlapsOne p qs

-- All parts begin at a place or behind it.
abbrev pub AllBehind : ℕ → List PlainPart → Type 0
AllBehind at [] = Unit {0}
AllBehind at (p ∷ ps) = (at ≤ p.offset) × AllBehind at ps

-- Each part ends before all behind it begin: they are in order, and no two overlap.
abbrev pub AreInOrder : List PlainPart → Type 0
AreInOrder [] = Unit {0}
AreInOrder (p ∷ ps) = AllBehind (end_of p) ps × AreInOrder ps

-- A part stands in bytes at its place, of which the first is at another.
abbrev pub StandsIn : List ℕ → ℕ → PlainPart → Type 0
StandsIn whole at p = take (length p.bytes) (drop (p.offset - at) whole) ≡ p.bytes

abbrev pub AllStandIn : List ℕ → ℕ → List PlainPart → Type 0
AllStandIn whole at [] = Unit {0}
AllStandIn whole at (p ∷ ps) = StandsIn whole at p × AllStandIn whole at ps

-- A place is not behind the end, if that is told, and else not behind 65,535.
abbrev pub IsWithin : Option ℕ → ℕ → Type 0
IsWithin None place = place ≤ 65535
IsWithin (Some end) place = place ≤ end

-- No part reaches further.
abbrev pub AllWithin : Option ℕ → List PlainPart → Type 0
AllWithin end [] = Unit {0}
AllWithin end (p ∷ ps) = IsWithin end (end_of p) × AllWithin end ps

-- A datagram is held well: its parts are in order and none overlaps another; none reaches behind the end or beyond
-- 65,535, nor does the end; it is not whole.
pub record IsHeldWell (d : PlainPending) : Type 0 where
  pub in_order : AreInOrder d.parts
  pub within : AllWithin d.end d.parts
  pub end_within : IfSome d.end (λ end. end ≤ 65535)
  pub open_yet : is_complete d ≡ false

-- None is the datagram of a key.
abbrev pub NoneIsOf : Key → List PlainPending → Type 0
NoneIsOf key [] = Unit {0}
NoneIsOf key (d ∷ ds) = (d.key ≢ key) × NoneIsOf key ds

-- Each has a key of its own.
abbrev pub AreDistinct : List PlainPending → Type 0
AreDistinct [] = Unit {0}
AreDistinct (d ∷ ds) = NoneIsOf d.key ds × AreDistinct ds

abbrev pub AllHeldWell : List PlainPending → Type 0
AllHeldWell [] = Unit {0}
AllHeldWell (d ∷ ds) = IsHeldWell d × AllHeldWell ds

-- At most 64 datagrams are held, each with a key of its own, and each well.
pub record AreHeldWell (held : List PlainPending) : Type 0 where
  pub limit : length held ≤ LARGEST_COUNT
  pub distinct : AreDistinct held
  pub each : AllHeldWell held
