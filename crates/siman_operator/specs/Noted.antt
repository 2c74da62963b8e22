-- Logged datagrams (profile).
use Rattle.std.specs.Prelude.{ℕ, List, [], ◌∷◌, map, Vec}
use Rattle.std.specs.declared.alloc.Global.{Global}
use Rattle.siman_lines.specs.LineDatagrams.{Datagrams}

-- the bytes of each, the oldest first
abbrev pub datagrams_of : List (Vec ℕ Global × Unit {0}) → Datagrams
datagrams_of items = map (λ d. d.0.items) items

-- the last datagram, or no bytes if there is none
abbrev pub last_of : Datagrams → List ℕ
last_of [] = []
last_of (d ∷ []) = d
last_of (d ∷ e ∷ ds) = last_of (e ∷ ds)
