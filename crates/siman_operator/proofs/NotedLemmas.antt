-- One datagram more is noted.
use Rattle.std.proofs.Common.{◌≡◌, ℕ, ◌+◌, List, [], ◌∷◌, ◌++◌, length, refl, ap, sym, ◌∙◌, arith, length-append}
use Rattle.std.specs.Prelude.{Vec}
use Rattle.std.specs.declared.alloc.Global.{Global}
use Rattle.std.proofs.lemmas.List.{map-append}
use Rattle.siman_lines.specs.LineDatagrams.{Datagrams}
use Rattle.siman_operator.specs.Noted.{datagrams_of, last_of}

pub last_more : (ds : Datagrams) (d : List ℕ) → last_of (ds ++ d ∷ []) ≡ d
last_more [] d = refl
last_more (x ∷ []) d = refl
last_more (x ∷ y ∷ ds) d = last_more (y ∷ ds) d

pub noted_more : (all more : List (Vec ℕ Global × Unit {0})) (v : Vec ℕ Global × Unit {0}) → more ≡ all ++ v ∷ []
    → datagrams_of more ≡ datagrams_of all ++ v.0.items ∷ []
noted_more all more v is = ap datagrams_of is ∙ map-append (λ d. d.0.items) all (v ∷ [])

pub latest_more : (all more : List (Vec ℕ Global × Unit {0})) (v : Vec ℕ Global × Unit {0}) → more ≡ all ++ v ∷ []
    → v.0.items ≡ last_of (datagrams_of more)
latest_more all more v is = sym (ap last_of (noted_more all more v is) ∙ last_more (datagrams_of all) v.0.items)

pub count_more : (n : ℕ) (all more : List (Vec ℕ Global × Unit {0})) (v : Vec ℕ Global × Unit {0}) → n ≡ length all → more ≡ all ++ v ∷ []
    → n + 1 ≡ length more
count_more n all more v count is = omega (arith, count, ap length is, length-append all (v ∷ []))
