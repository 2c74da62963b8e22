-- Moves as they are made one after the other.
use Rattle.std.proofs.Common.{◌≡◌, ◌⊎◌, inl, inr, ℕ, ◌+◌, ◌<◌, List, [], ◌∷◌, ◌++◌, length, map, take, reverse, get_or, Some, None, refl, sym, ap, ◌∙◌, arith, append_assoc}
use Rattle.std.proofs.lemmas.List.{map-id, map-append, length-map, reverse-append, length-reverse}
use Rattle.std.specs.List.{enumerate_from}
use Rattle.siman_scripts.specs.declared.act.Move.{Move}
use Rattle.siman_stations.specs.declared.world_fault.WorldFault.{WorldFault}
use Rattle.siman_stations.specs.declared.world_fault.WorldFault.TheVariants as world_faults
use Rattle.siman_stations.specs.World.{WorldData, move_fault, course_of, first_fault}
use Rattle.siman_stations.specs.declared.moving.StepFault.{StepFault}
use Rattle.siman_stations.specs.declared.moving.StepFault.TheVariants as step_faults
use Rattle.siman_stations.specs.Acts.{Gives, at_move}
use Rattle.siman_stations.proofs.Courses.{fault_stays, fault_next}

-- moves without their numbers
abbrev pub plain : List (ℕ × Move) → List Move
plain ps = map (λ p. p.1) ps

plain_enumerated : (n : ℕ) (xs : List Move) → plain (enumerate_from n xs) ≡ xs
plain_enumerated n [] = refl
plain_enumerated n (x ∷ xs) = ap (λ (ys : List Move). x ∷ ys) (plain_enumerated (n + 1) xs)

-- all moves, once each was made
pub all_plain : (ps : List (ℕ × Move)) (xs : List Move) → map (λ p. (p.0, p.1)) ps ≡ enumerate_from 0 xs → plain ps ≡ xs
all_plain ps xs e = ap plain (sym (map-id ps) ∙ e) ∙ plain_enumerated 0 xs

-- one more move stands first, where the latest does
pub latest_first : (ps : List (ℕ × Move)) (p : ℕ × Move) → reverse (plain (ps ++ p ∷ [])) ≡ p.1 ∷ reverse (plain ps)
latest_first ps p = ap reverse (map-append (λ (q : ℕ × Move). q.1) ps (p ∷ [])) ∙ reverse-append (plain ps) (p.1 ∷ [])

-- a move with its number, after those before it
pub record IsPlaced (n : ℕ) (xs : List Move) (ps : List (ℕ × Move)) (p : ℕ × Move) : Type 0 where
  pub number : p.0 ≡ n + length ps
  pub rest : List Move
  pub all : xs ≡ plain ps ++ p.1 ∷ rest

stands_next : (n : ℕ) (x : Move) (xs : List Move) (q : ℕ × Move) (ps : List (ℕ × Move)) (p : ℕ × Move) → q ≡ (n, x) → IsPlaced (n + 1) xs ps p
    → IsPlaced n (x ∷ xs) (q ∷ ps) p
stands_next n x xs q ps p e s = record {
  number = let h = s.number in omega arith;
  rest = s.rest;
  all = ap (λ (y : Move). y ∷ xs) (sym (ap (λ (r : ℕ × Move). r.1) e)) ∙ ap (λ (ys : List Move). q.1 ∷ ys) s.all;
}

stands_at : (n : ℕ) (xs : List Move) (ps : List (ℕ × Move)) (p : ℕ × Move) → ps ≡ take (length ps) (enumerate_from n xs)
    → length ps < length (enumerate_from n xs)
    → p ≡ get_or (enumerate_from n xs) (length ps) p → IsPlaced n xs ps p
stands_at n [] ps p e below is = absurd (omega arith)
stands_at n (x ∷ xs) [] p e below is = record {
  number = ap (λ (r : ℕ × Move). r.0) is ∙ omega arith;
  rest = xs;
  all = ap (λ (y : Move). y ∷ xs) (sym (ap (λ (r : ℕ × Move). r.1) is));
}
stands_at n (x ∷ xs) (q ∷ ps) p e below is =
    let here : q ≡ (n, x) = cc in
    let then : ps ≡ take (length ps) (enumerate_from (n + 1) xs) = cc in
    stands_next n x xs q ps p here (stands_at (n + 1) xs ps p then (omega arith) is)

pub stands : (xs : List Move) (ps : List (ℕ × Move)) (p : ℕ × Move) → map (λ q. (q.0, q.1)) ps ≡ take (length ps) (enumerate_from 0 xs)
    → (length ps < length (enumerate_from 0 xs)) × (p ≡ get_or (enumerate_from 0 xs) (length ps) p) → IsPlaced 0 xs ps p
stands xs ps p e at = stands_at 0 xs ps p (sym (map-id ps) ∙ e) at.0 at.1

-- the fault of a move, after those before it were made, is the first of all
pub first_of_all : (w : WorldData) (xs : List Move) (ps : List (ℕ × Move)) (p : ℕ × Move) (f : WorldFault) → IsPlaced 0 xs ps p
    → first_fault w (p.1 ∷ reverse (plain ps)) ≡ Some f → first_fault w (reverse xs) ≡ Some f
first_of_all w xs ps p f s e =
    let all : reverse xs ≡ reverse s.rest ++ p.1 ∷ reverse (plain ps) =
    ap reverse s.all ∙ (reverse-append (plain ps) (p.1 ∷ s.rest)
    ∙ (ap (λ (ys : List Move). ys ++ reverse (plain ps)) (reverse-append (p.1 ∷ []) s.rest) ∙ append_assoc (reverse s.rest) (p.1 ∷ []) (reverse (plain ps)))) in
    ap (λ (ys : List Move). first_fault w ys) all ∙ fault_stays w (reverse s.rest) (p.1 ∷ reverse (plain ps)) f e

-- the number of a move is that of the moves before it
pub number_is : (xs : List Move) (ps : List (ℕ × Move)) (p : ℕ × Move) → IsPlaced 0 xs ps p → length (reverse (plain ps)) ≡ p.0
number_is xs ps p s = length-reverse (plain ps) ∙ (length-map ps (λ (q : ℕ × Move). q.1) ∙ (let h = s.number in omega arith))

-- a move that is not made, after those before it were, has the first fault of all, or memory ran out
pub run_fault : (w : WorldData) (xs : List Move) (ps : List (ℕ × Move)) (p : ℕ × Move) (fault : StepFault) → IsPlaced 0 xs ps p
    → first_fault w (reverse (plain ps)) ≡ None → Gives (move_fault w (course_of w (reverse (plain ps))) p.1) fault
    → (at_move p.0 fault ≡ world_faults.Memory) ⊎ (first_fault w (reverse xs) ≡ Some (at_move p.0 fault))
run_fault w xs ps p (step_faults.Move f) s made h =
    inr (first_of_all w xs ps p (world_faults.Move p.0 f) s
    (fault_next w (reverse (plain ps)) p.1 f made h ∙ ap (λ (n : ℕ). Some (world_faults.Move n f)) (number_is xs ps p s)))
run_fault w xs ps p step_faults.Memory s made h = inl refl
