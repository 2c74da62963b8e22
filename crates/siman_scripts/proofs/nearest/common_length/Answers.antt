use Rattle.std.proofs.Common.{◌≡◌, ℕ, ◌+◌, List, [], ◌∷◌, length, drop, refl, arith, length-drop}
use Rattle.siman_scripts.specs.Nearest.{common_length}
use Rattle.siman_scripts.proofs.nearest.common_length.Goals as goal

-- with no byte nothing begins alike
common_none : (xs ys : List ℕ) → length ys ≡ 0 → common_length xs ys ≡ 0
common_none [] ys h = refl
common_none (x ∷ xs) [] h = refl
common_none (x ∷ xs) (y ∷ ys) h = absurd (omega arith)

pub returns-else-count-b-clause-value : goal.returns-else-count-b-clause-value
returns-else-count-b-clause-value c =
    let i = c.loop-count.count in
    let a = c.args.a.now in
    let b = c.args.b.now in
    let none : length (drop i b) ≡ 0 = omega (arith, length-drop i b) in
    let zero_left : common_length (drop i a) (drop i b) ≡ 0 = common_none (drop i a) (drop i b) none in
    let alike : i + common_length (drop i a) (drop i b) ≡ common_length a b = c.loop-count.invariant.alike in
    omega (arith, zero_left, alike)
