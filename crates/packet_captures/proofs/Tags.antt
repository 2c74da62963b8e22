-- One more tag that is passed over.
use Rattle.std.proofs.Common.{◌≡◌, ℕ, ◌≤◌, ◌<◌, true, false, List, [], ◌∷◌, length, drop, refl, arith}
use Rattle.std.specs.Prelude.{Some, None}
use Rattle.std.specs.Int.{w16}
use Rattle.packet_captures.specs.NetworkOrder.{number_at}
use Rattle.packet_captures.specs.Ethernet.{is_tag, untagged}

pub untagged_more : (kind : ℕ) (b : List ℕ) → is_tag kind ≡ true → 4 ≤ length b → untagged kind b ≡ untagged (number_at w16 2 b) (drop 4 b)
unfolding untagged number_at
untagged_more kind (x ∷ y ∷ z ∷ w ∷ b) tag four = rw tag refl
untagged_more kind (x ∷ y ∷ z ∷ []) tag four = absurd (omega arith)
untagged_more kind (x ∷ y ∷ []) tag four = absurd (omega arith)
untagged_more kind (x ∷ []) tag four = absurd (omega arith)
untagged_more kind [] tag four = absurd (omega arith)

pub untagged_short : (kind : ℕ) (b : List ℕ) → is_tag kind ≡ true → length b < 4 → untagged kind b ≡ None
unfolding untagged
untagged_short kind (x ∷ y ∷ z ∷ w ∷ b) tag short = absurd (omega arith)
untagged_short kind (x ∷ y ∷ z ∷ []) tag short = rw tag refl
untagged_short kind (x ∷ y ∷ []) tag short = rw tag refl
untagged_short kind (x ∷ []) tag short = rw tag refl
untagged_short kind [] tag short = rw tag refl

pub untagged_plain : (kind : ℕ) (b : List ℕ) → is_tag kind ≡ false → untagged kind b ≡ Some (kind, b)
unfolding untagged
untagged_plain kind (x ∷ y ∷ z ∷ w ∷ b) plain = rw plain refl
untagged_plain kind (x ∷ y ∷ z ∷ []) plain = rw plain refl
untagged_plain kind (x ∷ y ∷ []) plain = rw plain refl
untagged_plain kind (x ∷ []) plain = rw plain refl
untagged_plain kind [] plain = rw plain refl
