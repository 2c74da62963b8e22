-- The last of so many that are not none.
use Rattle.std.proofs.Common.{◌≡◌, ℕ, ◌-◌, ◌==◌, false, codes, decimal, refl, arith}
use Rattle.std.proofs.lemmas.Bool.Decides.{nat_tests}
use Rattle.byte_files.specs.Pieces.{five}
use Rattle.siman_outside.specs.Reasons.{known_text}
use Rattle.siman_outside.proofs.reason.known_pieces.Goals as goal

is_some : (sends : ℕ) → (sends ≡ 0 → ⊥) → (sends == 0) ≡ false
is_some sends none = grind (arith, nat_tests)

last_known : (line sends : ℕ) → (sends ≡ 0 → ⊥)
    → five (codes "line ") (decimal line) (codes ": only the datagrams 0 to ") (decimal (sends - 1)) (codes " were sent before it") ≡ known_text line sends
last_known line sends none = rw (is_some sends none) refl

pub returns : goal.returns
returns c = rw c.five_pieces.ensures (last_known c.args.line c.args.sends c.if-sends-eq0.false)
