use Rattle.std.proofs.Common.{◌≡◌, ℕ, Bool, true, false, List, refl}
use Rattle.std.specs.Str.{IsUtf8, is_utf8}
use Rattle.std.proofs.lemmas.Str.{IsUtf8-from_is_utf8, is_utf8-from_IsUtf8}
use Rattle.siman_plans.proofs.source_read.check_utf8.Goals as goal

refused : (bs : List ℕ) (b : Bool) → is_utf8 bs ≡ b → ¬ (IsUtf8 bs) → is_utf8 bs ≡ false
refused bs true e h = absurd (h (IsUtf8-from_is_utf8 bs e))
refused bs false e h = e

pub returns-in-Ok : goal.returns-in-Ok
returns-in-Ok c = rw (is_utf8-from_IsUtf8 c.args.line.now c.in-Ok.ensures.cases.1)

pub returns-in-Err : goal.returns-in-Err
returns-in-Err c =
    rw (refused c.args.line.now (is_utf8 c.args.line.now) refl c.in-Err.ensures.cases.0, ← c.in-Err.ensures.valid_len, c.valid_up_to.ensures)
