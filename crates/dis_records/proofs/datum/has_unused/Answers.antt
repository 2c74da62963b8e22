use Rattle.std.proofs.Common.{◌≡◌, ◌≢◌, ◌↔◌, ℕ, IsTrue, refl, sym, ◌∙◌, eqb, not, true, eq-eqb, ne_eqb}
use Rattle.dis_records.proofs.Cleared.{cleared_exactly}
use Rattle.dis_records.proofs.datum.has_unused.Goals as goal

apart : (x y : ℕ) → IsTrue (not (eqb x y)) ↔ (x ≢ y)
apart x y = (
  λ h e. let same : eqb x y ≡ true = eq-eqb x y e in let clash = rw same at h in cc,
  λ ne. rw (ne_eqb x y ne) refl,
)

pub returns-in-Some : goal.returns-in-Some
returns-in-Some c =
    let found = rw c.in-Some.is at c.last.ensures.value in
    let same = cleared_exactly c.args.bits c.in-Some.last.now c.args.bytes.now c.requires (sym found) in
    let tests = apart c.cleared_last.result c.in-Some.last.now in
    (λ h whole. tests.0 h (c.cleared_last.ensures ∙ same.1 whole), λ ne. tests.1 (λ e. ne (same.0 (sym c.cleared_last.ensures ∙ e))))
