use Rattle.std.proofs.Common.{[], ◌∷◌, refl, arith}
use Rattle.siman_tests.proofs.uses.fragment.may_come_before_the_first.Goals as goal

pub returns : goal.returns
returns c = λ addresses identification end stamp p q held are limit well none.
    c.fragments_may_come_in_any_order.ensures addresses identification end (p ∷ q ∷ []) (λ k. stamp) 1 (0 ∷ []) held are limit
    (refl, (refl, (refl, (refl, tt)))) (λ k. (omega arith, omega arith)) well none
