-- The receipts of a datagram.
use Rattle.std.proofs.Common.{◌≡◌, ℕ, zero, suc, ◌<◌, ◌≤◌, List, [], ◌∷◌, ◌++◌, length, take, drop, set, Option, Some, None, refl, sym, ap, subst, ◌∙◌, arith}
use Rattle.std.specs.Prelude.{slice_get, IfSome}
use Rattle.std.specs.List.{insert}
use Rattle.std.proofs.lemmas.Bool.Decides.{nat_tests}
use Rattle.siman_plans.specs.declared.deed.Receipt.{Receipt}
use Rattle.siman_plans.specs.Sent.{one_more, first_receipt, received_at}

-- a receipt with one more
abbrev pub counted : Receipt → Receipt
counted r = record r { times = one_more r.times }

set_split : {X : Type 0} (xs : List X) (p : ℕ) (y : X) → p < length xs → set xs p y ≡ take p xs ++ y ∷ drop (suc p) xs
set_split [] p y within = absurd (omega arith)
set_split (x ∷ xs) zero y within = refl
set_split (x ∷ xs) (suc p) y within = ap (λ (ys : List _). x ∷ ys) (set_split xs p y (omega arith))

insert_split : {X : Type 0} (xs : List X) (p : ℕ) (y : X) → p ≤ length xs → insert xs p y ≡ take p xs ++ y ∷ drop p xs
insert_split xs p y within = refl

drop_at : {X : Type 0} (xs : List X) (p : ℕ) (x : X) → slice_get xs p ≡ Some x → drop p xs ≡ x ∷ drop (suc p) xs
drop_at [] p x at = absurd cc
drop_at (y ∷ xs) zero x at = cc
drop_at (y ∷ xs) (suc p) x at = drop_at xs p x at

here : (s : ℕ) (r : Receipt) (rs : List Receipt) → r.station ≡ s → received_at s (r ∷ rs) ≡ counted r ∷ rs
here s r rs is = grind (arith, nat_tests)

behind : (s : ℕ) (r : Receipt) (rs : List Receipt) → s < r.station → received_at s (r ∷ rs) ≡ first_receipt s ∷ r ∷ rs
behind s r rs less = grind (arith, nat_tests)

-- the station has a receipt there
pub found : (s p : ℕ) (rs : List Receipt) (r : Receipt) → p < length rs → received_at s rs ≡ take p rs ++ received_at s (drop p rs)
    → slice_get rs p ≡ Some r → r.station ≡ s → set rs p (counted r) ≡ received_at s rs
found s p rs r within before at is =
    set_split rs p (counted r) within
    ∙ sym (before ∙ ap (λ (ys : List Receipt). take p rs ++ ys) (ap (received_at s) (drop_at rs p r at) ∙ here s r (drop (suc p) rs) is))

front : (s : ℕ) (rs : List Receipt) → IfSome (slice_get rs 0) (λ r. s < r.station) → received_at s rs ≡ first_receipt s ∷ rs
front s [] next = refl
front s (r ∷ rs) next = behind s r rs next

get_drop : {X : Type 0} (xs : List X) (p : ℕ) → slice_get (drop p xs) 0 ≡ slice_get xs p
get_drop [] zero = refl
get_drop [] (suc p) = refl
get_drop (x ∷ xs) zero = refl
get_drop (x ∷ xs) (suc p) = get_drop xs p

-- no receipt of the station is there, and those from there on are behind it
pub placed : (s p : ℕ) (rs : List Receipt) → p ≤ length rs → received_at s rs ≡ take p rs ++ received_at s (drop p rs)
    → IfSome (slice_get rs p) (λ r. s < r.station) → insert rs p (first_receipt s) ≡ received_at s rs
placed s p rs within before next =
    insert_split rs p (first_receipt s) within
    ∙ sym (before ∙ ap (λ (ys : List Receipt). take p rs ++ ys)
    (front s (drop p rs) (subst (λ o. IfSome o (λ r. s < r.station)) (sym (get_drop rs p)) next)))

-- where the receipt there is not behind the station and not of it, or there is none
pub next_where : (s p : ℕ) (rs : List Receipt) (r : Receipt) → slice_get rs p ≡ Some r → IfSome (slice_get rs p) (λ r. s ≤ r.station) → (r.station ≡ s → ⊥)
    → IfSome (slice_get rs p) (λ r. s < r.station)
next_where s p rs r at from other = by (slice_get rs p) at from where
  by : (o : Option Receipt) → o ≡ Some r → IfSome o (λ q. s ≤ q.station) → IfSome o (λ q. s < q.station)
  by None e h = tt
  by (Some q) e h = let same : q ≡ r = cc in grind (arith, same)

pub next_none : (s p : ℕ) (rs : List Receipt) → length rs ≤ p → IfSome (slice_get rs p) (λ r. s < r.station)
next_none s p [] past = tt
next_none s zero (r ∷ rs) past = absurd (omega arith)
next_none s (suc p) (r ∷ rs) past = next_none s p rs (omega arith)
