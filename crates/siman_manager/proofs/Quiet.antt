-- The times of the blocks hold on as orders are made, looked at and settled.
use Rattle.std.proofs.Common.{◌≡◌, ℕ, zero, suc, ◌+◌, ◌*◌, ◌/◌, ◌-◌, ◌<◌, ◌≤◌, List, [], ◌∷◌, ◌++◌, length, set, refl, ap, sym, ◌∙◌, subst, arith, length-append, length-set, inl, inr}
use Rattle.std.specs.Prelude.{Bool, true, false, ◌&&◌, nat_le, nat_lt, slice_get, Some, if◌then◌else◌, ◌⊎◌}
use Rattle.std.proofs.lemmas.Bool.Decides.{nat_tests}
use Rattle.siman_pdus.specs.declared.pdu.Pdu.{Pdu}
use Rattle.siman_pdus.specs.Answers.{is_answer_to}
use Rattle.siman_manager.specs.declared.kept.MadeOrder.{MadeOrder}
use Rattle.siman_manager.specs.declared.kept.OrderStanding.TheVariants as standings
use Rattle.siman_manager.specs.declared.settings.Settings.{Settings}
use Rattle.siman_manager.specs.Book.{is_waiting, is_due, looked_at, resent, settles, settled}
use Rattle.siman_manager.specs.Blocks.{IsQuiet, IsLater, AreLater, AreBlocks}
use Rattle.siman_manager.proofs.Steps.{slice_get-set}

-- An order is due no sooner after it was looked at.

no_wait_is_due : (w : Bool) (wait past since : ℕ) → w ≡ true → (w && nat_le wait past) ≡ false → since ≡ 0 → (w && nat_le wait since) ≡ false
no_wait_is_due true wait past since e q z = grind (arith, nat_tests)
no_wait_is_due false wait past since e q z = refl

first_true : (a b : Bool) → (a && b) ≡ true → a ≡ true
first_true true b e = refl
first_true false b e = absurd cc

not_below : (s : Settings) (now time : ℕ) (x : MadeOrder) → IsQuiet s time x → is_due s now x ≡ true → time ≤ now
not_below s now time x quiet e = side (nat_le time now) refl where
  side : (b : Bool) → nat_le time now ≡ b → time ≤ now
  side true t = grind (arith, nat_tests)
  side false t = let under : now < time = grind (arith, nat_tests) in let clash : is_due s now x ≡ false = quiet now under in absurd cc

looked-quiet : (s : Settings) (now stamp time t : ℕ) (x : MadeOrder) → IsQuiet s time x → t < time → is_due s t (looked_at s now stamp x) ≡ false
looked-quiet s now stamp time t x quiet below = tested (is_due s now x) (nat_lt x.sends s.tries) refl where
  tested : (due fewer : Bool) → is_due s now x ≡ due
      → is_due s t (if due then (if fewer then resent now stamp x else record x { standing = standings.GivenUp }) else x) ≡ false
  tested true true e =
      let after : time ≤ now = not_below s now time x quiet e in
      no_wait_is_due (is_waiting x.standing) s.wait (t - x.last) (t - now) (first_true (is_waiting x.standing) (nat_le s.wait (now - x.last)) e) (quiet t below)
      (omega arith)
  tested true false e = refl
  tested false fewer e = quiet t below

pub later-looked : (s : Settings) (now stamp : ℕ) (x y : MadeOrder) → y ≡ looked_at s now stamp x → IsLater s x y
later-looked s now stamp x y e time quiet t below = ap (is_due s t) e ∙ looked-quiet s now stamp time t x quiet below

-- An order is due no sooner after it was settled.

settled-quiet : (s : Settings) (p : Pdu) (time t : ℕ) (x : MadeOrder) → IsQuiet s time x → t < time → is_due s t (settled p x) ≡ false
settled-quiet s p time t x quiet below = tested (is_answer_to p x.pdu) (settles p.body) where
  tested : (own settling : Bool) → is_due s t (if own then (if settling then record x { standing = standings.Answered } else x) else x) ≡ false
  tested true true = refl
  tested true false = quiet t below
  tested false settling = quiet t below

pub later-settled : (s : Settings) (p : Pdu) (x y : MadeOrder) → y ≡ settled p x → IsLater s x y
later-settled s p x y e time quiet t below = ap (is_due s t) e ∙ settled-quiet s p time t x quiet below

-- All orders are due no sooner after one was written so.

pub later-same : (s : Settings) (xs : List MadeOrder) → AreLater s xs xs
later-same s xs p y at = (y, at, λ time q. q)

pub later-both : (s : Settings) (xs ys zs : List MadeOrder) → AreLater s xs ys → AreLater s ys zs → AreLater s xs zs
later-both s xs ys zs f g p z at =
    let b : (y : MadeOrder) × (slice_get ys p ≡ Some y) × IsLater s y z = g p z at in
    let a : (x : MadeOrder) × (slice_get xs p ≡ Some x) × IsLater s x b.0 = f p b.0 b.1 in
    (a.0, a.1, λ time q. b.2 time (a.2 time q))

-- what stands at a place of a list after a write is what was written there, or what stood there
pub slice_get-set_either : {X : Type 0} (xs : List X) (i : ℕ) (y : X) (k : ℕ) (z : X) → slice_get (set xs i y) k ≡ Some z
    → (k ≡ i) × (z ≡ y) ⊎ slice_get xs k ≡ Some z
slice_get-set_either [] i y k z e = absurd cc
slice_get-set_either (x ∷ xs) zero y zero z e = inl (refl, cc)
slice_get-set_either (x ∷ xs) zero y (suc k) z e = inr e
slice_get-set_either (x ∷ xs) (suc i) y zero z e = inr e
slice_get-set_either (x ∷ xs) (suc i) y (suc k) z e =
    elim (slice_get-set_either xs i y k z e) [ inl h ↦ inl (ap suc h.0, h.1) | inr h ↦ inr h ]

pub later-set : (s : Settings) (xs : List MadeOrder) (i : ℕ) (x y : MadeOrder) → slice_get xs i ≡ Some x → IsLater s x y → AreLater s xs (set xs i y)
later-set s xs i x y at later p z e =
    elim (slice_get-set_either xs i y p z e) [
      | inl h ↦ (x, ap (slice_get xs) h.0 ∙ at, subst (λ (w : MadeOrder). IsLater s x w) (sym h.1) later)
      | inr h ↦ (z, h, λ time q. q)
    ]

-- The blocks hold on.

pub blocks-later : (s : Settings) (times : List ℕ) (xs ys : List MadeOrder) → AreBlocks s times xs → AreLater s xs ys → length ys ≡ length xs
    → AreBlocks s times ys
blocks-later s times xs ys are later same = record {
  quiet = λ b time p y at_time at low high.
      let a : (x : MadeOrder) × (slice_get xs p ≡ Some x) × IsLater s x y = later p y at in
      a.2 time (are.quiet b time p a.0 at_time a.1 low high);
  have_all = omega (arith, are.have_all, same);
  last_begun = omega (arith, are.last_begun, same);
}

-- a block gets a time before which none of its orders is due
pub blocks-renewed : (s : Settings) (times : List ℕ) (xs : List MadeOrder) (b time : ℕ) → AreBlocks s times xs
    → ((p : ℕ) (k : MadeOrder) → 64 * b ≤ p → p < 64 * b + 64 → slice_get xs p ≡ Some k → IsQuiet s time k)
    → AreBlocks s (set times b time) xs
blocks-renewed s times xs b time are quiet = record {
  quiet = λ c t p k at_time at low high.
      elim (slice_get-set_either times b time c t at_time) [
        | inl h ↦ (let low_b : 64 * b ≤ p = omega (arith, low, h.0) in let high_b : p < 64 * b + 64 = omega (arith, high, h.0) in
            subst (λ (u : ℕ). IsQuiet s u k) (sym h.1) (quiet p k low_b high_b at))
        | inr h ↦ are.quiet c t p k h at low high
      ];
  have_all = omega (arith, are.have_all, length-set times b time);
  last_begun = omega (arith, are.last_begun, length-set times b time);
}

-- what stands at a place of a list that one more was put to is that, at the end, or what stood there
pub slice_get-append_either : {X : Type 0} (xs : List X) (x : X) (k : ℕ) (z : X) → slice_get (xs ++ x ∷ []) k ≡ Some z
    → (k ≡ length xs) × (z ≡ x) ⊎ (k < length xs) × (slice_get xs k ≡ Some z)
slice_get-append_either [] x zero z e = inl (refl, cc)
slice_get-append_either [] x (suc k) z e = absurd cc
slice_get-append_either (y ∷ ys) x zero z e = inr (omega arith, e)
slice_get-append_either (y ∷ ys) x (suc k) z e =
    elim (slice_get-append_either ys x k z e) [ inl h ↦ inl (ap suc h.0, h.1) | inr h ↦ inr (omega (arith, h.0), h.1) ]

-- an order that begins a block
pub blocks-begun : (s : Settings) (times : List ℕ) (xs : List MadeOrder) (kept : MadeOrder) (place time : ℕ) → length times ≤ place / 64
    → length xs ≡ place → IsQuiet s time kept → AreBlocks s times xs → AreBlocks s (times ++ time ∷ []) (xs ++ kept ∷ [])
blocks-begun s times xs kept place time full last quiet are =
    let whole : length xs ≡ 64 * length times = omega (arith, full, last, are.have_all) in
    record {
      quiet = λ b t p k at_time at low high.
          elim (slice_get-append_either xs kept p k at) [
            | inl h ↦ elim (slice_get-append_either times time b t at_time) [
              | inl g ↦ subst (λ (u : ℕ). IsQuiet s u k) (sym g.1) (subst (λ (x : MadeOrder). IsQuiet s time x) (sym h.1) quiet)
              | inr g ↦ absurd (omega (arith, g.0, h.0, whole, high))
            ]
            | inr h ↦ elim (slice_get-append_either times time b t at_time) [
              | inl g ↦ absurd (omega (arith, g.0, h.0, whole, low))
              | inr g ↦ are.quiet b t p k g.1 h.1 low high
            ]
          ];
      have_all = omega (arith, whole, length-append times (time ∷ []), length-append xs (kept ∷ []));
      last_begun = omega (arith, whole, length-append times (time ∷ []), length-append xs (kept ∷ []));
    }

-- Each time is at most what it was, and that of one block at most this.
pub record AreLowered (block time : ℕ) (old new : List ℕ) : Type 0 where
  pub same : length new ≡ length old
  pub lower : (b t : ℕ) → slice_get new b ≡ Some t → (u : ℕ) × (slice_get old b ≡ Some u) × (t ≤ u)
  pub noted : (t : ℕ) → slice_get new block ≡ Some t → t ≤ time

pub lowered-kept : (block time u : ℕ) (times : List ℕ) → slice_get times block ≡ Some u → u ≤ time → AreLowered block time times times
lowered-kept block time u times at below = record {
  same = refl;
  lower = λ b t e. (t, e, omega arith);
  noted = λ t e. let is : t ≡ u = cc in omega (arith, is, below);
}

pub lowered-set : (block time u : ℕ) (times : List ℕ) → slice_get times block ≡ Some u → time < u → AreLowered block time times (set times block time)
lowered-set block time u times at below = record {
  same = length-set times block time;
  lower = λ b t e.
      elim (slice_get-set_either times block time b t e) [
        | inl h ↦ (u, ap (slice_get times) h.0 ∙ at, omega (arith, h.1, below))
        | inr h ↦ (t, h, omega arith)
      ];
  noted = λ t e. let is : Some t ≡ Some time = sym e ∙ slice_get-set times block u time at in let same : t ≡ time = cc in omega (arith, same);
}

-- an order that goes on in the last block
pub blocks-gone_on : (s : Settings) (times new : List ℕ) (xs : List MadeOrder) (kept : MadeOrder) (place time : ℕ) → place / 64 < length times
    → AreLowered (place / 64) time times new
    → length xs ≡ place → IsQuiet s time kept → AreBlocks s times xs → AreBlocks s new (xs ++ kept ∷ [])
blocks-gone_on s times new xs kept place time room lowered last quiet are = record {
  quiet = λ b t p k at_time at low high.
      elim (slice_get-append_either xs kept p k at) [
        | inl h ↦ (λ now below. own b t p k at_time low high h.0 h.1 now below)
        | inr h ↦ (let old : (u : ℕ) × (slice_get times b ≡ Some u) × (t ≤ u) = lowered.lower b t at_time in
            λ now below. are.quiet b old.0 p k old.1 h.1 low high now (omega (arith, below, old.2)))
      ];
  have_all = omega (arith, room, last, lowered.same, length-append xs (kept ∷ []));
  last_begun = omega (arith, are.last_begun, lowered.same, length-append xs (kept ∷ []));
} where
  own : (b t p : ℕ) (k : MadeOrder) → slice_get new b ≡ Some t → 64 * b ≤ p → p < 64 * b + 64 → p ≡ length xs → k ≡ kept → IsQuiet s t k
  own b t p k at_time low high here is now below =
      let block : b ≡ place / 64 = omega (arith, low, high, here, last) in
      let under : t ≤ time = lowered.noted t (ap (slice_get new) (sym block) ∙ at_time) in
      ap (is_due s now) is ∙ quiet now (omega (arith, below, under))
