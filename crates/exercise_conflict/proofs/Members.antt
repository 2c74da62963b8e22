-- What stands in a history, and what stands in one that adds to it.
use Rattle.std.proofs.Common.{◌≡◌, ◌⊎◌, inl, inr, ⊎_elim, ℕ, ◌<◌, ◌≤◌, List, [], ◌∷◌, ◌++◌, length, drop, Bool, true, false, refl, sym, ap, ◌∙◌, subst, arith, append_assoc, length-append}
use Rattle.std.specs.Prelude.{◌||◌}
use Rattle.std.specs.List.{list_any}
use Rattle.std.proofs.lemmas.Bool.{or_cases, or_left, or_right}
use Rattle.std.proofs.lemmas.List.{drop_at, drop-append-le}
use Rattle.exercise_model.specs.History.{Event, History}
use Rattle.exercise_model.specs.Run.{Contains, IsBeginning}
use Rattle.exercise_model.proofs.Offered.{beginning_length, same_beginnings}
use Rattle.exercise_conflict.specs.Repair.{Every}
use Rattle.exercise_conflict.specs.Wider.{AddsTo}
use Rattle.exercise_conflict.proofs.Additions.{stands_after}

-- ---- beginnings

-- of two beginnings the shorter one is one of the longer one
pub shorter : (h k whole : History) → IsBeginning h whole → IsBeginning k whole → length h ≤ length k → IsBeginning h k
shorter h k whole p q le =
    let within : length q.0 ≤ length p.0 = omega (arith, ap length p.1, ap length q.1, length-append p.0 h, length-append q.0 k) in
    (drop (length q.0) p.0, sym (drop-append-le (length q.0) p.0 h within) ∙ ap (drop (length q.0)) (p.1 ∙ sym q.1) ∙ drop_at q.0 k (length q.0) refl)

pub begins_on : (h k l : History) → IsBeginning h k → IsBeginning k l → IsBeginning h l
begins_on h k l p q = (q.0 ++ p.0, append_assoc q.0 p.0 h ∙ ap (λ z. q.0 ++ z) p.1 ∙ q.1)

pub begins_tail : (v : Event) (h whole : History) → IsBeginning (v ∷ h) whole → IsBeginning h whole
begins_tail v h whole p = (p.0 ++ v ∷ [], append_assoc p.0 (v ∷ []) h ∙ p.1)

pub begins_itself : (h : History) → IsBeginning h h
begins_itself h = ([], refl)

-- ---- members

-- an event stands in a history
abbrev pub IsIn : Event → History → Type 0
IsIn v h = (before : History) × Contains h before v

pub in_later : (v : Event) (later h : History) → IsIn v h → IsIn v (later ++ h)
in_later v later h found = (found.0, (later ++ found.1.0, append_assoc later found.1.0 (v ∷ found.0) ∙ ap (λ k. later ++ k) found.1.1))

pub in_whole : (v : Event) (h k : History) → IsBeginning h k → IsIn v h → IsIn v k
in_whole v h k begins found = subst (IsIn v) begins.1 (in_later v begins.0 h found)

pub in_here : (v : Event) (h : History) → IsIn v (v ∷ h)
in_here v h = (h, ([], refl))

-- what stands in a history stands in what adds to it
pub in_added : (may : Event → Bool) (v : Event) (l k : History) → AddsTo may l k → IsIn v l → IsIn v k
in_added may v l k adds found =
    let at = stands_after may found.1.0 found.0 v k (subst (λ z. AddsTo may z k) (sym found.1.1) adds) in (at.log, (at.later, at.whole))

-- what passes and stands there is some that passes
pub any_in : (f : Event → Bool) (v : Event) (h : History) → IsIn v h → f v ≡ true → list_any f h ≡ true
any_in f v h found passes = subst (λ k. list_any f k ≡ true) found.1.1 (after found.1.0)
  where
    after : (later : History) → list_any f (later ++ v ∷ found.0) ≡ true
    after [] = or_left _ _ passes
    after (w ∷ later) = or_right _ _ (after later)

pub none_in : (f : Event → Bool) (v : Event) (h : History) → IsIn v h → list_any f h ≡ false → f v ≡ false
none_in f v h found none =
    elim (f v) as (λ b. f v ≡ b → b ≡ false) [
      | false ↦ λ _. refl
      | true ↦ λ passes. absurd (cc (sym (any_in f v h found passes) ∙ none))
    ] refl

-- where each event of a history stands in another one, of which none passes, none passes
pub none_among : (f : Event → Bool) (whole h : History) → ((v : Event) → IsIn v whole → f v ≡ false) → Every (λ v. IsIn v whole) h → list_any f h ≡ false
none_among f whole [] none all = refl
none_among f whole (v ∷ h) none all = ap (λ b. b || list_any f h) (none v all.0) ∙ none_among f whole h none all.1

-- ---- parts of what adds to a history

-- what is before a place of a history adds to a beginning of what the history adds to
pub record Part (may : Event → Bool) (l k : History) : Type 0 where
  pub part : History
  pub begins : IsBeginning part l
  pub adds : AddsTo may part k

pub part_before : (may : Event → Bool) (later k l : History) → AddsTo may l (later ++ k) → Part may l k
part_before may [] k l adds = record { part = l; begins = begins_itself l; adds = adds }
part_before may (v ∷ later) k l adds =
    ⊎_elim
    (λ (new : (may v ≡ true) × AddsTo may l (later ++ k)). part_before may later k l new.1)
    (λ (old : (g : History) × (l ≡ v ∷ g) × AddsTo may g (later ++ k)).
    let before = part_before may later k old.0 old.2 in
    record {
      part = before.part;
      begins = subst (IsBeginning before.part) (sym old.1) (begins_on before.part old.0 (v ∷ old.0) before.begins (v ∷ [], refl));
      adds = before.adds;
    })
    adds

-- an event of what adds to a history is one of it or was added
pub old_or_new : (may : Event → Bool) (v : Event) (l k : History) → AddsTo may l k → IsIn v k → IsIn v l ⊎ (may v ≡ true)
old_or_new may v l k adds found =
    let part = part_before may found.1.0 (v ∷ found.0) l (subst (AddsTo may l) (sym found.1.1) adds) in
    ⊎_elim
    (λ (new : (may v ≡ true) × AddsTo may part.part found.0). inr new.0)
    (λ (old : (g : History) × (part.part ≡ v ∷ g) × AddsTo may g found.0).
    inl (in_whole v part.part l part.begins (subst (IsIn v) (sym old.1) (in_here v old.0))))
    part.adds

-- what passes a test passes a weaker one
pub adds_weaker : (may might : Event → Bool) → ((v : Event) → may v ≡ true → might v ≡ true) → (l k : History) → AddsTo may l k → AddsTo might l k
adds_weaker may might weaker l [] adds = adds
adds_weaker may might weaker l (v ∷ k) adds =
    ⊎_elim
    (λ (new : (may v ≡ true) × AddsTo may l k). inl (weaker v new.0, adds_weaker may might weaker l k new.1))
    (λ (old : (g : History) × (l ≡ v ∷ g) × AddsTo may g k). inr (old.0, old.1, adds_weaker may might weaker old.0 k old.2))
    adds
