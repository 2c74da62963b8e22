-- Who waits for what, after one waits or some are woken.
use Rattle.std.proofs.Common.{◌≡◌, ℕ, List, [], ◌++◌, cond, Option, Some, None, true, false, refl, sym, ap, ◌∙◌, append-nil}
use Rattle.std.specs.Prelude.{nat_eq, if◌then◌else◌, unwrap_or, Result, Ok, Err, OnErr}
use Rattle.std.specs.Option.{option_map_or}
use Rattle.std.proofs.lemmas.Bool.{eqb-true}
use Rattle.std.specs.Global.{Vec}
use Rattle.std.specs.Map.{lookup}
use Rattle.indexmap.specs.IndexMap.{get, IsUnchanged, Updates}
use Rattle.exercise_audit.specs.Waiting.{Waiting, waiting_for, Leaves, WaitsOn}

abbrev listed : Option (Vec ℕ) → List ℕ
listed o = option_map_or (λ stations. stations.items) o []

-- who waits for an entry, after one list was put or taken out
after : (old new : Waiting) (entry : ℕ) (w : Option (Vec ℕ)) → Updates nat_eq old new entry w → (i : ℕ)
    → waiting_for new i ≡ (if nat_eq entry i then listed w else waiting_for old i)
unfolding waiting_for
after old new entry w updates i =
    ap listed (updates.0 i) ∙ elim (nat_eq entry i) as (λ t. listed (cond t w (get nat_eq old i)) ≡ cond t (listed w) (listed (get nat_eq old i))) [
      | true ↦ refl
      | false ↦ refl
    ]

-- where more is put behind those that waited
pub joined : (old new : Waiting) (entry : ℕ) (w : Vec ℕ) (more : List ℕ) → Updates nat_eq old new entry (Some w)
    → w.items ≡ waiting_for old entry ++ more → (i : ℕ)
    → waiting_for new i ≡ waiting_for old i ++ (if nat_eq entry i then more else [])
joined old new entry w more updates items i =
    after old new entry (Some w) updates i ∙ elim (nat_eq entry i) as
    (λ t. nat_eq entry i ≡ t → cond t w.items (waiting_for old i) ≡ waiting_for old i ++ cond t more []) [
      | true ↦ λ same. items ∙ ap (λ k. waiting_for old k ++ more) (eqb-true entry i same)
      | false ↦ λ _. sym (append-nil (waiting_for old i))
    ] refl

pub kept : (old new : Waiting) (entry : ℕ) (w : Vec ℕ) → Updates nat_eq old new entry (Some w)
    → w.items ≡ waiting_for old entry → WaitsOn old new
kept old new entry w updates items i =
    joined old new entry w [] updates (items ∙ sym (append-nil (waiting_for old entry))) i
    ∙ elim (nat_eq entry i) as (λ t. waiting_for old i ++ cond t [] [] ≡ waiting_for old i) [
      | true ↦ append-nil (waiting_for old i)
      | false ↦ append-nil (waiting_for old i)
    ]

-- those that waited, as the entry of the table has them
listed_or : (o : Option (Vec ℕ)) (none : Vec ℕ) → none.items ≡ [] → (unwrap_or o none).items ≡ listed o
listed_or None none e = e
listed_or (Some w) none e = refl

pub had : (old : Waiting) (entry : ℕ) (o : Option (Vec ℕ)) (none w : Vec ℕ) → none.items ≡ [] → o ≡ get nat_eq old entry → w ≡ unwrap_or o none
    → w.items ≡ waiting_for old entry
unfolding waiting_for
had old entry o none w empty is value = ap (λ v. v.items) value ∙ ap (λ p. (unwrap_or p none).items) is ∙ listed_or (get nat_eq old entry) none empty

pub left : (old new : Waiting) (entry : ℕ) → Updates nat_eq old new entry None → Leaves old new entry
left old new entry updates i = after old new entry None updates i

pub unchanged : (old new : Waiting) → IsUnchanged old new → WaitsOn old new
unfolding waiting_for
unchanged old new same i = ap (λ es. listed (lookup (nat_eq i) es)) same

pub on_err : {A E : Type 0} (result : Result A E) (P : Type 0) → P → OnErr result P
on_err (Ok a) P p = tt
on_err (Err e) P p = p
