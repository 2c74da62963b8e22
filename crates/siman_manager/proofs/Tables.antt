-- The table of the orders, as the list of its values.
use Rattle.std.proofs.Common.{◌≡◌, ℕ, zero, suc, ◌+◌, ◌-◌, ◌<◌, ◌≤◌, List, [], ◌∷◌, ◌++◌, length, set, refl, ap, sym, ◌∙◌, subst, arith}
use Rattle.std.specs.Prelude.{Bool, true, false, cond, ◌==◌, nat_eq, position, Option, Some, None, SomeIff, if◌then◌else◌}
use Rattle.std.specs.List.{position_from}
use Rattle.std.specs.Map.{keys_of, values_of}
use Rattle.std.proofs.lemmas.Bool.Decides.{nat_tests}
use Rattle.std.proofs.lemmas.List.{length-map}
use Rattle.std.proofs.lemmas.Iterator.Adapters.{position_from-zero}
use Rattle.indexmap.specs.IndexMap.{keys, values, index_map_len, insert_entry, set_value_at, with_value_at}
use Rattle.indexmap.proofs.CallerLemmas.{keys-with_value_at, index_map_len-with_value_at}
use Rattle.siman_manager.specs.Table.{Table, numbers_from, IsNumbered}
use Rattle.siman_manager.specs.declared.kept.MadeOrder.{MadeOrder}

values_of-set : {X : Type 0} (es : List (ℕ × X)) (i : ℕ) (w : X) → values_of (set_value_at es i w) ≡ set (values_of es) i w
values_of-set [] i w = refl
values_of-set (e ∷ es) zero w = refl
values_of-set (e ∷ es) (suc i) w = ap (λ vs. e.1 ∷ vs) (values_of-set es i w)

pub values-with_value_at : (m : Table) (i : ℕ) (w : MadeOrder) → values (with_value_at m i w) ≡ set (values m) i w
values-with_value_at m i w = values_of-set m.entries i w

pub keys-written : (m : Table) (i : ℕ) (w : MadeOrder) → keys (with_value_at m i w) ≡ keys m
keys-written m i w = keys-with_value_at m i w

pub len-written : (m : Table) (i : ℕ) (w : MadeOrder) → index_map_len (with_value_at m i w) ≡ index_map_len m
len-written m i w = index_map_len-with_value_at m i w

pub length-values : (m : Table) → length (values m) ≡ index_map_len m
length-values m = length-map m.entries (λ e. e.1)

-- Where an identifier stands.

some_iff : {X : Type 0} (o : Option X) (P Q : Type 0) (v w : X) → (P → Q) → (Q → P) → (P → v ≡ w) → SomeIff o P v → SomeIff o Q w
some_iff None P Q v w f g e h = λ q. h (g q)
some_iff (Some x) P Q v w f g e h = (f h.0, h.1 ∙ e h.0)

next_number : (id n first i : ℕ) (b : Bool) → (id == first) ≡ b
    → SomeIff (position_from (nat_eq id) (i + 1) (numbers_from (suc first) n)) ((suc first ≤ id) × (id < suc first + n)) (i + 1 + (id - suc first))
    → SomeIff (cond b (Some i) (position_from (nat_eq id) (i + 1) (numbers_from (suc first) n))) ((first ≤ id) × (id < first + suc n)) (i + (id - first))
next_number id n first i true t rest = let same : id ≡ first = grind (arith, nat_tests) in ((omega arith, omega arith), omega arith)
next_number id n first i false t rest =
    some_iff (position_from (nat_eq id) (i + 1) (numbers_from (suc first) n)) ((suc first ≤ id) × (id < suc first + n)) ((first ≤ id) × (id < first + suc n))
    (i + 1 + (id - suc first)) (i + (id - first))
    (λ h. let low : suc first ≤ id = h.0 in let high : id < suc first + n = h.1 in (omega arith, omega arith))
    (λ h. let low : first ≤ id = h.0 in let high : id < first + suc n = h.1 in let up : suc first ≤ id = above low in (up, omega arith))
    (λ h. let low : suc first ≤ id = h.0 in omega arith)
    rest
  where
    above : first ≤ id → suc first ≤ id
    above low = grind (arith, nat_tests)

place-numbers : (id n first i : ℕ) → SomeIff (position_from (nat_eq id) i (numbers_from first n)) ((first ≤ id) × (id < first + n)) (i + (id - first))
place-numbers id zero first i = λ h. let low : first ≤ id = h.0 in let high : id < first + 0 = h.1 in absurd (omega arith)
place-numbers id (suc n) first i = next_number id n first i (id == first) refl (place-numbers id n (suc first) (i + 1))

-- The place of an identifier in a table that is numbered.
pub place_known : (first id : ℕ) (m : Table) → IsNumbered first m
    → SomeIff (position (nat_eq id) (keys m)) ((first ≤ id) × (id < first + index_map_len m)) (id - first)
place_known first id m numbered =
    subst (λ (v : ℕ). SomeIff (position (nat_eq id) (keys m)) ((first ≤ id) × (id < first + index_map_len m)) v) zero_first
    (subst (λ (o : Option ℕ). SomeIff o ((first ≤ id) × (id < first + index_map_len m)) (0 + (id - first)))
    (sym (ap (position (nat_eq id)) numbered ∙ position_from-zero (nat_eq id) (numbers_from first (index_map_len m))))
    (place-numbers id (index_map_len m) first 0)) where
      zero_first : 0 + (id - first) ≡ id - first
      zero_first = omega arith

-- The next identifier goes last.

-- what a table is after the next identifier was inserted
pub record InsertsNext (first : ℕ) (old new : List (ℕ × MadeOrder)) (kept : MadeOrder) : Type 0 where
  pub keys : keys_of new ≡ numbers_from first (suc (length old))
  pub values : values_of new ≡ values_of old ++ kept ∷ []
  pub len : length new ≡ suc (length old)

tail_of : (a b : ℕ) (xs ys : List ℕ) → a ∷ xs ≡ b ∷ ys → xs ≡ ys
tail_of a b xs ys e = cc

head_of : (a b : ℕ) (xs ys : List ℕ) → a ∷ xs ≡ b ∷ ys → a ≡ b
head_of a b xs ys e = cc

pub inserts_next : (es : List (ℕ × MadeOrder)) (first id : ℕ) (kept : MadeOrder) → keys_of es ≡ numbers_from first (length es)
    → id ≡ first + length es → InsertsNext first es (insert_entry nat_eq es id kept) kept
inserts_next [] first id kept e at = let same : id ≡ first = omega arith in record { keys = ap (λ i. i ∷ []) same; values = refl; len = refl }
inserts_next (x ∷ es) first id kept e at =
    let key : x.0 ≡ first = head_of x.0 first (keys_of es) (numbers_from (suc first) (length es)) e in
    let apart : nat_eq id x.0 ≡ false = grind (arith, nat_tests) in
    let rest : InsertsNext (suc first) es (insert_entry nat_eq es id kept) kept =
    inserts_next es (suc first) id kept (tail_of x.0 first (keys_of es) (numbers_from (suc first) (length es)) e) (omega arith) in
    subst (λ (new : List (ℕ × MadeOrder)). InsertsNext first (x ∷ es) new kept)
    (sym (ap (λ (b : Bool). if b then (x.0, kept) ∷ es else x ∷ insert_entry nat_eq es id kept) apart))
    (record { keys = ap (λ ns. x.0 ∷ ns) rest.keys ∙ ap (λ i. i ∷ numbers_from (suc first) (suc (length es))) key; values = ap (λ vs. x.1 ∷ vs) rest.values; len = ap suc rest.len })

pub made_next : (first id : ℕ) (old new : Table) (kept : MadeOrder) → IsNumbered first old → id ≡ first + index_map_len old
    → new.entries ≡ insert_entry nat_eq old.entries id kept
    → InsertsNext first old.entries new.entries kept
made_next first id old new kept numbered at e =
    subst (λ (es : List (ℕ × MadeOrder)). InsertsNext first old.entries es kept) (sym e) (inserts_next old.entries first id kept numbered at)
