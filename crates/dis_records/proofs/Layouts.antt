-- Fields one after the other.
use Rattle.std.proofs.Common.{◌≡◌, ℕ, zero, suc, ◌+◌, ◌-◌, ◌*◌, List, [], ◌∷◌, ◌++◌, length, map, take, drop, refl, sym, ap, subst, ◌∙◌, append_assoc, arith}
use Rattle.std.specs.Int.{w32}
use Rattle.dis_records.specs.declared.datum.FixedDatum.{FixedDatum}
use Rattle.dis_records.specs.Layout.{Field, ArePlacedAt, field_size, field_text, size, text, total, spelled_number, value_at, bytes_for, cleared}
use Rattle.dis_records.specs.Datum.{Datum, padded, fixed_layouts, id_layouts, variable_layout, variable_layouts, canonical}
use Rattle.dis_records.specs.Records.{fixed_at, ids_at, variable_sizes, variable_at}

pub size-append : (fs gs : List Field) → size (fs ++ gs) ≡ size fs + size gs
size-append [] gs = omega arith
size-append (f ∷ fs) gs = omega (arith, size-append fs gs)

pub text-append : (fs gs : List Field) → text (fs ++ gs) ≡ text fs ++ text gs
text-append [] gs = refl
text-append (f ∷ fs) gs = ap (λ (bytes : List ℕ). field_text f ++ bytes) (text-append fs gs) ∙ sym (append_assoc (field_text f) (text fs) (text gs))

pub join : (fs gs : List Field) (at : ℕ) (b : List ℕ) → ArePlacedAt fs at b → ArePlacedAt gs (at + size fs) b → ArePlacedAt (fs ++ gs) at b
join [] gs at b front back = let e : at + 0 ≡ at = omega arith in subst (λ (n : ℕ). ArePlacedAt gs n b) e back
join (f ∷ fs) gs at b front back =
    let e : at + (field_size f + size fs) ≡ at + field_size f + size fs = omega arith in
    (front.0, join fs gs (at + field_size f) b front.1 (subst (λ (n : ℕ). ArePlacedAt gs n b) e back))

pub split : (fs gs : List Field) (at : ℕ) (b : List ℕ) → ArePlacedAt (fs ++ gs) at b → ArePlacedAt fs at b × ArePlacedAt gs (at + size fs) b
split [] gs at b both = let e : at ≡ at + 0 = omega arith in (tt, subst (λ (n : ℕ). ArePlacedAt gs n b) e both)
split (f ∷ fs) gs at b both =
    let e : at + field_size f + size fs ≡ at + (field_size f + size fs) = omega arith in
    let others = split fs gs (at + field_size f) b both.1 in
    ((both.0, others.0), subst (λ (n : ℕ). ArePlacedAt gs n b) e others.1)

-- ---- fixed records

pub size-fixed_layouts : (ds : List FixedDatum) → size (fixed_layouts ds) ≡ 8 * length ds
size-fixed_layouts [] = refl
size-fixed_layouts (d ∷ ds) = omega (arith, size-fixed_layouts ds)

pub length-fixed_at : (n at : ℕ) (b : List ℕ) → length (fixed_at n at b) ≡ n
unfolding fixed_at
length-fixed_at zero at b = refl
length-fixed_at (suc n) at b = ap suc (length-fixed_at n (at + 8) b)

pub fixed_stand : (n at : ℕ) (b : List ℕ) → ArePlacedAt (fixed_layouts (fixed_at n at b)) at b
unfolding fixed_at
fixed_stand zero at b = tt
fixed_stand (suc n) at b =
    let e : at + 8 ≡ at + 4 + 4 = omega arith in
    (refl, (refl, subst (λ (k : ℕ). ArePlacedAt (fixed_layouts (fixed_at n (at + 8) b)) k b) e (fixed_stand n (at + 8) b)))

fixed_same : (d : FixedDatum) (id value : ℕ) (ds es : List FixedDatum) → d.id ≡ id → d.value ≡ value → ds ≡ es
    → d ∷ ds ≡ record { id = id; value = value } ∷ es
fixed_same d id value ds es p q r = rw (← p, ← q, r) refl

pub fixed_is : (ds : List FixedDatum) (at : ℕ) (b : List ℕ) → ArePlacedAt (fixed_layouts ds) at b → ds ≡ fixed_at (length ds) at b
unfolding fixed_at
fixed_is [] at b stand = refl
fixed_is (d ∷ ds) at b stand =
    let e : at + 4 + 4 ≡ at + 8 = omega arith in
    let others = fixed_is ds (at + 8) b (subst (λ (k : ℕ). ArePlacedAt (fixed_layouts ds) k b) e stand.1.1) in
    fixed_same d (spelled_number w32 at b) (spelled_number w32 (at + 4) b) ds (fixed_at (length ds) (at + 8) b) stand.0 stand.1.0 others

-- ---- identifiers

pub size-id_layouts : (ids : List ℕ) → size (id_layouts ids) ≡ 4 * length ids
size-id_layouts [] = refl
size-id_layouts (id ∷ ids) = omega (arith, size-id_layouts ids)

pub length-ids_at : (n at : ℕ) (b : List ℕ) → length (ids_at n at b) ≡ n
unfolding ids_at
length-ids_at zero at b = refl
length-ids_at (suc n) at b = ap suc (length-ids_at n (at + 4) b)

pub ids_stand : (n at : ℕ) (b : List ℕ) → ArePlacedAt (id_layouts (ids_at n at b)) at b
unfolding ids_at
ids_stand zero at b = tt
ids_stand (suc n) at b = (refl, ids_stand n (at + 4) b)

pub ids_are : (ids : List ℕ) (at : ℕ) (b : List ℕ) → ArePlacedAt (id_layouts ids) at b → ids ≡ ids_at (length ids) at b
unfolding ids_at
ids_are [] at b stand = refl
ids_are (id ∷ ids) at b stand = let first : id ≡ spelled_number w32 at b = stand.0 in let others = ids_are ids (at + 4) b stand.1 in cc

-- ---- variable records

after : (at bits : ℕ) → at + 4 + 4 + bytes_for bits + (padded bits - 8 - bytes_for bits) ≡ at + padded bits
after at bits = omega arith

pub length-variable_at : (n at : ℕ) (b : List ℕ) → length (variable_at n at b) ≡ n
unfolding variable_at
length-variable_at zero at b = refl
length-variable_at (suc n) at b = ap suc (length-variable_at n (at + padded (spelled_number w32 (at + 4) b)) b)

pub size-variable_layout : (d : Datum) → size (variable_layout d) ≡ padded d.bits
size-variable_layout d = omega arith

pub variable_stand : (n at : ℕ) (b : List ℕ)
    → ArePlacedAt (variable_layouts (map canonical (variable_at n at b))) at b ×
    (size (variable_layouts (map canonical (variable_at n at b))) ≡ total (variable_sizes n at b))
unfolding variable_at variable_sizes value_at
variable_stand zero at b = (tt, refl)
variable_stand (suc n) at b =
    let bits = spelled_number w32 (at + 4) b in
    let others = variable_stand n (at + padded bits) b in
    let value : cleared bits (take (bytes_for bits) (drop (at + 8) b)) ≡ cleared bits
    (take (bytes_for bits) (drop (at + 4 + 4) b)) = let e : at + 8 ≡ at + 4 + 4 = omega arith in rw e refl in
    ((refl, (refl, (value, (tt, subst (λ (k : ℕ). ArePlacedAt (variable_layouts (map canonical (variable_at n (at + padded bits) b))) k b) (sym (after at bits)) others.0)))), omega (arith, others.1))

variable_same : (d : Datum) (id bits : ℕ) (bytes : List ℕ) (ds es : List Datum) → d.id ≡ id → d.bits ≡ bits → d.bytes ≡ bytes → ds ≡ es
    → d ∷ ds ≡ record { id = id; bits = bits; bytes = bytes } ∷ es
variable_same d id bits bytes ds es p q r s = rw (← p, ← q, ← r, s) refl

pub variable_is : (ds : List Datum) (at : ℕ) (b : List ℕ) → ArePlacedAt (variable_layouts ds) at b
    → (ds ≡ map canonical (variable_at (length ds) at b)) × (size (variable_layouts ds) ≡ total (variable_sizes (length ds) at b))
unfolding variable_at variable_sizes value_at
variable_is [] at b stand = (refl, refl)
variable_is (d ∷ ds) at b stand =
    let bits = spelled_number w32 (at + 4) b in
    let bits_is : d.bits ≡ bits = stand.1.0 in
    let here : at + 4 + 4 + bytes_for d.bits + (padded d.bits - 8 - bytes_for d.bits) ≡ at + padded bits = rw (← bits_is) (after at d.bits) in
    let others = variable_is ds (at + padded bits) b (subst (λ (k : ℕ). ArePlacedAt (variable_layouts ds) k b) here stand.1.1.1.1) in
    let value : d.bytes ≡ cleared bits (take (bytes_for bits) (drop (at + 8) b)) = let e : at + 8 ≡ at + 4 + 4 = omega arith in rw (e, ← bits_is) stand.1.1.0 in (
      variable_same d (spelled_number w32 at b) bits (cleared bits (take (bytes_for bits) (drop (at + 8) b))) ds
          (map canonical (variable_at (length ds) (at + padded bits) b)) stand.0 bits_is value others.0,
      omega (arith, others.1, bits_is),
    )
